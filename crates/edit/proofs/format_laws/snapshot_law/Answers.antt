use Rattle.edit.proofs.Remade.{remade}
use Rattle.edit.proofs.format_laws.snapshot_law.Goals as goal

pub returns : goal.returns
returns g c = λ name v h. remade g.met.C.Comparator.total name v h
