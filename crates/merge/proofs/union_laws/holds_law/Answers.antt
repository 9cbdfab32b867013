use Rattle.merge.proofs.InRange.{holds_tells}
use Rattle.merge.proofs.union_laws.holds_law.Goals as goal

pub returns : goal.returns
returns g c = holds_tells g.C.Comparator.cmp
