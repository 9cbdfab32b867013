use Rattle.merge.proofs.Unions.{union_is_merged}
use Rattle.merge.proofs.union_laws.union_law.Goals as goal

pub returns : goal.returns
returns g c = union_is_merged g.C.Comparator.cmp g.met.C.Comparator.total
