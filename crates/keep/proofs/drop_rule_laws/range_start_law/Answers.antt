use Rattle.keep.proofs.RangeWalks.{begun_same}
use Rattle.keep.proofs.drop_rule_laws.range_start_law.Goals as goal

pub returns : goal.returns
returns g c = begun_same g.C.Comparator.cmp g.met.C.Comparator.total
