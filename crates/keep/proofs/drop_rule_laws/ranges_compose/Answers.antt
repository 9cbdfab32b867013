use Rattle.keep.proofs.ComposedRanges.{ranges_compose_law}
use Rattle.keep.proofs.drop_rule_laws.ranges_compose.Goals as goal

pub returns : goal.returns
returns g c = ranges_compose_law g.C.Comparator.cmp g.met.C.Comparator.total
