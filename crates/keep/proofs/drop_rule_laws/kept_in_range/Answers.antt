use Rattle.keep.proofs.ComposedRanges.{kept_in_range_law}
use Rattle.keep.proofs.drop_rule_laws.kept_in_range.Goals as goal

pub returns : goal.returns
returns g c = kept_in_range_law g.C.Comparator.cmp g.met.C.Comparator.total
