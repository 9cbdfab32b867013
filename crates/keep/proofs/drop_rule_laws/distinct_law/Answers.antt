use Rattle.keep.proofs.Distinct.{distinct_holds}
use Rattle.keep.proofs.drop_rule_laws.distinct_law.Goals as goal

pub returns : goal.returns
returns g c = distinct_holds g.C.Comparator.cmp g.met.C.Comparator.total g.met.C.Comparator.exact
