use Rattle.checks.proofs.BoundsLemmas.{bounds_tell}
use Rattle.checks.proofs.table_bounds.bounds_tell.Goals as goal

pub returns : goal.returns
returns g c = bounds_tell g.C.Comparator.cmp g.met.C.Comparator.total g.met.C.Comparator.exact
