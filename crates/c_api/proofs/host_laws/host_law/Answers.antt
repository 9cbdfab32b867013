use Rattle.keep.proofs.ComposedRanges.{ranges_compose_law}
use Rattle.keep.proofs.Distinct.{distinct_holds}
use Rattle.cut.proofs.RepeatedMarks.{of_ranges}
use Rattle.c_api.proofs.Hosts.{host_holds}
use Rattle.c_api.proofs.host_laws.host_law.Goals as goal

pub returns : goal.returns
returns g c =
    let cmp = g.C.Comparator.cmp in
    host_holds cmp g.C.Comparator.short_keys (ranges_compose_law cmp g.met.C.Comparator.total) (distinct_holds cmp g.met.C.Comparator.total g.met.C.Comparator.exact) (of_ranges cmp g.met.C.Comparator.total)
