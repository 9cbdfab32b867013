use Rattle.cut.proofs.RepeatedMarks.{of_ranges}
use Rattle.cut.proofs.output_laws.ranges_cut.Goals as goal

pub returns : goal.returns
returns g c = of_ranges g.C.Comparator.cmp g.met.C.Comparator.total
