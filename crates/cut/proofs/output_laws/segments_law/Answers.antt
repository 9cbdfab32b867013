use Rattle.cut.proofs.Segments.{segments_law as law}
use Rattle.cut.proofs.output_laws.segments_law.Goals as goal

pub returns : goal.returns
returns g c = law g.C.Comparator.cmp g.met.C.Comparator.total g.met.C.Comparator.exact
