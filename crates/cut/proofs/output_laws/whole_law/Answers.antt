use Rattle.cut.proofs.Apart.{whole_law as law}
use Rattle.cut.proofs.output_laws.whole_law.Goals as goal

pub returns : goal.returns
returns g c = law g.C.Comparator.cmp g.met.C.Comparator.total g.met.C.Comparator.exact
