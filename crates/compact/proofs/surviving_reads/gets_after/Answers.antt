use Rattle.compact.proofs.Gets as lemma
use Rattle.compact.proofs.surviving_reads.gets_after.Goals as goal

pub returns : goal.returns
returns g c = lemma.gets_after g.C.Comparator.cmp g.met.C.Comparator.total g.met.C.Comparator.exact
