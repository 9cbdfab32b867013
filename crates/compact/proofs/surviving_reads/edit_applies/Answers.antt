use Rattle.compact.proofs.AppliedEdit as lemma
use Rattle.compact.proofs.surviving_reads.edit_applies.Goals as goal

pub returns : goal.returns
returns g c = lemma.edit_applies g.C.Comparator.cmp g.met.C.Comparator.total
