use Rattle.compact.proofs.LawfulAfter as lemma
use Rattle.compact.proofs.surviving_reads.stands_after.Goals as goal

pub returns : goal.returns
returns g c = lemma.stands_after g.C.Comparator.cmp g.met.C.Comparator.total g.met.C.Comparator.exact g.C.Comparator.short_keys
