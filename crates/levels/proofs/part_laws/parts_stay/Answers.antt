use Rattle.levels.proofs.ApartStay as lemma
use Rattle.levels.proofs.part_laws.parts_stay.Goals as goal

pub returns-clause-apart : goal.returns-clause-apart
returns-clause-apart g c = lemma.parts_stand_apart g.C.Comparator.cmp g.met.C.Comparator.total

pub returns-clause-stay : goal.returns-clause-stay
returns-clause-stay g c = lemma.parts_stay g.C.Comparator.cmp g.met.C.Comparator.total g.met.C.Comparator.exact g.C.Comparator.short_keys c.table_reads_back.ensures c.passed_law.ensures
