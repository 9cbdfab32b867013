use Rattle.compact.proofs.StandingTogether as lemma
use Rattle.compact.proofs.closure.inputs_stand_together.Goals as goal

pub returns : goal.returns
returns g c = lemma.inputs_stand_together g.C.Comparator.cmp g.met.C.Comparator.total
