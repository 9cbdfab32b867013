use Rattle.compact.proofs.PickedChoice as lemma
use Rattle.compact.proofs.closure.picked_choice.Goals as goal

pub returns : goal.returns
returns g c = lemma.picked_inputs_over g.C.Comparator.cmp g.met.C.Comparator.total
