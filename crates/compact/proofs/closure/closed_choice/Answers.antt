use Rattle.compact.proofs.SafeInputs as lemma
use Rattle.compact.proofs.closure.closed_choice.Goals as goal

pub returns : goal.returns
returns g c = lemma.inputs_over_closed g.C.Comparator.cmp g.met.C.Comparator.total
