use Rattle.compact.proofs.SafeInputs as lemma
use Rattle.compact.proofs.closure.closed_inputs.Goals as goal

pub returns : goal.returns
returns g c = lemma.closed_inputs g.C.Comparator.cmp g.met.C.Comparator.total
