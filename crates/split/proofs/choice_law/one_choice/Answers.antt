use Rattle.split.proofs.OneChoice.{one_choice_law}
use Rattle.split.proofs.choice_law.one_choice.Goals as goal

pub returns : goal.returns
returns g c = one_choice_law g.C.Comparator.cmp g.met.C.Comparator.total
