use Rattle.pick.proofs.OneChoice as lemma
use Rattle.pick.proofs.choice_law.one_choice.Goals as goal

pub returns : goal.returns
returns g c = lemma.one_choice g.C.Comparator.cmp
