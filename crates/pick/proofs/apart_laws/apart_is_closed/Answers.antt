use Rattle.pick.proofs.ApartChoices as lemma
use Rattle.pick.proofs.apart_laws.apart_is_closed.Goals as goal

pub returns : goal.returns
returns g c = lemma.apart_is_closed g.C.Comparator.cmp g.met.C.Comparator.total
