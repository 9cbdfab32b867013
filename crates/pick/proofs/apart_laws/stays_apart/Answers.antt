use Rattle.pick.proofs.ApartChoices as lemma
use Rattle.pick.proofs.apart_laws.stays_apart.Goals as goal

pub returns : goal.returns
returns g c = lemma.stays_apart g.C.Comparator.cmp g.met.C.Comparator.total
