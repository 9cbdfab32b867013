use Rattle.pick.proofs.ApartChoices as lemma
use Rattle.pick.proofs.apart_laws.apart_share_none.Goals as goal

pub returns : goal.returns
returns g c = lemma.apart_share_none g.C.Comparator.cmp g.met.C.Comparator.total
