use Rattle.pick.proofs.PartsApart as lemma
use Rattle.pick.proofs.apart_laws.parts_share_none.Goals as goal

pub returns : goal.returns
returns g c = lemma.parts_share_none g.C.Comparator.cmp g.met.C.Comparator.total
