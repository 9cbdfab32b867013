use Rattle.compact.proofs.RowFacts as lemma
use Rattle.compact.proofs.closure.first_alone_is_not_closed.Goals as goal

pub returns : goal.returns
returns g c = lemma.not_closed g.C.Comparator.cmp
