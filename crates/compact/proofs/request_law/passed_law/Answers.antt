use Rattle.compact.proofs.PassedRequests as lemma
use Rattle.compact.proofs.request_law.passed_law.Goals as goal

pub returns : goal.returns
returns g c = lemma.passed_law g.C.Comparator.cmp
