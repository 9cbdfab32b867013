use Rattle.install.proofs.JoinedBytes as lemma
use Rattle.levels.proofs.join_laws.edits_join.Goals as goal

pub returns : goal.returns
returns c = lemma.edits_join
