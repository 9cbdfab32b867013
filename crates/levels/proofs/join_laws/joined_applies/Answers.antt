use Rattle.levels.proofs.JoinedFiles as lemma
use Rattle.levels.proofs.join_laws.joined_applies.Goals as goal

pub returns : goal.returns
returns c = lemma.joined_applies
