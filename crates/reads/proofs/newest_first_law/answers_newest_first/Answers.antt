use Rattle.reads.proofs.FallingEntries as lemma
use Rattle.reads.proofs.newest_first_law.answers_newest_first.Goals as goal

pub returns : goal.returns
returns c = lemma.answers_newest_first
