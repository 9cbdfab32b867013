use Rattle.std.proofs.Common.{refl}
use Rattle.board.specs.Words.{word_of}
use Rattle.board.proofs.board.word_of.Goals as goal

pub returns-clause-value : goal.returns-clause-value
unfolding word_of
returns-clause-value c = refl
