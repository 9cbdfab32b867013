use Rattle.std.proofs.Common.{rules}
use Rattle.ikey.specs.Bytewise.{bytewise_separator}
use Rattle.ikey.proofs.bytewise.BytewiseComparator.separator.Goals as goal

pub returns-then-start-place : goal.returns-then-start-place
unfolding bytewise_separator
returns-then-start-place c = search rules
