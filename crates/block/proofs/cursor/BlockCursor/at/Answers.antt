use Rattle.std.proofs.Common.{rules}
use Rattle.block.proofs.cursor.BlockCursor.at.Goals as goal

pub returns-clause-from : goal.returns-clause-from
returns-clause-from c = search rules
