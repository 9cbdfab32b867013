use Rattle.std.proofs.Common.{rules}
use Rattle.table.proofs.block_walk.entries_from.Goals as goal

pub returns-clause-from : goal.returns-clause-from
returns-clause-from g c = search rules
