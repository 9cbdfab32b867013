use Rattle.std.proofs.Common.{rules}
use Rattle.table.proofs.builder.is_full.Goals as goal

pub returns-then-not-is_empty : goal.returns-then-not-is_empty
returns-then-not-is_empty c = search rules
