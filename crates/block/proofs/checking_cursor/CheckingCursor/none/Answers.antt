use Rattle.std.proofs.Common.{[]}
use Rattle.block.proofs.CheckingSteps.{passes_none}
use Rattle.block.proofs.checking_cursor.CheckingCursor.none.Goals as goal

pub invariant_of-result : goal.invariant_of-result
invariant_of-result c = passes_none [] [] _
