use Rattle.std.proofs.Common.{◌-◌, ◌≤◌, length, drop}
use Rattle.cut.proofs.Skips.{IsSkipping}
use Rattle.cut.proofs.cursor.EntryCursor.skip.Given as goal

abbrev pub invariant-loop-passed : goal.invariant-loop-passed
invariant-loop-passed l = IsSkipping l.fn.self l.count (drop l.passed l.runs) l.left × (l.passed ≤ length l.runs)

abbrev pub decreases-loop-passed : goal.decreases-loop-passed
decreases-loop-passed l = length l.runs - l.passed
