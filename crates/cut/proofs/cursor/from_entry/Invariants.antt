use Rattle.std.proofs.Common.{length, drop, ◌-◌, ◌≡◌, ◌≤◌}
use Rattle.cut.specs.RunPlace.{kept_of_runs}
use Rattle.cut.proofs.cursor.from_entry.Given as goal

abbrev pub invariant-loop-passed : goal.invariant-loop-passed
invariant-loop-passed l =
    (kept_of_runs (drop l.passed l.runs) ≡ kept_of_runs l.fn.runs)
    × (l.passed ≤ length l.runs)

abbrev pub decreases-loop-passed : goal.decreases-loop-passed
decreases-loop-passed l = length l.runs - l.passed
