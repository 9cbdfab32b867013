use Rattle.std.proofs.Common.{◌-◌, ◌≤◌, length}
use Rattle.keep.specs.Marks.{grandparents_below}
use Rattle.keep.proofs.grandparents.count_below.Given as goal

abbrev pub invariant-loop-passed : goal.invariant-loop-passed
invariant-loop-passed g l = l.passed ≤ grandparents_below g.C.Comparator.cmp l.grandparents l.key.bytes.now

abbrev pub decreases-loop-passed : goal.decreases-loop-passed
decreases-loop-passed g l = length l.grandparents - l.passed
