use Rattle.std.proofs.Common.{◌≤◌, ◌<◌, ◌-◌}
use Rattle.cut.proofs.Filled.{IsFilling}
use Rattle.cut.proofs.open_block.OpenBlock.take_in.Given as goal

abbrev pub invariant-loop-taken : goal.invariant-loop-taken
invariant-loop-taken l = IsFilling l.options l.fn.self l.taken l.walk.rest l.walk.before l.len l.since × (0 < l.taken) × (l.taken ≤ l.most)

abbrev pub decreases-loop-taken : goal.decreases-loop-taken
decreases-loop-taken l = l.most - l.taken
