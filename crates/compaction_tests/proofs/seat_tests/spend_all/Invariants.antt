use Rattle.std.proofs.Common.{◌≡◌, ◌-◌, length}
use Rattle.compaction_tests.proofs.seat_tests.spend_all.Given as goal

abbrev pub invariant-loop-job : goal.invariant-loop-job
invariant-loop-job l = l.seat.board ≡ l.board

abbrev pub decreases-loop-job : goal.decreases-loop-job
decreases-loop-job l = l.board.jobs - length l.seat.drawn
