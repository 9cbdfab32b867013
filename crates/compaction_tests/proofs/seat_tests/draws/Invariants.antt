use Rattle.std.proofs.Common.{◌≡◌}
use Rattle.compaction_tests.proofs.seat_tests.draws.Given as goal

abbrev pub invariant-loop-number : goal.invariant-loop-number
invariant-loop-number l = l.seat.board ≡ l.board
