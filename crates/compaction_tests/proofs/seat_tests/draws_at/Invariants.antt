use Rattle.std.proofs.Common.{◌≡◌, All}
use Rattle.compaction_tests.proofs.seat_tests.draws_at.Given as goal

abbrev pub invariant-loop : goal.invariant-loop
invariant-loop l = All (λ p. p.board ≡ l.board) l.made.items
