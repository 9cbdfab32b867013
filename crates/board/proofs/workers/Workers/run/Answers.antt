use Rattle.std.proofs.Common.{◌≡◌, vec_len, arith, rules}
use Rattle.board.proofs.WorkerResults.{new_seats}
use Rattle.board.proofs.workers.Workers.run.Goals as goal

pub run_board-requires-clause-seats : goal.run_board-requires-clause-seats
run_board-requires-clause-seats g c κs within =
    let ok = c.in-Ok.ensures.ok in
    let s = new_seats c.in-Ok.board _ c.in-Ok.seats.items ok.1 c.in-Ok.ensures.unused in
    let len : vec_len c.in-Ok.seats ≡ c.in-Ok.board.seats = search (rules, s.1, s.2) in
    (s.0, len, omega (arith, s.2, c.seats_for.ensures))
