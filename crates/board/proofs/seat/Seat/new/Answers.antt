use Rattle.board.proofs.Turns.{seats_new, counts_new}
use Rattle.board.proofs.seat.Seat.new.Goals as goal

pub invariant_of-result : goal.invariant_of-result
invariant_of-result c =
    let q = c.requires in
    (seats_new _ _ _ _ q.view q.number q.few.0 q.few.1, counts_new _ _ _ _ q.view c.new.ensures)
