use Rattle.std.proofs.Common.{◌≡◌, ◌≤◌, ◌-◌, length}
use Rattle.board.specs.Progress.{after_draw, SeesInTurn}
use Rattle.board.specs.Seats.{progress_of, IsSeated, IsCounted}
use Rattle.board.proofs.board.Board.draw.Given as goal

abbrev pub invariant-loop-seat : goal.invariant-loop-seat
invariant-loop-seat l = record {
  seated : IsSeated l.seat-inside.number l.seat-inside.passed l.seat-inside.jobs l.seat-inside.seats l.seat-inside.token.me;
  counted : IsCounted l.seat-inside.token.me.0 l.seat-inside.trail.items l.seat-inside.done l.seat-inside.failed l.seat-inside.skipped;
  so : progress_of l.seat-inside.token.table_id l.seat-inside.number l.seat-inside.token.me.0 l.seat-inside.trail.items ≡ after_draw l.fn.seat l.fn.seat.drawn l.seat-inside.token.me.0.empty;
  more : length l.fn.seat.empty ≤ l.seat-inside.passed;
  before : SeesInTurn l.fn.seat;
}

abbrev pub decreases-loop-seat : goal.decreases-loop-seat
decreases-loop-seat l = l.seat-inside.seats - l.seat-inside.passed
