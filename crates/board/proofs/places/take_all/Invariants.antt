use Rattle.std.proofs.Common.{◌≡◌, ◌<◌, ◌≤◌, ℕ, None, length, get_or, vec_capacity}
use Rattle.board.specs.RunAnswer.{IsResult}
use Rattle.board.proofs.places.take_all.Given as goal

abbrev pub invariant-loop-i : goal.invariant-loop-i
invariant-loop-i g l = record {
  long : length l.places.items ≡ length l.fn.places.items;
  count : length l.results.items ≡ l.i;
  room : length l.fn.places.items ≤ vec_capacity l.results;
  later : (k : ℕ) → l.i ≤ k → get_or l.places.items k None ≡ get_or l.fn.places.items k None;
  each : (k : ℕ) (d : g.row.L-Out.Denot) → k < l.i → IsResult (g.L.Labour.refusal l.labour) (g.L.Labour.gives l.labour) (k, get_or l.results.items k d);
}
