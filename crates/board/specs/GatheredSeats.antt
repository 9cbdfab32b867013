-- The seats of a closed board, taken in one after the other.
use Rattle.std.specs.Prelude.{◌≡◌, ℕ, ◌<◌, ◌≤◌, List, length, min}
use Rattle.board.specs.declared.gathered.Gathered.{Gathered}
use Rattle.board.specs.Shares.{times}
use Rattle.board.specs.Progress.{Layout, Progress}
use Rattle.board.specs.FinishedSeats.{all_drawn, all_empty, all_failed, all_looked, all_skipped}
use Rattle.board.specs.FinishedSeats.{all_done, times_spent}
use Rattle.board.specs.Seats.{layout}

-- the greatest count
abbrev pub greatest_count : ℕ
greatest_count = 18446744073709551615

-- the seats ps were taken in so far
pub record Gathers (of : Layout) (g : Gathered) (ps : List Progress) : Type 0 where
  pub board : layout g.token.table_id g.token.me.0.jobs g.token.me.0.seats ≡ of
  pub members : g.token.me.0.members ≡ length ps
  pub some : 0 < length ps
  pub drawn : (x : ℕ) → times x g.token.me.0.drawn ≡ times x (all_drawn ps)
  pub empty : (x : ℕ) → times x g.token.me.0.empty ≡ times x (all_empty ps)
  pub failed : (x : ℕ) → times x g.token.me.0.failed ≡ times x (all_failed ps)
  pub looked : (x : ℕ) → times x g.token.me.0.looked ≡ times x (all_looked ps)
  pub skipped : (x : ℕ) → times x g.token.me.0.skipped ≡ times x (all_skipped ps)
  pub spent : (x : ℕ) → times_spent x ps ≤ times x (all_drawn ps)
  pub counts : (g.done ≡ min (length (all_done ps)) greatest_count)
      × (g.failed ≡ min (length (all_failed ps)) greatest_count)
      × (g.skipped ≡ min (length (all_skipped ps)) greatest_count)
