-- A seat as contracts see it, and what its fields say of its view.
use Rattle.std.specs.Prelude.{◌≡◌, ℕ, ◌+◌, ◌<◌, ◌≤◌, List, [], length}
use Rattle.atomic_table.specs.Table.{Me}
use Rattle.atomic_table.specs.Seated.{TableId}
use Rattle.board.specs.declared.rule.SeatView.{SeatView}
use Rattle.board.specs.Shares.{times}
use Rattle.board.specs.Progress.{Layout, Progress, shares_in_turn, unused_seat}
use Rattle.board.specs.declared.limits.TheConstants.{MAX_JOBS, MAX_WORKERS}

-- the board with this table, jobs and seats
abbrev pub layout : TableId → ℕ → ℕ → Layout
layout table jobs seats = record { table = table; jobs = jobs; seats = seats }

-- what was done at a seat: its view, and the jobs done
abbrev pub progress_of : TableId → ℕ → SeatView → List ℕ → Progress
progress_of table number v done =
    record {
      board = layout table v.jobs v.seats;
      number = number;
      drawn = v.drawn;
      empty =
          v.empty;
      failed = v.failed;
      looked = v.looked;
      skipped = v.skipped;
      done = done;
    }

-- a seat of this board at which nothing was done
pub record IsUnused (of : Layout) (p : Progress) : Type 0 where
  pub board : p.board ≡ of
  pub unused : p ≡ unused_seat p.board p.number

-- what the fields of a seat say of its view
pub record IsSeated (number passed jobs seats : ℕ) (me : Me (Unit {0}) SeatView) : Type 0 where
  pub slots : me.1 ≡ []
  pub one : me.0.members ≡ 1
  pub extent : (me.0.jobs ≡ jobs) × (me.0.seats ≡ seats)
  pub within : number < seats
  pub few : (seats ≤ MAX_WORKERS) × (jobs ≤ MAX_JOBS)
  pub passes : passed ≤ seats
  pub empty : me.0.empty ≡ shares_in_turn seats number passed

-- What was spent at a seat was drawn there, each number once. The counts are the lengths of the
-- lists.
pub record IsCounted (v : SeatView) (done : List ℕ) (done_count failed_count skipped_count : ℕ)
    : Type 0 where
  pub within : (x : ℕ) → 0 < times x v.drawn → x < v.jobs
  pub once : (x : ℕ) → times x v.drawn ≤ 1
  pub spent : (x : ℕ) → times x done + times x v.failed + times x v.skipped ≤ times x v.drawn
  pub counts : (done_count ≡ length done) × (failed_count ≡ length v.failed)
      × (skipped_count ≡ length v.skipped)
