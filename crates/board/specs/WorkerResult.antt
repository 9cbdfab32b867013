-- What one worker did, and what came back of several.
use Rattle.std.specs.Prelude.{◌≡◌, ℕ, ◌+◌, ◌<◌, ◌≤◌, List, [], ◌∷◌, map, Option, None, Some, All}
use Rattle.std.specs.Prelude.{length, slice_index_or}
use Rattle.coding.specs.declared.fault.Fault.{Fault}
use Rattle.board.specs.declared.shift.Shift.{Shift}
use Rattle.board.specs.Shares.{times}
use Rattle.board.specs.Progress.{Layout, Progress, HasEachShare, IsUnspent}
use Rattle.board.specs.FinishedSeats.{HasSpentAll, all_empty, all_done, all_failed}
use Rattle.board.specs.RunAnswer.{IsFaultOf, IsResult}

-- the least of the numbers that failed, with a fault of that job; None if none failed
abbrev pub IsLeastFailed : (ℕ → Option Fault) → List ℕ → Option (ℕ × Fault) → Type 0
IsLeastFailed refusal failed None = failed ≡ []
IsLeastFailed refusal failed (Some r) = (0 < times r.0 failed)
    × ((x : ℕ) → 0 < times x failed → r.0 ≤ x) × IsFaultOf refusal r.0 r.1

-- there is a result at this place
abbrev pub HasPlace : {O : Type 0} → List (Option O) → ℕ → Type 0
HasPlace {O} places i = (out : O) × (slice_index_or places i None ≡ Some out)

module _ {O : Type 0} (refusal : ℕ → Option Fault) (gives : ℕ → O → Type 0) where
  -- A worker at its seat. The due jobs were drawn and aren't spent yet.
  pub record IsWorking (of : Layout) (due_jobs : List ℕ) (s : Shift O) : Type 0 where
    pub board : s.seat.board ≡ of
    pub spent : (x : ℕ) →
        times x s.seat.drawn ≤
        (times x s.seat.done + times x s.seat.failed + times x s.seat.skipped) + times x due_jobs
    pub due : (x : ℕ) → 0 < times x due_jobs → x < of.jobs
    pub within : (x : ℕ) → 0 < times x s.seat.done → x < of.jobs
    pub done : s.seat.done ≡ map (λ r. r.0) s.results.items
    pub results : All (IsResult refusal gives) s.results.items
    pub refused : IsLeastFailed refusal s.seat.failed s.refused

  -- a worker that has drawn a job and not yet spent it
  pub record HasDrawn (of : Layout) (job : ℕ) (s : Shift O) : Type 0 where
    pub works : IsWorking of (job ∷ []) s
    pub unspent : IsUnspent s.seat job

  -- the same worker after it has spent that job: nothing is due, and nothing else was drawn
  pub record HasSpent (of : Layout) (old new : Shift O) : Type 0 where
    pub works : IsWorking of [] new
    pub drawn : new.seat.drawn ≡ old.seat.drawn
    pub empty : new.seat.empty ≡ old.seat.empty

  -- what one worker leaves at its end
  pub record IsShift (of : Layout) (s : Shift O) : Type 0 where
    pub works : IsWorking of [] s
    pub empty : HasEachShare of.seats s.seat.empty

  -- each result is at the number of its job
  abbrev pub IsPlaced : List (Option O) → Type 0
  IsPlaced places = (i : ℕ) (out : O) → slice_index_or places i None ≡ Some out →
      IsResult refusal gives (i, out)

  -- What the workers of these seats left. Each result is at the number of its job.
  pub record IsFiled (of : Layout) (ps : List Progress) (places : List (Option O))
      (refused : Option (ℕ × Fault)) : Type 0 where
    pub boards : All (λ p. p.board ≡ of) ps
    pub spent : All HasSpentAll ps
    pub empty : 0 < length ps → HasEachShare of.seats (all_empty ps)
    pub long : length places ≡ of.jobs
    pub placed : IsPlaced places
    pub done : (i : ℕ) → 0 < times i (all_done ps) → HasPlace places i
    pub least : IsLeastFailed refusal (all_failed ps) refused
