-- What was done at several seats together.
use Rattle.std.specs.Prelude.{◌≡◌, ◌⊎◌, ℕ, ◌+◌, ◌<◌, ◌≤◌, List, [], length, Option, None, Some}
use Rattle.std.specs.List.{flat_map}
use Rattle.board.specs.declared.tally.Tally.{Tally}
use Rattle.board.specs.Shares.{times}
use Rattle.board.specs.Progress.{Layout, Progress, HasEachShare, no_fault}

-- the lists of all seats, one after the other
abbrev pub all_drawn : List Progress → List ℕ
all_drawn ps = flat_map (λ (p : Progress). p.drawn) ps

abbrev pub all_empty : List Progress → List ℕ
all_empty ps = flat_map (λ (p : Progress). p.empty) ps

abbrev pub all_failed : List Progress → List ℕ
all_failed ps = flat_map (λ (p : Progress). p.failed) ps

abbrev pub all_looked : List Progress → List ℕ
all_looked ps = flat_map (λ (p : Progress). p.looked) ps

abbrev pub all_skipped : List Progress → List ℕ
all_skipped ps = flat_map (λ (p : Progress). p.skipped) ps

abbrev pub all_done : List Progress → List ℕ
all_done ps = flat_map (λ (p : Progress). p.done) ps

-- how often x was spent at all these seats
abbrev pub times_spent : ℕ → List Progress → ℕ
times_spent x ps = times x (all_done ps) + times x (all_failed ps) + times x (all_skipped ps)

-- each job that was drawn at this seat was spent there
abbrev pub HasSpentAll : Progress → Type 0
HasSpentAll p = (x : ℕ) → times x p.drawn ≤ times x p.done + times x p.failed + times x p.skipped

-- the tally counts what was done, failed and skipped at these seats
abbrev pub CountsOf : List Progress → Tally → Type 0
CountsOf ps t = (t.done ≡ length (all_done ps)) × (t.failed ≡ length (all_failed ps))
    × (t.skipped ≡ length (all_skipped ps))

-- the least of the numbers; None if there is none
abbrev pub IsLeastOf : List ℕ → Option ℕ → Type 0
IsLeastOf xs None = xs ≡ []
IsLeastOf xs (Some y) = (0 < times y xs) × ((x : ℕ) → 0 < times x xs → y ≤ x)

-- What holds of all seats of a board together:
-- - No job was drawn twice. If each share was seen empty, each job was drawn.
-- - The least fault is the least job that failed. A fault that was seen is a job that failed.
-- - A job that was skipped is above the least fault.
pub record IsFinished (board : Layout) (ps : List Progress) (found : Option ℕ) : Type 0 where
  pub once : (x : ℕ) → times x (all_drawn ps) ≤ 1
  pub below : (x : ℕ) → 0 < times x (all_drawn ps) → x < board.jobs
  pub all : HasEachShare board.seats (all_empty ps) → (x : ℕ) → x < board.jobs →
      times x (all_drawn ps) ≡ 1
  pub least : IsLeastOf (all_failed ps) found
  pub looked : (x : ℕ) → 0 < times x (all_looked ps) →
      (x ≡ no_fault) ⊎ (0 < times x (all_failed ps))
  pub skipped : (x : ℕ) → 0 < times x (all_skipped ps) → (y : ℕ) × (found ≡ Some y) × (y < x)
