-- The rule of a board: how the words and the views of all seats hang together.
use Rattle.std.specs.Prelude.{◌≡◌, ◌⊎◌, ℕ, ◌+◌, ◌^◌, ◌<◌, ◌≤◌, List, [], ◌∷◌, ◌++◌, length}
use Rattle.std.specs.Prelude.{slice_index, slice_set, replicate, cond, ltb}
use mathlib.Core.Option.{some}
use lib.ListN.{get_elem?}
use Rattle.atomic_table.specs.Table.{State, Me, Step}
use Rattle.board.specs.declared.rule.SeatView.{SeatView}
use Rattle.board.specs.declared.rule.Extent.{Extent}
use Rattle.board.specs.Shares.{times}
use Rattle.board.specs.Progress.{no_fault}
use Rattle.board.specs.Words.{total, once_below, word_of, claims_of, claim_count, job_at}
use Rattle.board.specs.declared.limits.TheConstants.{MAX_JOBS, MAX_WORKERS}

-- `members` seats at which nothing was done
abbrev pub fresh_view : ℕ → ℕ → ℕ → SeatView
fresh_view members jobs seats =
    record {
      members = members;
      jobs = jobs;
      seats = seats;
      drawn = [];
      empty = [];
      failed =
          [];
      looked = [];
      skipped = [];
    }

abbrev pub view_after_draw : SeatView → ℕ → SeatView
view_after_draw v x = record v { drawn = v.drawn ++ x ∷ [] }

abbrev pub saw_empty : SeatView → ℕ → SeatView
saw_empty v k = record v { empty = v.empty ++ k ∷ [] }

abbrev pub has_failed : SeatView → ℕ → SeatView
has_failed v x = record v { failed = v.failed ++ x ∷ [] }

abbrev pub has_looked : SeatView → ℕ → SeatView
has_looked v x = record v { looked = v.looked ++ x ∷ [] }

abbrev pub has_skipped : SeatView → ℕ → SeatView
has_skipped v x = record v { skipped = v.skipped ++ x ∷ [] }

-- two views as one
abbrev pub gathered_views : SeatView → SeatView → SeatView
gathered_views v w = record {
  members = v.members + w.members;
  jobs = v.jobs;
  seats = v.seats;
  drawn = v.drawn ++ w.drawn;
  empty = v.empty ++ w.empty;
  failed = v.failed ++ w.failed;
  looked = v.looked ++ w.looked;
  skipped = v.skipped ++ w.skipped;
}

abbrev pub HasNoLists : SeatView → Type 0
HasNoLists v = (v.drawn ≡ []) × (v.empty ≡ []) × (v.failed ≡ []) × (v.looked ≡ [])
    × (v.skipped ≡ [])

-- What holds of one view. A view of no seat was joined into another one, and has no lists.
pub record Fits (n w : ℕ) (v : SeatView) : Type 0 where
  pub same : 0 < v.members → (v.jobs ≡ n) × (v.seats ≡ w)
  pub spent : v.members ≡ 0 → HasNoLists v
  pub once : (k : ℕ) → times k v.empty ≤ v.members

-- how often x is in these lists of all views together
abbrev pub times_drawn : ℕ → List SeatView → ℕ
times_drawn x views = total (λ v. times x v.drawn) views

abbrev pub times_empty : ℕ → List SeatView → ℕ
times_empty k views = total (λ v. times k v.empty) views

abbrev pub times_failed : ℕ → List SeatView → ℕ
times_failed x views = total (λ v. times x v.failed) views

abbrev pub times_looked : ℕ → List SeatView → ℕ
times_looked x views = total (λ v. times x v.looked) views

abbrev pub times_skipped : ℕ → List SeatView → ℕ
times_skipped x views = total (λ v. times x v.skipped) views

-- The numbers drawn are the first ones of each share, as many as its word says, each once. A word
-- is at most the number of jobs, plus one for each time that a seat saw the share empty.
pub record KeepsDrawn (n w : ℕ) (words : List ℕ) (views : List SeatView) : Type 0 where
  pub seats : (0 < w) × (w ≤ MAX_WORKERS)
  pub jobs : n ≤ MAX_JOBS
  pub wide : length words ≡ 65
  pub members : total (λ v. v.members) views ≡ w
  pub each : (i : ℕ) (v : SeatView) → get_elem? views i ≡ some v → Fits n w v
  pub drawn : (x : ℕ) → times_drawn x views ≡ claim_count n w (claims_of w words) x
  pub empty : (k : ℕ) → 0 < times_empty k views → (k < w) × (n ≤ job_at w k (claims_of w words k))
  pub bounded : (k : ℕ) → k < w → claims_of w words k ≤ n + times_empty k views

-- the words at first
abbrev pub opening_words : List ℕ
opening_words = slice_set (replicate 65 0) 64 no_fault

abbrev pub fault_of : List ℕ → ℕ
fault_of words = slice_index words 64

-- The fault word is the least number failed, or no_fault. Each look saw no_fault or a number that
-- failed, and the word has not risen since.
pub record KeepsFailed (n : ℕ) (words : List ℕ) (views : List SeatView) : Type 0 where
  pub found : (fault_of words ≡ no_fault) ⊎ (0 < times_failed (fault_of words) views)
  pub least : (x : ℕ) → 0 < times_failed x views → (x < n) × (fault_of words ≤ x)
  pub looked : (x : ℕ) → 0 < times_looked x views →
      (fault_of words ≤ x) × ((x ≡ no_fault) ⊎ (0 < times_failed x views))

-- each number skipped is above the least one failed
pub record KeepsSkipped (words : List ℕ) (views : List SeatView) : Type 0 where
  pub above : (x : ℕ) → 0 < times_skipped x views → fault_of words < x

-- the rule of a board of n jobs and w seats
pub record BoardRule (n w : ℕ) (words : List ℕ) (views : List SeatView) : Type 0 where
  pub drawn : KeepsDrawn n w words views
  pub failed : KeepsFailed n words views
  pub skipped : KeepsSkipped words views

-- the rule of a board, of a table's words and views
abbrev pub TableKeepsRule : Extent → State (Unit {0}) SeatView → Type 0
TableKeepsRule e s = BoardRule e.jobs e.seats s.words s.views

-- A claim of share k found c. If the job at that place is one of the board, it drew it, and it is
-- new. Else it saw the share empty.
pub record Claims (v : SeatView) (k c : ℕ) (v' : SeatView) : Type 0 where
  pub few : c < 2 ^ 41
  pub drew : job_at v.seats k c < v.jobs → v' ≡ view_after_draw v (job_at v.seats k c)
  pub new : job_at v.seats k c < v.jobs → times (job_at v.seats k c) v.drawn ≡ 0
  pub empty : v.jobs ≤ job_at v.seats k c → v' ≡ saw_empty v k

-- the fault word found is at most each number that the view failed or saw
pub record IsLeastFound (v : SeatView) (found : ℕ) : Type 0 where
  pub failed : (x : ℕ) → 0 < times x v.failed → (x < v.jobs) × (found ≤ x)
  pub looked : (x : ℕ) → 0 < times x v.looked → (found ≤ x) × ((x ≡ no_fault) ⊎ (x < v.jobs))

-- a claim of the share that has this word
abbrev pub StepClaims : Step (Unit {0}) → Me (Unit {0}) SeatView → ℕ → Me (Unit {0}) SeatView →
    Type 0
StepClaims st m c m' = ((k : ℕ) → k < m.0.seats → st.word ≡ word_of m.0.seats k →
    Claims m.0 k c m'.0) × (m'.1 ≡ m.1)

-- a settle: the operand failed
abbrev pub StepSettles : Step (Unit {0}) → Me (Unit {0}) SeatView → ℕ → Me (Unit {0}) SeatView →
    Type 0
StepSettles st m found m' = (m'.0 ≡ has_failed m.0 st.first) × (m'.1 ≡ m.1)

-- a look at the fault word
abbrev pub StepLooks : Step (Unit {0}) → Me (Unit {0}) SeatView → ℕ → Me (Unit {0}) SeatView →
    Type 0
StepLooks st m found m' = (m'.0 ≡ has_looked m.0 found) × IsLeastFound m.0 found × (m'.1 ≡ m.1)

-- the view after a look for job x, which is skipped if it is above what was found
abbrev pub has_looked_for : SeatView → ℕ → ℕ → SeatView
has_looked_for v x found = cond (ltb found x) (has_skipped (has_looked v found) x)
    (has_looked v found)

-- a look for job x at the fault word
abbrev pub StepSkips : ℕ → Step (Unit {0}) → Me (Unit {0}) SeatView → ℕ → Me (Unit {0}) SeatView →
    Type 0
StepSkips x st m found m' = (m'.0 ≡ has_looked_for m.0 x found) × IsLeastFound m.0 found
    × (m'.1 ≡ m.1)

-- what holds of a view that has the lists of all seats, and of the fault word
pub record IsWhole (v : SeatView) (fault : ℕ) : Type 0 where
  pub once : (x : ℕ) → times x v.drawn ≤ once_below x v.jobs
  pub all : ((k : ℕ) → k < v.seats → 0 < times k v.empty) → (x : ℕ) →
      times x v.drawn ≡ once_below x v.jobs
  pub found : (fault ≡ no_fault) ⊎ (0 < times fault v.failed)
  pub least : (x : ℕ) → 0 < times x v.failed → (x < v.jobs) × (fault ≤ x)
  pub looked : (x : ℕ) → 0 < times x v.looked → (x ≡ no_fault) ⊎ (0 < times x v.failed)
  pub skipped : (x : ℕ) → 0 < times x v.skipped → fault < x
