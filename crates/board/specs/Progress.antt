-- What was done at a seat, and what each call adds to it.
use Rattle.std.specs.Prelude.{◌≡◌, ℕ, zero, suc, ◌+◌, ◌<◌, ◌≤◌, List, [], ◌∷◌, ◌++◌, length, Option}
use Rattle.std.specs.Prelude.{None, Some}
use Rattle.atomic_table.specs.Seated.{TableId}
use Rattle.board.specs.Shares.{times, IsInShare, share_in_turn}

-- a board: which one it is, and how many jobs and seats it has
pub record Layout : Type 0 where
  pub table : TableId
  pub jobs : ℕ
  pub seats : ℕ

-- What was done at the seat of this number: the jobs drawn, failed, skipped and done, the shares
-- seen empty, and what the fault word was at each look.
pub record Progress : Type 0 where
  pub board : Layout
  pub number : ℕ
  pub drawn : List ℕ
  pub empty : List ℕ
  pub failed : List ℕ
  pub looked : List ℕ
  pub skipped : List ℕ
  pub done : List ℕ

-- a seat at which nothing was done
abbrev pub unused_seat : Layout → ℕ → Progress
unused_seat board number =
    record {
      board = board;
      number = number;
      drawn = [];
      empty = [];
      failed = [];
      looked =
          [];
      skipped = [];
      done = [];
    }

-- the first m seats of a board at which nothing was done
abbrev pub unused_seats : Layout → ℕ → List Progress
unused_seats board zero = []
unused_seats board (suc m) = unused_seats board m ++ unused_seat board m ∷ []

-- the first m shares in turn, from that of seat s on
abbrev pub shares_in_turn : ℕ → ℕ → ℕ → List ℕ
shares_in_turn w s zero = []
shares_in_turn w s (suc m) = shares_in_turn w s m ++ share_in_turn w s m ∷ []

-- the shares that the seat saw empty are its own and the next ones in turn
abbrev pub SeesInTurn : Progress → Type 0
SeesInTurn p = p.empty ≡ shares_in_turn p.board.seats p.number (length p.empty)

-- the same seat with other lists of jobs drawn and shares seen empty
abbrev pub after_draw : Progress → List ℕ → List ℕ → Progress
after_draw p drawn empty = record p { drawn = drawn; empty = empty }

-- A seat draws x. It may see more shares empty, and nothing else of it changes. The job is one of
-- the first share in turn that the seat has not seen empty.
pub record DrawsJob (p : Progress) (x : ℕ) (q : Progress) : Type 0 where
  pub drawn : q ≡ after_draw p (p.drawn ++ x ∷ []) q.empty
  pub new : (x < p.board.jobs) × (times x p.drawn ≡ 0)
  pub empty : SeesInTurn p × (length p.empty ≤ length q.empty) × SeesInTurn q
      × (length q.empty < p.board.seats)
  pub share : IsInShare p.board.seats (share_in_turn p.board.seats p.number (length q.empty)) x

-- the list has each share of w
abbrev pub HasEachShare : ℕ → List ℕ → Type 0
HasEachShare w xs = (k : ℕ) → k < w → 0 < times k xs

-- a seat draws nothing: it has seen each share empty, and nothing else of it changes
pub record DrawsNone (p q : Progress) : Type 0 where
  pub same : q ≡ after_draw p p.drawn q.empty
  pub empty : SeesInTurn p × (length p.empty ≤ length q.empty) × SeesInTurn q
  pub each : HasEachShare p.board.seats q.empty

-- the job was drawn at this seat and isn't spent yet
abbrev pub IsUnspent : Progress → ℕ → Type 0
IsUnspent p x = times x p.done + times x p.failed + times x p.skipped < times x p.drawn

-- the job x was done, failed or skipped
abbrev pub after_done : Progress → ℕ → Progress
after_done p x = record p { done = p.done ++ x ∷ [] }

abbrev pub after_fail : Progress → ℕ → Progress
after_fail p x = record p { failed = p.failed ++ x ∷ [] }

abbrev pub after_skip : Progress → ℕ → Progress
after_skip p x = record p { skipped = p.skipped ++ x ∷ [] }

-- the fault word was looked at, and was y
abbrev pub after_look : Progress → ℕ → Progress
after_look p y = record p { looked = p.looked ++ y ∷ [] }

-- y is at most each number that this seat failed or saw in the fault word
abbrev pub IsAtMostSeen : Progress → ℕ → Type 0
IsAtMostSeen p y = (x : ℕ) → 0 < times x p.failed + times x p.looked → y ≤ x

-- the fault word while no job has failed
abbrev pub no_fault : ℕ
no_fault = 18446744073709551615

-- the fault word if this is the least job that failed
abbrev pub fault_word : Option ℕ → ℕ
fault_word None = no_fault
fault_word (Some y) = y
