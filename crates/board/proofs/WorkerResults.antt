-- What the workers leave, put together.
use Rattle.std.proofs.Common.{◌≡◌, ℕ, zero, suc, ◌+◌, ◌<◌, ◌≤◌, List, [], ◌∷◌, ◌++◌, map, length, get_or, All, Option, None, Some, replicate, refl, sym, ap, ◌∙◌, subst, arith, append_assoc, append-nil, length-append}
use Rattle.std.proofs.lemmas.List.Elements.{All-append, All-nil}
use Rattle.std.proofs.lemmas.Option.{none-some}
use Rattle.std.specs.List.{flat_map}
use native.Mathlib.Decide.{dec_le}
use Rattle.coding.specs.declared.fault.Fault.{Fault}
use Rattle.board.specs.declared.shift.Shift.{Shift}
use Rattle.board.specs.Shares.{times}
use Rattle.board.specs.Progress.{Layout, Progress, HasEachShare, unused_seat, unused_seats}
use Rattle.board.specs.FinishedSeats.{HasSpentAll, IsLeastOf, IsFinished, all_drawn, all_empty, all_done, all_failed, all_skipped, times_spent}
use Rattle.board.specs.RunAnswer.{IsRefused}
use Rattle.board.specs.Seats.{IsUnused}
use Rattle.board.specs.WorkerResult.{IsLeastFailed, IsShift, IsFiled, IsPlaced, HasPlace}
use Rattle.board.proofs.Sums.{times-append, same_one}
use Rattle.board.proofs.Workings.{all_one}
use Rattle.board.proofs.Closings.{all_front, all_last}

pub flat_map-snoc : (f : Progress → List ℕ) (ps : List Progress) (p : Progress) → flat_map f (ps ++ p ∷ []) ≡ flat_map f ps ++ f p
flat_map-snoc f [] p = append-nil (f p)
flat_map-snoc f (q ∷ ps) p = ap (λ l. f q ++ l) (flat_map-snoc f ps p) ∙ sym (append_assoc (f q) (flat_map f ps) (f p))

times-flat_map : (x : ℕ) (f : Progress → List ℕ) (ps : List Progress) (p : Progress) → times x (flat_map f (ps ++ p ∷ [])) ≡ times x (flat_map f ps) + times x (f p)
times-flat_map x f ps p = ap (times x) (flat_map-snoc f ps p) ∙ times-append x (flat_map f ps) (f p)

all_none : {O : Type 0} (n i : ℕ) → get_or (replicate {A = Option O} n None) i None ≡ None
all_none zero i = refl
all_none (suc n) zero = refl
all_none (suc n) (suc i) = all_none n i

module _ {O : Type 0} (refusal : ℕ → Option Fault) (gives : ℕ → O → Type 0) (of : Layout) where
  -- nothing came back yet
  pub files_none : (places : List (Option O)) → places ≡ replicate of.jobs None → length places ≡ of.jobs → IsFiled refusal gives of [] places None
  files_none places is long = record {
    boards = All-nil (λ p. p.board ≡ of);
    spent = All-nil HasSpentAll;
    empty = λ any. absurd (omega arith);
    long = long;
    placed = λ i out e. absurd (none-some out (sym (ap (λ l. get_or l i None) is ∙ all_none of.jobs i) ∙ e));
    done = λ i any. absurd (omega arith);
    least = refl;
  }

  pub files_more : (ps : List Progress) (places places' : List (Option O)) (refused refused' : Option (ℕ × Fault)) (s : Shift O)
      → IsFiled refusal gives of ps places refused → IsShift refusal gives of s
      → IsPlaced refusal gives places' → length places' ≡ length places → ((i : ℕ) → HasPlace places i → HasPlace places' i) → ((i : ℕ) → 0 < times i (map (λ r. r.0) s.results.items) → HasPlace places' i)
      → IsLeastFailed refusal (all_failed ps ++ s.seat.failed) refused'
      → IsFiled refusal gives of (ps ++ s.seat ∷ []) places' refused'
  files_more ps places places' refused refused' s h w placed long kept new least = record {
    boards = All-append (λ p. p.board ≡ of) ps (s.seat ∷ []) h.boards (all_one (λ p. p.board ≡ of) s.seat w.works.board);
    spent = All-append HasSpentAll ps (s.seat ∷ []) h.spent (all_one HasSpentAll s.seat (λ x. let q = w.works.spent x in omega arith));
    empty = λ any k lt. let e = times-flat_map k (λ p. p.empty) ps s.seat in let t = w.empty k lt in omega arith;
    long = long ∙ h.long;
    placed = placed;
    done = λ i any.
        let e = times-flat_map i (λ p. p.done) ps s.seat in
        elim (dec_le 1 (times i (all_done ps))) [
          | yes old ↦ kept i (h.done i old)
          | no none ↦ new i (let d : times i s.seat.done ≡ times i (map (λ r. r.0) s.results.items) = ap (times i) w.works.done in omega arith)
        ];
    least = subst (λ (l : List ℕ). IsLeastFailed refusal l refused') (sym (flat_map-snoc (λ p. p.failed) ps s.seat)) least;
  }

pub least_left : (refusal : ℕ → Option Fault) (xs ys : List ℕ) (r : ℕ × Fault) → IsLeastFailed refusal xs (Some r) → ((x : ℕ) → 0 < times x ys → r.0 ≤ x) → IsLeastFailed refusal (xs ++ ys) (Some r)
least_left refusal xs ys r h less = (
  (let e = times-append r.0 xs ys in let a = h.0 in omega arith),
  (λ x any. let e = times-append x xs ys in elim (dec_le 1 (times x xs)) [ yes one ↦ h.1 x one | no none ↦ less x (omega arith) ]),
  h.2,
)

pub least_right : (refusal : ℕ → Option Fault) (xs ys : List ℕ) (r : ℕ × Fault) → IsLeastFailed refusal ys (Some r) → ((x : ℕ) → 0 < times x xs → r.0 ≤ x) → IsLeastFailed refusal (xs ++ ys) (Some r)
least_right refusal xs ys r h less = (
  (let e = times-append r.0 xs ys in let a = h.0 in omega arith),
  (λ x any. let e = times-append x xs ys in elim (dec_le 1 (times x ys)) [ yes one ↦ h.1 x one | no none ↦ less x (omega arith) ]),
  h.2,
)

-- a number that was drawn by somebody, and neither failed nor skipped, was done
module _ (of : Layout) (ps : List Progress) (found : Option ℕ) (c : IsFinished of ps found) (spent : (x : ℕ) → times_spent x ps ≡ times x (all_drawn ps)) (all : HasEachShare of.seats (all_empty ps)) where
  -- a job that was skipped lies above one that failed
  skipped_tells : (i : ℕ) → 0 < times i (all_skipped ps) → (y : ℕ) × (0 < times y (all_failed ps)) × (y < i)
  skipped_tells i one =
      let s = c.skipped i one in
      let l : IsLeastOf (all_failed ps) (Some s.0) = subst (IsLeastOf (all_failed ps)) s.1 c.least in (s.0, l.0, s.2)

  -- if nobody failed
  pub done_all : all_failed ps ≡ [] → (i : ℕ) → i < of.jobs → 0 < times i (all_done ps)
  done_all none i lt =
      let d = c.all all i lt in let s = spent i in
      let f : times i (all_failed ps) ≡ 0 = ap (times i) none in
      elim (dec_le 1 (times i (all_skipped ps))) [
        | yes one ↦ (let t = skipped_tells i one in let a = t.1 in let z : times t.0 (all_failed ps) ≡ 0 = ap (times t.0) none in absurd (omega arith))
        | no no_one ↦ omega arith
      ]

  -- a job that failed is one of the board
  pub failed_within : (j : ℕ) → 0 < times j (all_failed ps) → j < of.jobs
  failed_within j any = c.below j (let s = spent j in omega arith)

  -- below the least job failed
  pub done_below : (j : ℕ) → 0 < times j (all_failed ps) → ((x : ℕ) → 0 < times x (all_failed ps) → j ≤ x) → (i : ℕ) → i < j → 0 < times i (all_done ps)
  done_below j any less i lt =
      let l = failed_within j any in
      let d = c.all all i (omega arith) in let s = spent i in
      elim (dec_le 1 (times i (all_failed ps))) [
        | yes one ↦ (let m = less i one in absurd (omega arith))
        | no not_failed ↦ elim (dec_le 1 (times i (all_skipped ps))) [
          | yes one ↦ (let t = skipped_tells i one in let m = less t.0 t.1 in let a = t.2 in absurd (omega arith))
          | no not_skipped ↦ omega arith
        ]
      ]

-- the numbers of the results of a worker are numbers of jobs
numbers_within : {O : Type 0} (rs : List (ℕ × O)) (n : ℕ) → ((x : ℕ) → 0 < times x (map (λ r. r.0) rs) → x < n) → All (λ (r : ℕ × O). r.0 < n) rs
numbers_within [] n each k d lt = absurd (omega arith)
numbers_within (r ∷ rs) n each zero d lt = each r.0 (let o = same_one r.0 in omega arith)
numbers_within (r ∷ rs) n each (suc k) d lt = numbers_within rs n (λ x any. each x (omega arith)) k d (omega arith)

pub shift_within : {O : Type 0} (refusal : ℕ → Option Fault) (gives : ℕ → O → Type 0) (of : Layout) (s : Shift O) (n : ℕ) → IsShift refusal gives of s → n ≡ of.jobs → All (λ (r : ℕ × O). r.0 < n) s.results.items
shift_within refusal gives of s n h is = numbers_within s.results.items n (λ x any. let t : times x s.seat.done ≡ times x (map (λ r. r.0) s.results.items) = ap (times x) h.works.done in let w = h.works.within x (omega arith) in omega arith)

pub last_shift : {O : Type 0} (refusal : ℕ → Option Fault) (gives : ℕ → O → Type 0) (of : Layout) (items rest : List (Shift O)) (s : Shift O) → All (IsShift refusal gives of) items → items ≡ rest ++ s ∷ [] → IsShift refusal gives of s × All (IsShift refusal gives of) rest
last_shift refusal gives of items rest s h is =
    let all : All (IsShift refusal gives of) (rest ++ s ∷ []) = subst (All (IsShift refusal gives of)) is h in
    (all_last (IsShift refusal gives of) rest s all, all_front (IsShift refusal gives of) rest (s ∷ []) all)

-- the seats of a new board
pub unused_free : (b : Layout) (m : ℕ) → m ≤ b.seats → All (IsUnused b) (unused_seats b m)
unused_free b zero le = All-nil (IsUnused b)
unused_free b (suc m) le = All-append (IsUnused b) (unused_seats b m) (unused_seat b m ∷ []) (unused_free b m (omega arith)) (all_one (IsUnused b) (unused_seat b m) record { board = refl; unused = refl })

pub length-unused_seats : (b : Layout) (m : ℕ) → length (unused_seats b m) ≡ m
length-unused_seats b zero = refl
length-unused_seats b (suc m) = let e = length-unused_seats b m in omega (arith, length-append (unused_seats b m) (unused_seat b m ∷ []))

-- the end of a run in which a job failed
pub refused_least : {O : Type 0} (refusal : ℕ → Option Fault) (gives : ℕ → O → Type 0) (of : Layout) (ps : List Progress) (places : List (Option O)) (r : ℕ × Fault) (found : Option ℕ)
    → IsFiled refusal gives of ps places (Some r) → IsFinished of ps found → ((x : ℕ) → times_spent x ps ≡ times x (all_drawn ps)) → 0 < length ps → IsRefused refusal gives of.jobs r.0 r.1
refused_least refusal gives of ps places r found h c spent any = record {
  within = failed_within of ps found c spent (h.empty any) r.0 h.least.0;
  before = λ i lt. let p = h.done i (done_below of ps found c spent (h.empty any) r.0 h.least.0 h.least.1 i lt) in (p.0, h.placed i p.0 p.1);
  refused = h.least.2;
}

-- the end of a run in which none did
pub each_placed : {O : Type 0} (refusal : ℕ → Option Fault) (gives : ℕ → O → Type 0) (of : Layout) (ps : List Progress) (places : List (Option O)) (found : Option ℕ)
    → IsFiled refusal gives of ps places None → IsFinished of ps found → ((x : ℕ) → times_spent x ps ≡ times x (all_drawn ps)) → 0 < length ps → (i : ℕ) → i < length places → HasPlace places i
each_placed refusal gives of ps places found h c spent any i lt = h.done i (done_all of ps found c spent (h.empty any) h.least i (let l = h.long in omega arith))

pub new_seats : (b : Layout) (w : ℕ) (ps : List Progress) → b.seats ≡ w → ps ≡ unused_seats b w → All (IsUnused b) ps × (length ps ≡ w) × (b.seats ≡ w)
new_seats b w ps s seats =
    (subst (All (IsUnused b)) (sym seats) (unused_free b w (omega arith)), ap length seats ∙ length-unused_seats b w, s)
