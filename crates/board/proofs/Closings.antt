-- Several seats together, once their board is closed.
use Rattle.std.proofs.Common.{◌≡◌, inl, inr, ℕ, zero, suc, ◌+◌, ◌<◌, ◌≤◌, ◌^◌, min, List, [], ◌∷◌, ◌++◌, length, All, get_or, Option, None, Some, IfSome, ◌≢◌, ◌⊎◌, refl, sym, ap, ◌∙◌, subst, arith, length-append}
use Rattle.std.proofs.lemmas.List.Elements.{All-nil}
use Rattle.std.specs.List.{flat_map}
use mathlib.Core.Option.{some, some-injective, some-ne-none}
use lib.ListN.{get_elem?}
use Rattle.atomic_table.specs.Table.{Me, Final, Seen}
use Rattle.atomic_table.specs.Seated.{TableId}
use Rattle.board.specs.declared.rule.SeatView.{SeatView}
use Rattle.board.specs.declared.rule.Extent.{Extent}
use Rattle.board.specs.declared.gathered.Gathered.{Gathered}
use Rattle.board.specs.Shares.{times}
use Rattle.board.specs.Progress.{no_fault, Layout, Progress, fault_word}
use Rattle.board.specs.FinishedSeats.{all_drawn, all_failed, all_skipped, all_done, times_spent, HasSpentAll, IsLeastOf, IsFinished}
use Rattle.board.specs.Words.{once_below}
use Rattle.board.specs.Rule.{TableKeepsRule, gathered_views, IsWhole}
use Rattle.board.specs.Seats.{layout, progress_of, IsSeated, IsCounted}
use Rattle.board.specs.GatheredSeats.{Gathers, greatest_count}
use Rattle.board.proofs.Sums.{times-append}
use Rattle.board.proofs.Counts.{spent_few, nothing}
use Rattle.board.proofs.Moves.{learns, learns_part, below_one}
use Rattle.std.proofs.lemmas.Bool.Decides.{nat_tests}
use native.Mathlib.Decide.{dec_le}

module _ {A : Type 0} (P : A → Type 0) where
  all_head : (x : A) (xs : List A) → All P (x ∷ xs) → P x
  all_head x xs h = h zero x (omega arith)

  all_tail : (x : A) (xs : List A) → All P (x ∷ xs) → All P xs
  all_tail x xs h = λ k d lt. h (suc k) d (omega arith)

  pub all_front : (xs ys : List A) → All P (xs ++ ys) → All P xs
  all_front [] ys h k d lt = All-nil P k d lt
  all_front (x ∷ xs) ys h zero d lt = all_head x (xs ++ ys) h
  all_front (x ∷ xs) ys h (suc k) d lt = all_front xs ys (all_tail x (xs ++ ys) h) k d (omega arith)

  pub all_last : (xs : List A) (y : A) → All P (xs ++ y ∷ []) → P y
  all_last [] y h = all_head y [] h
  all_last (x ∷ xs) y h = all_last xs y (all_tail x (xs ++ y ∷ []) h)

-- one list more
more_times : (f : Progress → List ℕ) (p : Progress) (ps : List Progress) (x : ℕ) (xs ys : List ℕ) → times x xs ≡ times x (flat_map f ps) → ys ≡ f p → times x (xs ++ ys) ≡ times x (flat_map f (p ∷ ps))
more_times f p ps x xs ys same is =
    let a = times-append x xs ys in let b = times-append x (f p) (flat_map f ps) in let c : times x ys ≡ times x (f p) = ap (times x) is in omega arith

pub gathers : (b : Layout) (g g' : Gathered) (ps : List Progress) (p : Progress) (t : TableId) (number passed jobs seats : ℕ) (me : Me (Unit {0}) SeatView) (trail : List ℕ) (d f s : ℕ)
    → IsSeated number passed jobs seats me × IsCounted me.0 trail d f s → progress_of t number me.0 trail ≡ p
    → g'.token.table_id ≡ g.token.table_id → g'.token.me.0 ≡ gathered_views g.token.me.0 me.0
    → g'.done ≡ min (g.done + d) greatest_count → g'.failed ≡ min (g.failed + f) greatest_count → g'.skipped ≡ min (g.skipped + s) greatest_count
    → Gathers b g ps → Gathers b g' (p ∷ ps)
gathers b g g' ps p t number passed jobs seats me trail d f s inv is et ev ed ef es h =
    let now : (l : SeatView → List ℕ) (x : ℕ) → times x (l g'.token.me.0) ≡ times x (l (gathered_views g.token.me.0 me.0)) = (λ l x. ap (λ (v : SeatView). times x (l v)) ev) in
    let one = inv.0.one in let c = inv.1.counts in
    let pd = ap (λ (q : Progress). q.done) is in let pf = ap (λ (q : Progress). q.failed) is in let ps' = ap (λ (q : Progress). q.skipped) is in let pw = ap (λ (q : Progress). q.drawn) is in record {
      board = (λ i. layout (et i) ((ev i).jobs) ((ev i).seats)) ∙ h.board;
      members = (let a = ap (λ (v : SeatView). v.members) ev in let q = h.members in omega arith);
      some = omega arith;
      drawn = λ x. now (λ v. v.drawn) x ∙ more_times (λ q. q.drawn) p ps x g.token.me.0.drawn me.0.drawn (h.drawn x) (ap (λ (q : Progress). q.drawn) is);
      empty = λ x. now (λ v. v.empty) x ∙ more_times (λ q. q.empty) p ps x g.token.me.0.empty me.0.empty (h.empty x) (ap (λ (q : Progress). q.empty) is);
      failed = λ x. now (λ v. v.failed) x ∙ more_times (λ q. q.failed) p ps x g.token.me.0.failed me.0.failed (h.failed x) (ap (λ (q : Progress). q.failed) is);
      looked = λ x. now (λ v. v.looked) x ∙ more_times (λ q. q.looked) p ps x g.token.me.0.looked me.0.looked (h.looked x) (ap (λ (q : Progress). q.looked) is);
      skipped = λ x. now (λ v. v.skipped) x ∙ more_times (λ q. q.skipped) p ps x g.token.me.0.skipped me.0.skipped (h.skipped x) (ap (λ (q : Progress). q.skipped) is);
      spent = λ x.
          let q = h.spent x in let r = inv.1.spent x in
          let a = times-append x p.done (all_done ps) in let b' = times-append x p.failed (all_failed ps) in let c' = times-append x p.skipped (all_skipped ps) in let w = times-append x p.drawn (all_drawn ps) in
          let a1 : times x trail ≡ times x p.done = ap (times x) pd in let b1 : times x me.0.failed ≡ times x p.failed = ap (times x) pf in
          let c1 : times x me.0.skipped ≡ times x p.skipped = ap (times x) ps' in let w1 : times x me.0.drawn ≡ times x p.drawn = ap (times x) pw in omega arith;
      counts = (
        (let l = length-append p.done (all_done ps) in let k : length trail ≡ length p.done = ap length pd in let c0 = c.0 in let q = h.counts.0 in omega arith),
        (let l = length-append p.failed (all_failed ps) in let k : length me.0.failed ≡ length p.failed = ap length pf in let c0 = c.1 in let q = h.counts.1 in omega arith),
        (let l = length-append p.skipped (all_skipped ps) in let k : length me.0.skipped ≡ length p.skipped = ap length ps' in let c0 = c.2 in let q = h.counts.2 in omega arith),
      );
    }

-- the last state of the table
pub ends_part : (e : Extent) (id : ℕ) (v : SeatView) (ws : List ℕ) (xs : List (Unit {0})) → Final (Seen (TableKeepsRule e) id v) ws xs → 0 < v.members → (x : ℕ) → times x v.drawn ≤ once_below x v.jobs
ends_part e id v ws xs last sits = learns_part e id v last.0 last.1 sits

found_at : (l : List ℕ) (i a : ℕ) → get_elem? l i ≡ some a → get_or l i 0 ≡ a
found_at [] i a e = absurd (some-ne-none a (sym e))
found_at (x ∷ xs) zero a e = some-injective x a e
found_at (x ∷ xs) (suc i) a e = found_at xs i a e

pub ends_whole : (e : Extent) (id : ℕ) (v : SeatView) (ws : List ℕ) (xs : List (Unit {0})) (fault : ℕ) → Final (Seen (TableKeepsRule e) id v) ws xs → get_elem? ws 64 ≡ some fault → 0 < v.members → v.members ≡ v.seats → IsWhole v fault
ends_whole e id v ws xs fault last at sits whole =
    subst (IsWhole v) (ap (λ (l : List ℕ). get_or l 64 0) last.2 ∙ found_at ws 64 fault at) (learns e id v last.0 last.1 sits whole)

once_lt : (x n : ℕ) → x < n → once_below x n ≡ 1
once_lt x n lt = grind (arith, nat_tests)

-- the least job that failed, by the fault word
least_of : (xs : List ℕ) (fault jobs : ℕ) (found : Option ℕ) → fault_word found ≡ fault → IfSome found (λ y. y ≢ no_fault) → jobs ≤ 2 ^ 40
    → (fault ≡ no_fault) ⊎ (0 < times fault xs) → ((x : ℕ) → 0 < times x xs → (x < jobs) × (fault ≤ x)) → IsLeastOf xs found
least_of xs fault jobs None is real small found least =
    nothing xs (λ x. elim (dec_le 1 (times x xs)) [
      | yes one ↦ (let l = least x one in let a = l.0 in let b = l.1 in let c : 18446744073709551615 ≡ fault = is in let d : jobs ≤ 1099511627776 = small in absurd (omega arith))
      | no none ↦ omega arith
    ])
least_of xs fault jobs (Some y) is real small found least = elim found [
  | inl free ↦ absurd (real (is ∙ free))
  | inr there ↦ (subst (λ (z : ℕ). 0 < times z xs) (sym is) there, λ x any. let l = (least x any).1 in omega arith)
]

-- a job that was skipped lies above it
skipped_above : (x fault jobs : ℕ) (found : Option ℕ) → fault_word found ≡ fault → jobs ≤ 2 ^ 40 → x < jobs → fault < x → (y : ℕ) × (found ≡ Some y) × (y < x)
skipped_above x fault jobs None is small below above = let c : 18446744073709551615 ≡ fault = is in let d : jobs ≤ 1099511627776 = small in absurd (omega arith)
skipped_above x fault jobs (Some y) is small below above = (y, refl, omega arith)

-- all seats of the board
pub closes : (b : Layout) (g : Gathered) (ps : List Progress) (fault : ℕ) (found : Option ℕ) → Gathers b g ps → IsWhole g.token.me.0 fault
    → g.token.me.0.jobs ≤ 2 ^ 40 → fault_word found ≡ fault → IfSome found (λ y. y ≢ no_fault) → IsFinished b ps found
closes b g ps fault found h w small is real =
    let j : g.token.me.0.jobs ≡ b.jobs = ap (λ (l : Layout). l.jobs) h.board in
    let n : g.token.me.0.seats ≡ b.seats = ap (λ (l : Layout). l.seats) h.board in
    let few : b.jobs ≤ 2 ^ 40 = omega arith in
    let once : (x : ℕ) → times x (all_drawn ps) ≤ once_below x b.jobs = (λ x. let o = w.once x in let d = h.drawn x in let e : once_below x g.token.me.0.jobs ≡ once_below x b.jobs = ap (once_below x) j in omega arith) in
    let below : (x : ℕ) → 0 < times x (all_drawn ps) → x < b.jobs = (λ x any. (below_one x b.jobs).1 (let o = once x in omega arith)) in record {
      once = λ x. let o = once x in let l = (below_one x b.jobs).0 in omega arith;
      below = below;
      all = λ seen x lt.
          let o = w.all (λ k less. let s = seen k (omega arith) in let e = h.empty k in omega arith) x in
          let d = h.drawn x in let e : once_below x g.token.me.0.jobs ≡ once_below x b.jobs = ap (once_below x) j in let one = once_lt x b.jobs lt in omega arith;
      least = least_of (all_failed ps) fault b.jobs found is real few
          (elim w.found [ inl free ↦ inl free | inr there ↦ inr (let f = h.failed fault in omega arith) ])
          (λ x any. let l = w.least x (let f = h.failed x in omega arith) in ((let a = l.0 in omega arith), l.1));
      looked = λ x any. elim (w.looked x (let f = h.looked x in omega arith)) [ inl free ↦ inl free | inr there ↦ inr (let f = h.failed x in omega arith) ];
      skipped = λ x any. skipped_above x fault b.jobs found is few (below x (let s = h.spent x in omega arith)) (w.skipped x (let f = h.skipped x in omega arith));
    }

-- the counts did not reach their limit
pub counts_exact : (b : Layout) (g : Gathered) (ps : List Progress) → Gathers b g ps → ((x : ℕ) → times x g.token.me.0.drawn ≤ once_below x g.token.me.0.jobs) → g.token.me.0.jobs ≤ 2 ^ 40
    → (g.done ≡ length (all_done ps)) × (g.failed ≡ length (all_failed ps)) × (g.skipped ≡ length (all_skipped ps))
counts_exact b g ps h once small =
    let n = g.token.me.0.jobs in
    let few = spent_few (all_drawn ps) (all_done ps) (all_failed ps) (all_skipped ps) n
    (λ x any. (below_one x n).1 (let o = once x in let d = h.drawn x in omega arith))
    (λ x. let o = once x in let d = h.drawn x in let l = (below_one x n).0 in omega arith) h.spent in
    let s : n ≤ 1099511627776 = small in
    ((let c = h.counts.0 in omega arith), (let c = h.counts.1 in omega arith), (let c = h.counts.2 in omega arith))

-- if each seat has spent what it drew
spent_all : (ps : List Progress) → All HasSpentAll ps → (x : ℕ) → times x (all_drawn ps) ≤ times_spent x ps
spent_all [] each x = omega arith
spent_all (p ∷ ps) each x =
    let q = spent_all ps (all_tail HasSpentAll p ps each) x in let r = all_head HasSpentAll p ps each x in
    let a = times-append x p.done (all_done ps) in let b = times-append x p.failed (all_failed ps) in let c = times-append x p.skipped (all_skipped ps) in let w = times-append x p.drawn (all_drawn ps) in omega arith

pub spent_exact : (b : Layout) (g : Gathered) (ps : List Progress) → Gathers b g ps → All HasSpentAll ps → (x : ℕ) → times_spent x ps ≡ times x (all_drawn ps)
spent_exact b g ps h each x = let a = spent_all ps each x in let c = h.spent x in omega arith

pub nothing_left : {A : Type 0} (all items ps : List A) → all ≡ items ++ ps → length items ≡ 0 → all ≡ ps
nothing_left all [] ps is none = is
nothing_left all (x ∷ items) ps is none = absurd (omega arith)

-- all seats were gathered, and the fault word is that of the table
pub closes_all : (b : Layout) (g : Gathered) (ps : List Progress) (fault : ℕ) (found : Option ℕ) → Gathers b g ps → (g.token.me.0.members ≡ g.token.me.0.seats → IsWhole g.token.me.0 fault) → length ps ≡ b.seats
    → g.token.me.0.jobs ≤ 2 ^ 40 → fault_word found ≡ fault → IfSome found (λ y. y ≢ no_fault) → IsFinished b ps found
closes_all b g ps fault found h whole count small is real =
    closes b g ps fault found h (whole (h.members ∙ count ∙ sym (ap (λ (l : Layout). l.seats) h.board))) small is real
