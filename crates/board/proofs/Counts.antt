-- What a seat spends is what it drew, and the counts of it stay small.
use Rattle.std.proofs.Common.{◌≡◌, inl, inr, ℕ, zero, suc, ◌+◌, ◌<◌, ◌≤◌, ◌^◌, List, [], ◌∷◌, ◌++◌, length, refl, sym, ap, ◌∙◌, subst, arith, length-append, Bool, cond, lt-ltb, Option, None, Some, IfNone}
use native.Mathlib.Decide.{dec_le}
use Rattle.atomic_table.specs.Table.{Me}
use Rattle.atomic_table.specs.Seated.{TableId}
use Rattle.board.specs.declared.rule.SeatView.{SeatView}
use Rattle.board.specs.Shares.{times, one_if_same}
use Rattle.board.specs.Progress.{no_fault, IsUnspent, fault_word}
use Rattle.board.specs.Rule.{view_after_draw, saw_empty, has_failed, has_looked, has_skipped, has_looked_for, IsLeastFound}
use Rattle.board.specs.Seats.{progress_of, IsSeated, IsCounted}
use Rattle.board.proofs.Sums.{times-snoc, same_tells, same_one, other_zero}

-- the sum of f over the numbers below n
abbrev sum_to : (ℕ → ℕ) → ℕ → ℕ
sum_to f zero = 0
sum_to f (suc n) = sum_to f n + f n

sum_to-add : (f g : ℕ → ℕ) (n : ℕ) → sum_to (λ x. f x + g x) n ≡ sum_to f n + sum_to g n
sum_to-add f g zero = refl
sum_to-add f g (suc n) = let e = sum_to-add f g n in omega arith

sum_to_le : (f g : ℕ → ℕ) (n : ℕ) → ((x : ℕ) → f x ≤ g x) → sum_to f n ≤ sum_to g n
sum_to_le f g zero each = omega arith
sum_to_le f g (suc n) each = let e = sum_to_le f g n each in let i = each n in omega arith

sum_to_ones : (f : ℕ → ℕ) (n : ℕ) → ((x : ℕ) → f x ≤ 1) → sum_to f n ≤ n
sum_to_ones f zero each = omega arith
sum_to_ones f (suc n) each = let e = sum_to_ones f n each in let i = each n in omega arith

sum_to_none : (n : ℕ) → sum_to (λ x. 0) n ≡ 0
sum_to_none zero = refl
sum_to_none (suc n) = let e = sum_to_none n in omega arith

sum_to_past : (n y : ℕ) → n ≤ y → sum_to (λ x. one_if_same x y) n ≡ 0
sum_to_past zero y le = refl
sum_to_past (suc n) y le = let e = sum_to_past n y (omega arith) in let o = other_zero n y (omega arith) in omega arith

sum_to_here : (n y : ℕ) → y < n → sum_to (λ x. one_if_same x y) n ≡ 1
sum_to_here zero y lt = absurd (omega arith)
sum_to_here (suc n) y lt = elim (dec_le n y) [
  | yes le ↦ (let p = sum_to_past n y le in let same : n ≡ y = omega arith in let o : one_if_same n y ≡ 1 = ap (λ (x : ℕ). one_if_same x y) same ∙ same_one y in omega arith)
  | no above ↦ (let e = sum_to_here n y (omega arith) in let o = other_zero n y (omega arith) in omega arith)
]

-- the numbers of a list, counted by what they are
length_by : (xs : List ℕ) (n : ℕ) → ((x : ℕ) → 0 < times x xs → x < n) → sum_to (λ x. times x xs) n ≡ length xs
length_by [] n within = sum_to_none n
length_by (y ∷ ys) n within =
    let o = same_one y in
    let a = sum_to-add (λ x. one_if_same x y) (λ x. times x ys) n in
    let h = sum_to_here n y (within y (omega arith)) in
    let e = length_by ys n (λ x any. within x (omega arith)) in omega arith

-- what was spent is no more than what was drawn, and that no more than there are numbers below n
pub spent_few : (drawn done failed skipped : List ℕ) (n : ℕ) → ((x : ℕ) → 0 < times x drawn → x < n) → ((x : ℕ) → times x drawn ≤ 1)
    → ((x : ℕ) → times x done + times x failed + times x skipped ≤ times x drawn) → length done + length failed + length skipped ≤ n
spent_few drawn done failed skipped n within once spent =
    let ld = length_by done n (λ x any. within x (let p = spent x in omega arith)) in
    let lf = length_by failed n (λ x any. within x (let p = spent x in omega arith)) in
    let ls = length_by skipped n (λ x any. within x (let p = spent x in omega arith)) in
    let a = sum_to-add (λ x. times x done + times x failed) (λ x. times x skipped) n in
    let b = sum_to-add (λ x. times x done) (λ x. times x failed) n in
    let m = sum_to_le (λ x. times x done + times x failed + times x skipped) (λ x. times x drawn) n spent in
    let o = sum_to_ones (λ x. times x drawn) n once in omega arith

pub few_spent : (v : SeatView) (done : List ℕ) (d f s : ℕ) → IsCounted v done d f s → d + f + s ≤ v.jobs
few_spent v done d f s h =
    let l = spent_few v.drawn done v.failed v.skipped v.jobs h.within h.once h.spent in
    let c = h.counts in let c0 = c.0 in let c1 = c.1 in let c2 = c.2 in omega arith

-- a number that is open was drawn
pub open_below : (v : SeatView) (done : List ℕ) (d f s x : ℕ) → IsCounted v done d f s → times x done + times x v.failed + times x v.skipped < times x v.drawn → x < v.jobs
open_below v done d f s x h unspent = h.within x (omega arith)

length-snoc : (xs : List ℕ) (x : ℕ) → length (xs ++ x ∷ []) ≡ length xs + 1
length-snoc xs x = omega (arith, length-append xs (x ∷ []))

-- one more of the numbers that were open is spent
room : (x y p q : ℕ) → p ≤ q → (y ≡ x → p < q) → p + one_if_same y x ≤ q
room x y p q le unspent = elim (same_tells y x) [ inl t ↦ (let a = t.0 in let b = unspent t.1 in omega arith) | inr t ↦ (let a = t.0 in omega arith) ]

module _ (v : SeatView) (done : List ℕ) (d f s : ℕ) (h : IsCounted v done d f s) where
  abbrev spent_of : ℕ → ℕ
  spent_of x = times x done + times x v.failed + times x v.skipped

  at_open : (x y : ℕ) → spent_of x < times x v.drawn → y ≡ x → spent_of y < times y v.drawn
  at_open x y unspent same = subst (λ (z : ℕ). spent_of z < times z v.drawn) (sym same) unspent

  pub counted_done : (x : ℕ) → spent_of x < times x v.drawn → IsCounted v (done ++ x ∷ []) (d + 1) f s
  counted_done x unspent = record {
    within = h.within;
    once = h.once;
    spent = λ y. let e = times-snoc y done x in let r = room x y (spent_of y) (times y v.drawn) (h.spent y) (at_open x y unspent) in omega arith;
    counts = (let l = length-snoc done x in let c = h.counts.0 in omega arith, h.counts.1, h.counts.2);
  }

  pub counted_fail : (u : SeatView) (x : ℕ) → u ≡ has_failed v x → spent_of x < times x v.drawn → IsCounted u done d (f + 1) s
  counted_fail u x is unspent = subst (λ (z : SeatView). IsCounted z done d (f + 1) s) (sym is) record {
    within = h.within;
    once = h.once;
    spent = λ y. let e = times-snoc y v.failed x in let r = room x y (spent_of y) (times y v.drawn) (h.spent y) (at_open x y unspent) in omega arith;
    counts = (h.counts.0, (let l = length-snoc v.failed x in let c = h.counts.1 in omega arith), h.counts.2);
  }

  pub counted_skip : (u : SeatView) (y x : ℕ) → u ≡ has_skipped (has_looked v y) x → spent_of x < times x v.drawn → IsCounted u done d f (s + 1)
  counted_skip u y x is unspent = subst (λ (z : SeatView). IsCounted z done d f (s + 1)) (sym is) record {
    within = h.within;
    once = h.once;
    spent = λ z. let e = times-snoc z v.skipped x in let r = room x z (spent_of z) (times z v.drawn) (h.spent z) (at_open x z unspent) in omega arith;
    counts = (h.counts.0, h.counts.1, (let l = length-snoc v.skipped x in let c = h.counts.2 in omega arith));
  }

  pub counted_pass : (u : SeatView) (k : ℕ) → u ≡ saw_empty v k → IsCounted u done d f s
  counted_pass u k is = subst (λ (z : SeatView). IsCounted z done d f s) (sym is) record { within = h.within; once = h.once; spent = h.spent; counts = h.counts }

  pub counted_draw : (u : SeatView) (x : ℕ) → u ≡ view_after_draw v x → x < v.jobs → times x v.drawn ≡ 0 → IsCounted u done d f s
  counted_draw u x is below new = subst (λ (z : SeatView). IsCounted z done d f s) (sym is) record {
    within = λ y any.
        let e = times-snoc y v.drawn x in
        elim (same_tells y x) [ inl t ↦ (let a = t.1 in omega arith) | inr t ↦ (let a = t.0 in h.within y (omega arith)) ];
    once = λ y.
        let e = times-snoc y v.drawn x in let o = h.once y in
        elim (same_tells y x) [ inl t ↦ (let a = t.0 in let b : times y v.drawn ≡ times x v.drawn = ap (λ (z : ℕ). times z v.drawn) t.1 in omega arith) | inr t ↦ (let a = t.0 in omega arith) ];
    spent = λ y. let e = times-snoc y v.drawn x in let p = h.spent y in omega arith;
    counts = h.counts;
  }

  -- a number that was just drawn is open
  pub open_new : (t : TableId) (number : ℕ) (u : SeatView) (x : ℕ) → u ≡ view_after_draw v x → times x v.drawn ≡ 0 → IsUnspent (progress_of t number u done) x
  open_new t number u x is new = subst (λ (z : SeatView). IsUnspent (progress_of t number z done) x) (sym is) (let e = times-snoc x v.drawn x in let o = same_one x in let p = h.spent x in omega arith)

-- the seat stays where it is
pub still_seated : (number passed jobs seats : ℕ) (me me' : Me (Unit {0}) SeatView) → IsSeated number passed jobs seats me
    → me'.1 ≡ me.1 → me'.0.members ≡ me.0.members → me'.0.jobs ≡ me.0.jobs → me'.0.seats ≡ me.0.seats → me'.0.empty ≡ me.0.empty → IsSeated number passed jobs seats me'
still_seated number passed jobs seats me me' h slots members j w empty = record {
  slots = slots ∙ h.slots;
  one = members ∙ h.one;
  extent = (j ∙ h.extent.0, w ∙ h.extent.1);
  within = h.within;
  few = h.few;
  passes = h.passes;
  empty = empty ∙ h.empty;
}

-- what a look for the job x leaves
pub look_above : (v : SeatView) (x found : ℕ) → found < x → has_looked_for v x found ≡ has_skipped (has_looked v found) x
look_above v x found lt = ap (λ (b : Bool). cond b (has_skipped (has_looked v found) x) (has_looked v found)) (lt-ltb found x lt)

-- a list in which nothing stands
pub nothing : (xs : List ℕ) → ((x : ℕ) → times x xs ≡ 0) → xs ≡ []
nothing [] each = refl
nothing (x ∷ xs) each = absurd (let e = each x in let o = same_one x in omega arith)

-- who finds no fault has failed no job
pub none_failed : (v : SeatView) (found : ℕ) → IsLeastFound v found → found ≡ no_fault → v.jobs ≤ 2 ^ 40 → v.failed ≡ []
none_failed v found h is small = nothing v.failed (λ x. elim (dec_le 1 (times x v.failed)) [
  | yes some ↦ (let l = h.failed x some in let a = l.0 in let b = l.1 in let c : found ≡ 18446744073709551615 = is in let d : v.jobs ≤ 1099511627776 = small in absurd (omega arith))
  | no none ↦ omega arith
])

-- a count can rise by one
pub counts_small : (number passed jobs seats : ℕ) (me : Me (Unit {0}) SeatView) (done : List ℕ) (d f s : ℕ) → IsSeated number passed jobs seats me × IsCounted me.0 done d f s → d + f + s < 2 ^ 41
counts_small number passed jobs seats me done d f s h =
    let few = few_spent me.0 done d f s h.1 in let is = h.0.extent.0 in let small = h.0.few.1 in omega arith

-- what a step leaves that changes neither the numbers of jobs and seats nor the shares seen empty
pub seated_as : (number passed jobs seats : ℕ) (me me' : Me (Unit {0}) SeatView) → IsSeated number passed jobs seats me → me'.1 ≡ me.1
    → (u : SeatView) → me'.0 ≡ u → u.members ≡ me.0.members → u.jobs ≡ me.0.jobs → u.seats ≡ me.0.seats → u.empty ≡ me.0.empty → IsSeated number passed jobs seats me'
seated_as number passed jobs seats me me' h slots u is members j w empty =
    still_seated number passed jobs seats me me' h slots (ap (λ (v : SeatView). v.members) is ∙ members) (ap (λ (v : SeatView). v.jobs) is ∙ j) (ap (λ (v : SeatView). v.seats) is ∙ w) (ap (λ (v : SeatView). v.empty) is ∙ empty)

pub none_looked : (v : SeatView) (found : ℕ) → IsLeastFound v found → found ≡ no_fault → v.jobs ≤ 2 ^ 40 → (x : ℕ) → 0 < times x v.looked → x ≡ no_fault
none_looked v found h is small x any = let l = h.looked x any in elim l.1 [
  | inl free ↦ free
  | inr below ↦ (let a = l.0 in let c : found ≡ 18446744073709551615 = is in let d : v.jobs ≤ 1099511627776 = small in absurd (omega arith))
]

-- no more was drawn than there are jobs
pub few_drawn : (v : SeatView) (done : List ℕ) (d f s : ℕ) → IsCounted v done d f s → length v.drawn ≤ v.jobs
few_drawn v done d f s h = let l = spent_few v.drawn v.drawn [] [] v.jobs h.within h.once (λ x. omega arith) in omega arith

-- who finds no fault has failed no job and seen no fault
pub none_found : (o : Option ℕ) (v : SeatView) (found : ℕ) → fault_word o ≡ found → IsLeastFound v found → v.jobs ≤ 2 ^ 40 → IfNone o ((v.failed ≡ []) × ((x : ℕ) → 0 < times x v.looked → x ≡ no_fault))
none_found None v found is h small = (none_failed v found h (sym is) small, none_looked v found h (sym is) small)
none_found (Some y) v found is h small = tt
