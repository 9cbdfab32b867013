-- Each step keeps what holds of the numbers drawn.
use Rattle.std.proofs.Common.{◌≡◌, ◌≢◌, inl, inr, ℕ, suc, ◌+◌, ◌*◌, ◌<◌, ◌≤◌, ◌^◌, List, [], ◌∷◌, ◌++◌, length, set, get_or, refl, sym, ap, ◌∙◌, arith, mul-le-mul_right, suc-mul, length-set, get_or-set_same, get_or-set_other}
use native.Mathlib.Decide.{ℕ_discrete}
use Rattle.std.proofs.Math.Nat.{le-mul_of_pos_right}
use mathlib.Core.Option.{some, some-ne-none}
use lib.ListN.{get_elem?}
use Rattle.board.specs.declared.rule.SeatView.{SeatView}
use Rattle.board.specs.Shares.{times, one_if_same}
use Rattle.board.specs.Words.{job_at, total, word_of, claims_of}
use Rattle.board.specs.Rule.{fresh_view, view_after_draw, saw_empty, Fits, times_drawn, times_empty, KeepsDrawn}
use Rattle.board.proofs.Sums.{total_set, times-snoc, same_tells, same_one, other_zero}
use Rattle.board.proofs.Spans.{claims_more, claims_full, claimed_none, claimed_same, word_below, word_apart}
use Rattle.board.proofs.Views.{each_set, each_snoc}

-- one more claim of share k of w
module _ (w : ℕ) (words : List ℕ) (k c : ℕ) (any : 0 < w) (few : w ≤ 64) (in_words : word_of w k < length words) (is : claims_of w words k ≡ c) where
  abbrev claimed_words : List ℕ
  claimed_words = set words (word_of w k) (suc c)

  word_here : (j : ℕ) → j ≡ k → (claims_of w words j ≡ c) × (claims_of w claimed_words j ≡ suc c)
  word_here j here = (ap (claims_of w words) here ∙ is, ap (claims_of w claimed_words) here ∙ get_or-set_same words (word_of w k) (suc c) 0 in_words)

  word_there : (j : ℕ) → j ≢ k → claims_of w claimed_words j ≡ claims_of w words j
  word_there j apart = get_or-set_other words (word_of w k) (word_of w j) (suc c) 0 (λ same. apart (word_apart w j k any few same))

  word_grows : (j : ℕ) → claims_of w words j ≤ claims_of w claimed_words j
  word_grows j = elim (ℕ_discrete j k) [
    | yes here ↦ (let e = word_here j here in let a = e.0 in let b = e.1 in omega arith)
    | no apart ↦ (let e = word_there j apart in omega arith)
  ]

-- a number is claimed, and drawn
pub draws : (n w : ℕ) (words : List ℕ) (views : List SeatView) (id : ℕ) (v : SeatView) (k c : ℕ)
    → KeepsDrawn n w words views → get_elem? views id ≡ some v → 0 < v.members → k < w → claims_of w words k ≡ c → job_at w k c < n
    → KeepsDrawn n w (set words (word_of w k) (suc c)) (set views id (view_after_draw v (job_at w k c)))
draws n w words views id v k c h at sits lt is room =
    let x : ℕ = job_at w k c in
    let u : SeatView = view_after_draw v x in
    let sat = h.seats.0 in let few = h.seats.1 in
    let in_words : word_of w k < length words = (let a = h.wide in let b = word_below w k few lt in omega arith) in
    let mine = h.each id v at in
    let seen : (j : ℕ) → times_empty j (set views id u) ≡ times_empty j views = (λ j. let e = total_set (λ (z : SeatView). times j z.empty) views id v u at in omega arith) in record {
      seats = h.seats;
      jobs = h.jobs;
      wide = length-set words (word_of w k) (suc c) ∙ h.wide;
      members = let e = total_set (λ (z : SeatView). z.members) views id v u at in let p = h.members in omega arith;
      each = each_set (Fits n w) views id u h.each record { same = mine.same; spent = λ none. absurd (omega arith); once = mine.once };
      drawn = λ y.
          let e = total_set (λ (z : SeatView). times y z.drawn) views id v u at in
          let s : times y (v.drawn ++ x ∷ []) ≡ times y v.drawn + one_if_same y x = times-snoc y v.drawn x in
          let d = h.drawn y in
          let m = claims_more w sat n (claims_of w words) (claims_of w (set words (word_of w k) (suc c))) k c lt is (word_here w words k c sat few in_words is k refl).1 (word_there w words k c sat few in_words is) y room in omega arith;
      empty = λ j any. let e = seen j in let f = h.empty j (omega arith) in let g = mul-le-mul_right w (word_grows w words k c sat few in_words is j) in (f.0, (let l = f.1 in omega arith));
      bounded = λ j less.
          let b = h.bounded j less in let e = seen j in
          elim (ℕ_discrete j k) [
            | yes here ↦ (let a = (word_here w words k c sat few in_words is j here).1 in let l : c ≤ c * w = le-mul_of_pos_right c sat in omega arith)
            | no apart ↦ (let o = word_there w words k c sat few in_words is j apart in omega arith)
          ];
    }

-- a share is claimed from that is used up, and seen empty
pub sees : (n w : ℕ) (words : List ℕ) (views : List SeatView) (id : ℕ) (v : SeatView) (k c : ℕ)
    → KeepsDrawn n w words views → get_elem? views id ≡ some v → times k v.empty < v.members → k < w → claims_of w words k ≡ c → n ≤ job_at w k c
    → KeepsDrawn n w (set words (word_of w k) (suc c)) (set views id (saw_empty v k))
sees n w words views id v k c h at sits lt is full =
    let u : SeatView = saw_empty v k in
    let sat = h.seats.0 in let few = h.seats.1 in
    let in_words : word_of w k < length words = (let a = h.wide in let b = word_below w k few lt in omega arith) in
    let mine = h.each id v at in
    let seen : (j : ℕ) → times_empty j (set views id u) ≡ times_empty j views + one_if_same j k = (λ j. let e = total_set (λ (z : SeatView). times j z.empty) views id v u at in let s = times-snoc j v.empty k in omega arith) in record {
      seats = h.seats;
      jobs = h.jobs;
      wide = length-set words (word_of w k) (suc c) ∙ h.wide;
      members = let e = total_set (λ (z : SeatView). z.members) views id v u at in let p = h.members in omega arith;
      each = each_set (Fits n w) views id u h.each record {
        same = mine.same;
        spent = λ none. absurd (omega arith);
        once = λ j.
            let s = times-snoc j v.empty k in let o = mine.once j in
            elim (same_tells j k) [
              | inl t ↦ (let a = t.0 in let b : times j v.empty ≡ times k v.empty = ap (λ (i : ℕ). times i v.empty) t.1 in omega arith)
              | inr t ↦ (let a = t.0 in omega arith)
            ];
      };
      drawn = λ y.
          let e = total_set (λ (z : SeatView). times y z.drawn) views id v u at in
          let d = h.drawn y in
          let m = claims_full w sat n (claims_of w words) (claims_of w (set words (word_of w k) (suc c))) k c lt is (word_here w words k c sat few in_words is k refl).1 (word_there w words k c sat few in_words is) y full in omega arith;
      empty = λ j any.
          let e = seen j in
          elim (ℕ_discrete j k) [
            | yes here ↦ (omega arith, (let a : claims_of w (set words (word_of w k) (suc c)) j * w ≡ suc c * w = ap (λ (m : ℕ). m * w) (word_here w words k c sat few in_words is j here).1 in let l = suc-mul c w in omega arith))
            | no apart ↦ (let o = ap (λ (m : ℕ). m * w) (word_there w words k c sat few in_words is j apart) in let z = other_zero j k apart in let f = h.empty j (omega arith) in (f.0, (let l = f.1 in omega arith)))
          ];
      bounded = λ j less.
          let b = h.bounded j less in let e = seen j in
          elim (ℕ_discrete j k) [
            | yes here ↦ (let a = word_here w words k c sat few in_words is j here in let p = a.0 in let q = a.1 in let s : one_if_same j k ≡ 1 = ap (λ (i : ℕ). one_if_same i k) here ∙ same_one k in omega arith)
            | no apart ↦ (let o = word_there w words k c sat few in_words is j apart in omega arith)
          ];
    }

-- a change that touches neither the claim words nor the lists of numbers drawn and shares seen empty
pub still_drawn : (n w : ℕ) (words words' : List ℕ) (views views' : List SeatView)
    → KeepsDrawn n w words views → length words' ≡ length words → ((k : ℕ) → k < w → claims_of w words' k ≡ claims_of w words k)
    → total (λ (v : SeatView). v.members) views' ≡ total (λ (v : SeatView). v.members) views → ((i : ℕ) (v : SeatView) → get_elem? views' i ≡ some v → Fits n w v)
    → ((x : ℕ) → times_drawn x views' ≡ times_drawn x views) → ((k : ℕ) → times_empty k views' ≡ times_empty k views)
    → KeepsDrawn n w words' views'
still_drawn n w words words' views views' h long claims members each drawn empty = record {
  seats = h.seats;
  jobs = h.jobs;
  wide = long ∙ h.wide;
  members = members ∙ h.members;
  each = each;
  drawn = λ x. drawn x ∙ h.drawn x ∙ sym (claimed_same w h.seats.0 n (claims_of w words) (claims_of w words') x claims);
  empty = λ k any. let f = h.empty k (let e = empty k in omega arith) in let c = ap (λ (m : ℕ). m * w) (claims k f.0) in (f.0, (let l = f.1 in omega arith));
  bounded = λ k lt. let b = h.bounded k lt in let c = claims k lt in let e = empty k in omega arith;
}

-- the board at the start
pub opens : (n w : ℕ) (words : List ℕ) → 0 < w → w ≤ 64 → n ≤ 2 ^ 40 → length words ≡ 65 → ((k : ℕ) → k < 64 → get_or words k 0 ≡ 0) → KeepsDrawn n w words (fresh_view w n w ∷ [])
opens n w words any few small long zeros = record {
  seats = (any, few);
  jobs = small;
  wide = long;
  members = omega arith;
  each = each_snoc (Fits n w) [] (fresh_view w n w) (λ i v at. absurd (some-ne-none v (sym at))) record { same = λ _. (refl, refl); spent = λ _. (refl, refl, refl, refl, refl); once = λ k. omega arith };
  drawn = λ x. sym (claimed_none w any n (claims_of w words) x (λ k lt. zeros (word_of w k) (word_below w k few lt)));
  empty = λ k seen. absurd (omega arith);
  bounded = λ k lt. let z = zeros (word_of w k) (word_below w k few lt) in omega arith;
}
