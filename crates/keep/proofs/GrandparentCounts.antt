-- How many grandparents lie below a key.
use Rattle.std.proofs.Common.{◌≡◌, ℕ, zero, suc, ◌+◌, ◌<◌, ◌≤◌, Bool, true, false, cond, List, [], ◌∷◌, length, get_or, refl, sym, ap, subst, ◌∙◌, arith}
use Rattle.std.specs.Prelude.{count_by}
use Rattle.std.specs.Ordering.{is_lt, is_le}
use Rattle.std.specs.Cmp.{IsTotalOrder}
use Rattle.std.specs.declared.cmp.Ordering.{Ordering}
use Rattle.std.proofs.lemmas.List.Sums.{count_by-le-length, sum_by-cons}
use Rattle.std.proofs.lemmas.Bool.{both_ways, false≢true}
use Rattle.ikey.specs.Order.{internal_cmp}
use Rattle.ikey.proofs.Ordered.{internal_cmp-total, is_lt-true}
use Rattle.reads.specs.meta.FileMeta.{FileMeta}
use Rattle.merge.proofs.Orders.{lt_le_trans}
use Rattle.keep.specs.Marks.{grandparents_below, LargestRise}
use Rattle.keep.proofs.RisingTests.{largest_told}

-- whether a grandparent lies below a key
abbrev pub is_below : (List ℕ → List ℕ → Ordering) → List ℕ → FileMeta → Bool
is_below cmp key f = is_lt (internal_cmp cmp f.largest key)

count_cons : (p : FileMeta → Bool) (f : FileMeta) (fs : List FileMeta) → count_by p (f ∷ fs) ≡ cond (p f) 1 0 + count_by p fs
count_cons p f fs = sum_by-cons (λ x. cond (p x) 1 0) f fs

-- if no element passes
count_none : (p : FileMeta → Bool) (fs : List FileMeta) → ((j : ℕ) (d : FileMeta) → j < length fs → p (get_or fs j d) ≡ false) → count_by p fs ≡ 0
count_none p [] h = refl
count_none p (f ∷ fs) h = count_cons p f fs ∙ by_test (p f) (h zero f (omega arith)) (count_none p fs (λ j d lt. h (suc j) d (omega arith)))
  where
    by_test : (b : Bool) → b ≡ false → count_by p fs ≡ 0 → cond b 1 0 + count_by p fs ≡ 0
    by_test true e rest = absurd (false≢true (sym e))
    by_test false e rest = omega (arith, rest)

-- in a list whose elements pass a test up to some place, and from there on don't, that place is their number
pub count_passes : (p : FileMeta → Bool) (fs : List FileMeta) (i : ℕ) (d : FileMeta) → i < length fs → p (get_or fs i d) ≡ true → ((j k : ℕ) (d : FileMeta) → j < k → k < length fs → p (get_or fs k d) ≡ true → p (get_or fs j d) ≡ true) → i < count_by p fs
count_passes p [] i d lt h down = absurd (omega arith)
count_passes p (f ∷ fs) zero d lt h down = subst (λ n. zero < n) (sym (count_cons p f fs)) (by_test (p f) h)
  where
    by_test : (b : Bool) → b ≡ true → zero < cond b 1 0 + count_by p fs
    by_test true e = omega arith
    by_test false e = absurd (false≢true e)
count_passes p (f ∷ fs) (suc i) d lt h down =
    subst (λ n. suc i < n) (sym (count_cons p f fs))
    (by_test (p f) (down zero (suc i) d (omega arith) lt h) (count_passes p fs i d (omega arith) h (λ j k d below within. down (suc j) (suc k) d (omega arith) (omega arith))))
  where
    by_test : (b : Bool) → b ≡ true → i < count_by p fs → suc i < cond b 1 0 + count_by p fs
    by_test true e rest = omega (arith, rest)
    by_test false e rest = absurd (false≢true e)

pub count_fails : (p : FileMeta → Bool) (fs : List FileMeta) (i : ℕ) (d : FileMeta) → i < length fs → p (get_or fs i d) ≡ false → ((j k : ℕ) (d : FileMeta) → j < k → k < length fs → p (get_or fs k d) ≡ true → p (get_or fs j d) ≡ true) → count_by p fs ≤ i
count_fails p [] i d lt h down = absurd (omega arith)
count_fails p (f ∷ fs) zero d lt h down =
    let none = count_none p (f ∷ fs) (λ j e within. by_place j e within (p (get_or (f ∷ fs) j e)) refl) in
    omega (arith, none)
  where
    by_place : (j : ℕ) (e : FileMeta) → j < length (f ∷ fs) → (b : Bool) → p (get_or (f ∷ fs) j e) ≡ b → p (get_or (f ∷ fs) j e) ≡ false
    by_place zero e within b is = h
    by_place (suc j) e within true is = absurd (both_ways (p f) h (down zero (suc j) e (omega arith) within is))
    by_place (suc j) e within false is = is
count_fails p (f ∷ fs) (suc i) d lt h down =
    subst (λ n. n ≤ suc i) (sym (count_cons p f fs))
    (by_test (p f) (count_fails p fs i d (omega arith) h (λ j k d below within. down (suc j) (suc k) d (omega arith) (omega arith))))
  where
    by_test : (b : Bool) → count_by p fs ≤ i → cond b 1 0 + count_by p fs ≤ suc i
    by_test true rest = omega (arith, rest)
    by_test false rest = omega (arith, rest)

module _ (cmp : List ℕ → List ℕ → Ordering) (total : IsTotalOrder cmp) where
  -- a grandparent before one that lies below a key lies below it
  pub downward : (fs : List FileMeta) (key : List ℕ) → LargestRise cmp fs → (j k : ℕ) (d : FileMeta) → j < k → k < length fs → is_below cmp key (get_or fs k d) ≡ true → is_below cmp key (get_or fs j d) ≡ true
  downward fs key rise j k d below within h =
      ap is_lt ((internal_cmp-total total).trans (get_or fs j d).largest (get_or fs k d).largest key (largest_told cmp total fs rise j k d below within) (is_lt-true (internal_cmp cmp (get_or fs k d).largest key) h))

  below_more : (f : FileMeta) (a b : List ℕ) → is_le (internal_cmp cmp a b) ≡ true → is_below cmp a f ≡ true → is_below cmp b f ≡ true
  below_more f a b le h = ap is_lt (lt_le_trans cmp total f.largest a b (is_lt-true (internal_cmp cmp f.largest a) h) le)

  count_more : (p q : Bool) (m n : ℕ) → (p ≡ true → q ≡ true) → m ≤ n → cond p 1 0 + m ≤ cond q 1 0 + n
  count_more true true m n f h = omega arith
  count_more true false m n f h = absurd (false≢true (f refl))
  count_more false true m n f h = omega arith
  count_more false false m n f h = omega arith

  -- no fewer grandparents lie below a key that isn't before another
  pub below_grows : (fs : List FileMeta) (a b : List ℕ) → is_le (internal_cmp cmp a b) ≡ true → grandparents_below cmp fs a ≤ grandparents_below cmp fs b
  below_grows [] a b le = omega arith
  below_grows (f ∷ fs) a b le =
      let more = count_more (is_below cmp a f) (is_below cmp b f) (grandparents_below cmp fs a) (grandparents_below cmp fs b) (below_more f a b le) (below_grows fs a b le) in
      subst (λ n. n ≤ grandparents_below cmp (f ∷ fs) b) (sym (count_cons (is_below cmp a) f fs))
      (subst (λ n. cond (is_below cmp a f) 1 0 + grandparents_below cmp fs a ≤ n) (sym (count_cons (is_below cmp b) f fs)) more)

  pub grown : (fs : List FileMeta) (key : List ℕ) → LargestRise cmp fs → (i : ℕ) (d : FileMeta) → i < length fs → is_below cmp key (get_or fs i d) ≡ true → i + 1 ≤ grandparents_below cmp fs key
  grown fs key rise i d within h = omega (arith, count_passes (is_below cmp key) fs i d within h (downward fs key rise))

  pub stopped : (fs : List FileMeta) (key : List ℕ) → LargestRise cmp fs → (i : ℕ) (d : FileMeta) → i < length fs → is_below cmp key (get_or fs i d) ≡ false → i ≤ grandparents_below cmp fs key → i ≡ grandparents_below cmp fs key
  stopped fs key rise i d within h le = omega (arith, count_fails (is_below cmp key) fs i d within h (downward fs key rise), le)

  pub all_below : (fs : List FileMeta) (key : List ℕ) (i : ℕ) → length fs ≤ i → i ≤ grandparents_below cmp fs key → i ≡ grandparents_below cmp fs key
  all_below fs key i end le = omega (arith, count_by-le-length (is_below cmp key) fs, end, le)
