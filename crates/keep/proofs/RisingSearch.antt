-- Searches of a list that rises strictly.
use Rattle.std.proofs.Common.{◌≡◌, ℕ, zero, suc, ◌<◌, ◌≤◌, Bool, true, false, List, [], ◌∷◌, length, get_or, Some, None, refl, sym, ap, subst, ◌∙◌, arith}
use Rattle.std.specs.Prelude.{nat_le, nat_lt, ◌&&◌, ◌||◌, slice_get, AllPairs}
use Rattle.std.specs.List.{list_all, AllByRecursion}
use Rattle.std.specs.List.Sorted.{IsStrictlyIncreasing, IsPartitionedBy, IsPartitionPoint}
use Rattle.std.proofs.lemmas.Bool.{leb-true, le-leb, lt-ltb, le-ltb}
use Rattle.std.proofs.lemmas.Option.{same_Some, none-some}
use Rattle.std.proofs.lemmas.List.Kept.{AllPairs-from_increasing}
use borrow.Author.Tests.{ltb-true, ltb-false}
use Rattle.keep.specs.RangeWalk.{is_needed}

-- each number is below all later ones
Rises : List ℕ → Type 0
Rises [] = Unit {0}
Rises (x ∷ xs) = AllByRecursion (λ y. x < y) xs × Rises xs

all_later : (P : ℕ → Type 0) (xs : List ℕ) → ((j d : ℕ) → j < length xs → P (get_or xs j d)) → AllByRecursion P xs
all_later P [] h = tt
all_later P (x ∷ xs) h = (h zero x (omega arith), all_later P xs (λ j d lt. h (suc j) d (omega arith)))

rises_from : (xs : List ℕ) → AllPairs (λ x y. x < y) xs → Rises xs
unfolding Rises
rises_from [] h = tt
rises_from (x ∷ xs) h = (all_later (λ y. x < y) xs (λ j d lt. h zero (suc j) d (omega arith) (omega arith)), rises_from xs (λ i j d lt below. h (suc i) (suc j) d (omega arith) (omega arith)))

rises_of : (xs : List ℕ) → IsStrictlyIncreasing xs → Rises xs
rises_of xs h = rises_from xs (AllPairs-from_increasing xs h)

-- ---- the first

all_from : (n x : ℕ) (xs : List ℕ) → n ≤ x → AllByRecursion (λ y. x < y) xs → list_all (nat_le n) xs ≡ true
all_from n x [] le h = refl
all_from n x (y ∷ xs) le h = let above : x < y = h.0 in ap (λ b. b && list_all (nat_le n) xs) (le-leb n y (omega (arith, le, above))) ∙ all_from n x xs le h.1

first_by : (n x : ℕ) (xs : List ℕ) (b : Bool) → nat_le n x ≡ b → AllByRecursion (λ y. x < y) xs → b ≡ (b && list_all (nat_le n) xs)
first_by n x xs true e h = sym (all_from n x xs (leb-true n x e) h)
first_by n x xs false e h = refl

first_rises : (n least : ℕ) (xs : List ℕ) → Rises xs → slice_get xs 0 ≡ Some least → nat_le n least ≡ list_all (nat_le n) xs
unfolding Rises
first_rises n least [] h at = absurd (none-some least at)
first_rises n least (x ∷ xs) h at = ap (nat_le n) (sym (same_Some x least at)) ∙ first_by n x xs (nat_le n x) refl h.0

-- a number is at or below all exactly if it is at or below the first
pub first_of_all : (n least : ℕ) (xs : List ℕ) → IsStrictlyIncreasing xs → slice_get xs 0 ≡ Some least → nat_le n least ≡ list_all (nat_le n) xs
first_of_all n least xs h at = first_rises n least xs (rises_of xs h) at

-- ---- the first from a number on

none_below : (older newer x : ℕ) (xs : List ℕ) → newer ≤ x → AllByRecursion (λ y. x < y) xs → is_needed xs newer older ≡ false
none_below older newer x [] le h = refl
none_below older newer x (y ∷ xs) le h =
    let above : x < y = h.0 in
    let late : nat_lt y newer ≡ false = le-ltb y newer (omega (arith, le, above)) in
    ap (λ b. (nat_le older y && b) || is_needed xs newer older) late ∙ by_test (nat_le older y) (none_below older newer x xs le h.1)
  where
    by_test : (b : Bool) → is_needed xs newer older ≡ false → ((b && false) || is_needed xs newer older) ≡ false
    by_test true rest = rest
    by_test false rest = rest

needed_by : (older newer x : ℕ) (xs : List ℕ) (b : Bool) → nat_lt x newer ≡ b → AllByRecursion (λ y. x < y) xs → b ≡ (b || is_needed xs newer older)
needed_by older newer x xs true e h = refl
needed_by older newer x xs false e h = sym (none_below older newer x xs (ltb-false x newer e) h)

needed_rises : (older newer least : ℕ) (xs : List ℕ) (i : ℕ) → Rises xs → IsPartitionPoint (λ s. nat_lt s older ≡ true) (λ s. nat_lt s older ≡ false) xs i → slice_get xs i ≡ Some least → nat_lt least newer ≡ is_needed xs newer older
unfolding Rises
needed_rises older newer least [] i h parts at = absurd (none-some least at)
needed_rises older newer least (x ∷ xs) zero h parts at =
    let late : older ≤ x = ltb-false x older (parts.1 zero x (omega arith) (omega arith)) in
    ap (λ n. nat_lt n newer) (sym (same_Some x least at))
    ∙ needed_by older newer x xs (nat_lt x newer) refl h.0
    ∙ ap (λ b. (b && nat_lt x newer) || is_needed xs newer older) (sym (le-leb older x late))
needed_rises older newer least (x ∷ xs) (suc i) h parts at =
    let early : x < older = ltb-true x older (parts.0 zero x (omega arith) (omega arith)) in
    needed_rises older newer least xs i h.1 (λ k d low below. parts.0 (suc k) d (omega arith) (omega arith), λ k d low below. parts.1 (suc k) d (omega arith) (omega arith)) at
    ∙ ap (λ b. (b && nat_lt x newer) || is_needed xs newer older) (sym (below_test older x early))
  where
    below_test : (older x : ℕ) → x < older → nat_le older x ≡ false
    below_test older x lt = by_test (nat_le older x) refl
      where
        by_test : (b : Bool) → nat_le older x ≡ b → nat_le older x ≡ false
        by_test true e = absurd (let le : older ≤ x = leb-true older x e in omega (arith, le, lt))
        by_test false e = e

pub needed_at : (older newer least : ℕ) (xs : List ℕ) (i : ℕ) → IsStrictlyIncreasing xs → IsPartitionPoint (λ s. nat_lt s older ≡ true) (λ s. nat_lt s older ≡ false) xs i → slice_get xs i ≡ Some least → nat_lt least newer ≡ is_needed xs newer older
needed_at older newer least xs i h parts at = needed_rises older newer least xs i (rises_of xs h) parts at

none_needed : (older newer : ℕ) (xs : List ℕ) → AllByRecursion (λ s. s < older) xs → is_needed xs newer older ≡ false
none_needed older newer [] h = refl
none_needed older newer (x ∷ xs) h =
    let early : x < older = h.0 in
    ap (λ b. (b && nat_lt x newer) || is_needed xs newer older) (le_test (nat_le older x) refl early) ∙ none_needed older newer xs h.1
  where
    le_test : (b : Bool) → nat_le older x ≡ b → x < older → nat_le older x ≡ false
    le_test true e lt = absurd (let le : older ≤ x = leb-true older x e in omega (arith, le, lt))
    le_test false e lt = e

past_end : (xs : List ℕ) (i : ℕ) → slice_get xs i ≡ None → length xs ≤ i
past_end [] i h = omega arith
past_end (x ∷ xs) zero h = absurd cc
past_end (x ∷ xs) (suc i) h = let more = past_end xs i h in omega (arith, more)

pub needed_none : (older newer : ℕ) (xs : List ℕ) (i : ℕ) → IsPartitionPoint (λ s. nat_lt s older ≡ true) (λ s. nat_lt s older ≡ false) xs i → slice_get xs i ≡ None → is_needed xs newer older ≡ false
needed_none older newer xs i parts h =
    let end = past_end xs i h in
    none_needed older newer xs (all_later (λ s. s < older) xs (λ j d lt. ltb-true (get_or xs j d) older (parts.0 j d (omega arith) (omega arith))))

pub partitioned : (older : ℕ) (xs : List ℕ) → IsStrictlyIncreasing xs → IsPartitionedBy (λ s. nat_lt s older) xs
partitioned older xs h i j d le within early = by_order (nat_lt i j) refl
  where
    by_order : (b : Bool) → nat_lt i j ≡ b → nat_lt (get_or xs i d) older ≡ true
    by_order true e =
        let low : get_or xs i d < get_or xs j d = AllPairs-from_increasing xs h i j d (ltb-true i j e) within in
        let high : get_or xs j d < older = ltb-true (get_or xs j d) older early in
        lt-ltb (get_or xs i d) older (omega (arith, low, high))
    by_order false e =
        let same : i ≡ j = omega (arith, ltb-false i j e, le) in
        subst (λ k. nat_lt (get_or xs k d) older ≡ true) (sym same) early
