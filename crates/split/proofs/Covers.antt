-- Each user key lies in exactly one range.
use Rattle.std.proofs.Common.{◌≡◌, ℕ, zero, suc, ◌+◌, ◌-◌, ◌<◌, ◌≤◌, List, [], length, get_or, Some, None, refl, sym, ap, subst, ◌∙◌, inl, inr, arith}
use Rattle.std.specs.Prelude.{◌≢◌, ◌⊎◌, slice_get}
use Rattle.std.specs.declared.cmp.Ordering.{Ordering}
use Rattle.std.specs.declared.cmp.Ordering.TheVariants.{Less, Equal, Greater}
use Rattle.std.specs.Ordering.{ordering_reverse}
use Rattle.std.specs.Cmp.{IsTotalOrder}
use Rattle.std.proofs.lemmas.Option.{get_or_from_slice_get, slice_get-get_or, slice_get_cases, none-some}
use Rattle.split.specs.Boundaries.{KeysRise}
use Rattle.split.proofs.RisingKeys.{not_before_itself}
use Rattle.split.specs.Ranges.{range_at, IsIn, IsCover}

module _ (cmp : List ℕ → List ℕ → Ordering) (total : IsTotalOrder cmp) where
  -- a key that is before b is before what is not before b
  before_from : (k b l : List ℕ) (o : Ordering) → cmp k l ≡ o → cmp k b ≡ Less → cmp l b ≢ Less → cmp k l ≡ Less
  before_from k b l Less e kb lb = e
  before_from k b l Equal e kb lb = absurd (lb (sym (total.congr k l b e) ∙ kb))
  before_from k b l Greater e kb lb =
      let back : cmp l k ≡ Less = total.antisymm l k ∙ ap ordering_reverse e in
      absurd (lb (total.trans l k b back kb))

  module _ (bs : List (List ℕ)) (rising : KeysRise cmp bs) where
    abbrev at : ℕ → List ℕ
    at i = get_or bs i []

    there : (i : ℕ) → i < length bs → slice_get bs i ≡ Some (at i)
    there i lt = slice_get-get_or bs i [] lt

    -- the key is before none of the first n boundaries
    abbrev IsBehind : List ℕ → ℕ → Type 0
    IsBehind key n = (k : ℕ) → k < n → cmp key (at k) ≢ Less

    -- the first of n boundaries that the key is before, or none
    abbrev Sought : List ℕ → ℕ → Type 0
    Sought key n = ((i : ℕ) × (i < n) × (cmp key (at i) ≡ Less) × IsBehind key i) ⊎ IsBehind key n

    behind_more : (key : List ℕ) (n : ℕ) → IsBehind key n → cmp key (at n) ≢ Less → (k : ℕ) (d : ℕ) → n ≡ k + d → cmp key (at k) ≢ Less
    behind_more key n behind here k zero is = let P : ℕ → Type 0 = λ m. cmp key (at m) ≢ Less in let e : n ≡ k = omega arith in subst P e here
    behind_more key n behind here k (suc d) is = behind k (omega arith)

    sought_more : (key : List ℕ) (n : ℕ) (o : Ordering) → cmp key (at n) ≡ o → Sought key n → Sought key (suc n)
    sought_more key n o e (inl found) = inl (found.0, omega arith, found.2, found.3)
    sought_more key n Less e (inr behind) = inl (n, omega arith, e, behind)
    sought_more key n Equal e (inr behind) =
        let here : cmp key (at n) ≢ Less = λ l. let x = sym e ∙ l in absurd cc in
        inr (λ k lt. behind_more key n behind here k (n - k) (omega arith))
    sought_more key n Greater e (inr behind) =
        let here : cmp key (at n) ≢ Less = λ l. let x = sym e ∙ l in absurd cc in
        inr (λ k lt. behind_more key n behind here k (n - k) (omega arith))

    sought : (key : List ℕ) (n : ℕ) → Sought key n
    sought key zero = inr (λ k lt. absurd (omega arith))
    sought key (suc n) = sought_more key n (cmp key (at n)) refl (sought key n)

    -- a boundary that is there lies within the list
    is_within : (i : ℕ) (b : List ℕ) → slice_get bs i ≡ Some b → i < length bs
    is_within i b e = of_cases (slice_get_cases bs i).1
      where
        of_cases : ((x : List ℕ) × (i < length bs) × (slice_get bs i ≡ Some x) × (get_or bs i x ≡ x)) ⊎ ((length bs ≤ i) × (slice_get bs i ≡ None)) → i < length bs
        of_cases (inl x) = x.1
        of_cases (inr past) = absurd (none-some b (sym past.1 ∙ e))

    upper_is : (key : List ℕ) (i : ℕ) (upper : List ℕ) → slice_get bs i ≡ Some upper → (i < length bs → cmp key (at i) ≡ Less) → cmp key upper ≡ Less
    upper_is key i upper e before =
        let P : List ℕ → Type 0 = λ b. cmp key b ≡ Less in
        subst P (get_or_from_slice_get bs i upper [] e) (before (is_within i upper e))

    -- a key that is after the first i boundaries, and before the next if there is one, is in range i
    in_range : (key : List ℕ) (i : ℕ) → i ≤ length bs → IsBehind key i → (i < length bs → cmp key (at i) ≡ Less) → IsIn cmp (range_at bs i) key
    in_range key zero le behind before = record {
      from = λ lower e. absurd (none-some lower e);
      before = λ upper e. upper_is key zero upper e before;
    }
    in_range key (suc i) le behind before = record {
      from = λ lower e. let P : List ℕ → Type 0 = λ b. cmp key b ≢ Less in subst P (get_or_from_slice_get bs i lower [] e) (behind i (omega arith));
      before = λ upper e. upper_is key (suc i) upper e before;
    }

    -- each key is in a range
    lies : (key : List ℕ) → (i : ℕ) × (i ≤ length bs) × IsIn cmp (range_at bs i) key
    lies key = of_sought (sought key (length bs))
      where
        of_sought : Sought key (length bs) → (i : ℕ) × (i ≤ length bs) × IsIn cmp (range_at bs i) key
        of_sought (inl found) = (found.0, omega arith, in_range key found.0 (omega arith) found.3 (λ _. found.2))
        of_sought (inr behind) = (length bs, omega arith, in_range key (length bs) (omega arith) behind (λ lt. absurd (omega arith)))

    -- what is before a boundary is before all later ones
    before_later : (key : List ℕ) (i j d : ℕ) → j ≡ i + d → j < length bs → cmp key (at i) ≡ Less → cmp key (at j) ≡ Less
    before_later key i j zero is lt e = let P : ℕ → Type 0 = λ m. cmp key (at m) ≡ Less in let same : i ≡ j = omega arith in subst P same e
    before_later key i j (suc d) is lt e = total.trans key (at i) (at j) e (rising i j [] (omega arith) lt)

    ordered : (i j : ℕ) (key later : List ℕ) → i < j → j ≤ length bs → IsIn cmp (range_at bs i) key → IsIn cmp (range_at bs j) later → cmp key later ≡ Less
    ordered i zero key later lt le in_i in_j = absurd (omega arith)
    ordered i (suc j) key later lt le in_i in_j =
        let here : i < length bs = omega arith in
        let below : j < length bs = omega arith in
        let e : cmp key (at i) ≡ Less = in_i.before (at i) (there i here) in
        before_from key (at j) later (cmp key later) refl (before_later key i j (j - i) (omega arith) below e) (in_j.from (at j) (there j below))

    one_number : (i j : ℕ) → (i < j → ⊥) → (j < i → ⊥) → j ≡ i
    one_number i j a b = omega (arith, a, b)

    pub covers : IsCover cmp bs
    covers = record {
      each_once = λ key.
          let found = lies key in
          record {
            number = found.0;
            below = found.1;
            within = found.2;
            only = λ other le inside. one_number found.0 other
                (λ lt. not_before_itself cmp total key (ordered found.0 other key key lt le found.2 inside))
                (λ lt. not_before_itself cmp total key (ordered other found.0 key key lt found.1 inside found.2));
          };
      in_order = ordered;
    }
