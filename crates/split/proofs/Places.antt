-- The keys at the places of the boundaries, one number after the other.
use Rattle.std.proofs.Common.{◌≡◌, ℕ, ◌+◌, ◌*◌, ◌/◌, ◌<◌, ◌≤◌, List, [], ◌∷◌, ◌++◌, length, get_or, Some, refl, sym, subst, ◌∙◌, inl, inr, arith, length-append}
use Rattle.std.specs.Prelude.{◌⊎◌, Contains, slice_get}
use Rattle.std.specs.declared.cmp.Ordering.{Ordering}
use Rattle.std.specs.declared.cmp.Ordering.TheVariants.{Less}
use Rattle.std.proofs.Math.Nat.{div-mul-le_self, mul-le-mul_right, eq-or-lt_of_le}
use Rattle.std.proofs.lemmas.Nat.{le-div}
use Rattle.std.proofs.lemmas.Option.{get_or_from_slice_get, slice_get_past, none-some, same_Some}
use Rattle.std.proofs.lemmas.List.Quantifiers.{all_pairs_push}
use Rattle.std.proofs.lemmas.List.Elements.{Contains-get_or, Contains-append_left, Contains-push, Contains-push_cases}
use Rattle.split.specs.Boundaries.{KeysRise}
use Rattle.split.specs.SplitChoice.{IsListOf, IsAtPlace, IsAtPlaceBelow}

module _ (cmp : List ℕ → List ℕ → Ordering) (ks : List (List ℕ)) (want : ℕ) where
  abbrev pub place : ℕ → ℕ
  place j = j * length ks / want

  -- the key stands in the list at a place below this
  abbrev pub StandsBelow : ℕ → List ℕ → Type 0
  StandsBelow free key = (p : ℕ) × (p < free) × (slice_get ks p ≡ Some key)

  -- what the numbers below this gave: boundaries that stand before the place `free`, which is after the last one
  pub record Taken (number free : ℕ) (bs : List (List ℕ)) : Type 0 where
    pub few : length bs < number
    pub listed : IsListOf cmp (IsAtPlaceBelow ks want number) bs
    pub below : (key : List ℕ) → Contains bs key → StandsBelow free key
    pub last : (free ≡ 0) ⊎ ((j : ℕ) × (0 < j) × (j < number) × (free ≡ place j + 1))

  place_rises : (i j : ℕ) → 0 < want → i ≤ j → place i ≤ place j
  place_rises i j some le =
      let low : place i * want ≤ i * length ks = div-mul-le_self (i * length ks) want in
      let high : i * length ks ≤ j * length ks = mul-le-mul_right (length ks) le in
      le-div (place i) (j * length ks) want some (omega arith)

  -- a number adds no boundary
  adds_none : (number free : ℕ) (bs : List (List ℕ)) → 0 < number → ((key : List ℕ) → IsAtPlace ks want number key → Contains bs key) → Taken number free bs → Taken (number + 1) free bs
  adds_none number free bs some there taken = record {
    few = omega (arith, taken.few);
    listed = record {
      rising = taken.listed.rising;
      all = λ key at. of_number key at (eq-or-lt_of_le (below_more at.0 at.2));
      only = λ key at. later key (taken.listed.only key at);
    };
    below = taken.below;
    last = last_later taken.last;
  }
    where
      below_more : (j : ℕ) → j < number + 1 → j ≤ number
      below_more j lt = omega arith

      of_number : (key : List ℕ) (at : IsAtPlaceBelow ks want (number + 1) key) → (at.0 ≡ number) ⊎ (at.0 < number) → Contains bs key
      of_number key at (inl e) = there key (let P : ℕ → Type 0 = λ j. IsAtPlace ks want j key in subst P e at.3)
      of_number key at (inr lt) = taken.listed.all key (at.0, at.1, lt, at.3)

      later : (key : List ℕ) → IsAtPlaceBelow ks want number key → IsAtPlaceBelow ks want (number + 1) key
      later key at = (at.0, at.1, omega (arith, at.2), at.3)

      last_later : (free ≡ 0) ⊎ ((j : ℕ) × (0 < j) × (j < number) × (free ≡ place j + 1)) → (free ≡ 0) ⊎ ((j : ℕ) × (0 < j) × (j < number + 1) × (free ≡ place j + 1))
      last_later (inl e) = inl e
      last_later (inr at) = inr (at.0, at.1, omega (arith, at.2), at.3)

  -- its place was taken already
  pub skips : (number free : ℕ) (bs : List (List ℕ)) → 0 < want → 0 < number → place number < free → Taken number free bs → Taken (number + 1) free bs
  skips number free bs positive some behind taken = adds_none number free bs some (there taken.last) taken
    where
      there : (free ≡ 0) ⊎ ((j : ℕ) × (0 < j) × (j < number) × (free ≡ place j + 1)) → (key : List ℕ) → IsAtPlace ks want number key → Contains bs key
      there (inl e) key at = absurd (omega arith)
      there (inr x) key at =
          let e : place number ≡ place x.0 = omega (arith, place_rises x.0 number positive (omega (arith, x.2)), x.3) in
          let P : ℕ → Type 0 = λ p. slice_get ks p ≡ Some key in
          taken.listed.all key (x.0, x.1, x.2, subst P e at)

  -- there is no key at its place
  pub past : (number free : ℕ) (bs : List (List ℕ)) → 0 < number → length ks ≤ place number → Taken number free bs → Taken (number + 1) free bs
  past number free bs some behind taken =
      adds_none number free bs some (λ key at. absurd (none-some key (sym (slice_get_past ks (place number) behind) ∙ at))) taken

  -- the key at its place is added
  pub takes : (number free : ℕ) (bs : List (List ℕ)) (key : List ℕ) → KeysRise cmp ks → 0 < number → free ≤ place number → place number < length ks → IsAtPlace ks want number key → Taken number free bs
      → Taken (number + 1) (place number + 1) (bs ++ key ∷ [])
  takes number free bs key rising some behind within here taken = record {
    few = omega (arith, taken.few, length-append bs (key ∷ []));
    listed = record {
      rising = all_pairs_push (λ k later. cmp k later ≡ Less) bs key taken.listed.rising (λ k d lt. before (get_or bs k d) (taken.below (get_or bs k d) (Contains-get_or bs k d lt)));
      all = λ k at. of_number k at (eq-or-lt_of_le (below_more at.0 at.2));
      only = λ k at. of_key k (Contains-push_cases bs key k at);
    };
    below = λ k at. stands k (Contains-push_cases bs key k at);
    last = inr (number, some, omega arith, refl);
  }
    where
      key_is : get_or ks (place number) [] ≡ key
      key_is = get_or_from_slice_get ks (place number) key [] here

      before : (k : List ℕ) → StandsBelow free k → cmp k key ≡ Less
      before k at =
          let k_is : get_or ks at.0 [] ≡ k = get_or_from_slice_get ks at.0 k [] at.2 in
          let lt : at.0 < place number = omega (arith, at.1) in
          let P : List ℕ → Type 0 = λ x. cmp x key ≡ Less in
          let Q : List ℕ → Type 0 = λ x. cmp (get_or ks at.0 []) x ≡ Less in
          subst P k_is (subst Q key_is (rising at.0 (place number) [] lt within))

      below_more : (j : ℕ) → j < number + 1 → j ≤ number
      below_more j lt = omega arith

      of_number : (k : List ℕ) (at : IsAtPlaceBelow ks want (number + 1) k) → (at.0 ≡ number) ⊎ (at.0 < number) → Contains (bs ++ key ∷ []) k
      of_number k at (inl e) =
          let P : ℕ → Type 0 = λ j. IsAtPlace ks want j k in
          let at_number : IsAtPlace ks want number k = subst P e at.3 in
          let same : key ≡ k = same_Some key k (sym here ∙ at_number) in
          let Q : List ℕ → Type 0 = λ x. Contains (bs ++ key ∷ []) x in
          subst Q same (Contains-push bs key)
      of_number k at (inr lt) = Contains-append_left bs (key ∷ []) k (taken.listed.all k (at.0, at.1, lt, at.3))

      of_key : (k : List ℕ) → Contains bs k ⊎ (key ≡ k) → IsAtPlaceBelow ks want (number + 1) k
      of_key k (inl at) =
          let x = taken.listed.only k at in
          (x.0, x.1, omega (arith, x.2), x.3)
      of_key k (inr e) =
          let P : List ℕ → Type 0 = λ x. IsAtPlace ks want number x in
          (number, some, omega arith, subst P e here)

      stands : (k : List ℕ) → Contains bs k ⊎ (key ≡ k) → StandsBelow (place number + 1) k
      stands k (inl at) =
          let x = taken.below k at in
          (x.0, omega (arith, x.1), x.2)
      stands k (inr e) =
          let P : List ℕ → Type 0 = λ x. slice_get ks (place number) ≡ Some x in
          (place number, omega arith, subst P e here)

  -- the same, in the words of a loop
  pub takes_at : (number free p free' : ℕ) (bs bs' : List (List ℕ)) (key : List ℕ) → KeysRise cmp ks → 0 < number → p ≡ place number → free ≤ p → p < length ks → slice_get ks p ≡ Some key → free' ≡ p + 1
      → bs' ≡ bs ++ key ∷ [] → Taken number free bs → Taken (number + 1) free' bs'
  takes_at number free p free' bs bs' key rising some is behind within here free_is bs_is taken =
      let P : List (List ℕ) → Type 0 = λ l. Taken (number + 1) free' l in
      let Q : ℕ → Type 0 = λ n. Taken (number + 1) n (bs ++ key ∷ []) in
      let R : ℕ → Type 0 = λ n. slice_get ks n ≡ Some key in
      let next : place number + 1 ≡ free' = omega arith in
      subst P (sym bs_is) (subst Q next (takes number free bs key rising some (omega arith) (omega arith) (subst R is here) taken))

  pub stays : (number free free' : ℕ) (bs bs' : List (List ℕ)) → free' ≡ free → bs' ≡ bs → Taken number free bs → Taken number free' bs'
  stays number free free' bs bs' free_is bs_is taken =
      let P : List (List ℕ) → Type 0 = λ l. Taken number free' l in
      let Q : ℕ → Type 0 = λ n. Taken number n bs in
      subst P (sym bs_is) (subst Q (sym free_is) taken)
