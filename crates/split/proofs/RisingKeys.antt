-- Keys that rise strictly.
use Rattle.std.proofs.Common.{◌≡◌, ℕ, zero, suc, ◌+◌, ◌-◌, ◌<◌, Bool, true, false, List, [], ◌∷◌, length, map, get_or, refl, sym, ap, subst, ◌∙◌, arith}
use Rattle.std.specs.Prelude.{AllPairs, ◌↔◌}
use Rattle.std.specs.List.{AllAdjacentBelow, IsAllAdjacentAnswer}
use Rattle.std.specs.Ordering.{is_lt}
use Rattle.std.specs.declared.cmp.Ordering.{Ordering}
use Rattle.std.specs.declared.cmp.Ordering.TheVariants.{Less, Equal, Greater}
use Rattle.std.specs.Cmp.{IsTotalOrder}
use Rattle.std.proofs.lemmas.Cmp.{tied_itself}
use Rattle.std.proofs.lemmas.List.{get_or-map, length-map}
use Rattle.split.specs.Boundaries.{KeysRise}

less_if : (o : Ordering) → true ≡ is_lt o → o ≡ Less
less_if Less e = refl
less_if Equal e = absurd cc
less_if Greater e = absurd cc

not_less : (o : Ordering) → false ≡ is_lt o → o ≡ Less → ⊥
not_less Less e l = cc
not_less Equal e l = cc
not_less Greater e l = cc

-- no key is before itself
pub not_before_itself : (cmp : List ℕ → List ℕ → Ordering) → IsTotalOrder cmp → (k : List ℕ) → cmp k k ≡ Less → ⊥
not_before_itself cmp total k e = let same = tied_itself total k in cc

module _ (cmp : List ℕ → List ℕ → Ordering) {X : Type 0} (f : X → List ℕ) where
  -- elements whose keys are each before all later ones
  abbrev pub Rises : List X → Type 0
  Rises xs = AllPairs (λ x y. cmp (f x) (f y) ≡ Less) xs

  pub rising_keys : (xs : List X) → Rises xs → KeysRise cmp (map f xs)
  rising_keys [] rises i j d lt below = absurd (omega arith)
  rising_keys (x ∷ xs) rises i j d lt below =
      let within : j < length (x ∷ xs) = omega (arith, length-map (x ∷ xs) f) in
      let at_i : get_or (map f (x ∷ xs)) i d ≡ f (get_or (x ∷ xs) i x) = get_or-map f (x ∷ xs) i x d (omega arith) in
      let at_j : get_or (map f (x ∷ xs)) j d ≡ f (get_or (x ∷ xs) j x) = get_or-map f (x ∷ xs) j x d within in
      ap (λ (k : List ℕ). cmp k (get_or (map f (x ∷ xs)) j d)) at_i ∙ ap (cmp (f (get_or (x ∷ xs) i x))) at_j ∙ rises i j x lt within

  pub keys_rise : (xs : List X) → KeysRise cmp (map f xs) → Rises xs
  keys_rise xs rising i j d lt below =
      let within : j < length (map f xs) = omega (arith, length-map xs f) in
      let at_i : get_or (map f xs) i (f d) ≡ f (get_or xs i d) = get_or-map f xs i d (f d) (omega arith) in
      let at_j : get_or (map f xs) j (f d) ≡ f (get_or xs j d) = get_or-map f xs j d (f d) below in
      sym (ap (λ (k : List ℕ). cmp k (get_or (map f xs) j (f d))) at_i ∙ ap (cmp (f (get_or xs i d))) at_j) ∙ rising i j (f d) lt within

  module _ (total : IsTotalOrder cmp) (xs : List X) (next : AllAdjacentBelow (λ x y. true ≡ is_lt (cmp (f x) (f y))) xs (length xs)) where
    chain : (n i j : ℕ) (d : X) → j ≡ i + 1 + n → j < length xs → cmp (f (get_or xs i d)) (f (get_or xs j d)) ≡ Less
    chain zero i j d is below =
        let P : ℕ → Type 0 = λ m. cmp (f (get_or xs i d)) (f (get_or xs m d)) ≡ Less in
        let e : i + 1 ≡ j = omega arith in
        subst P e (less_if (cmp (f (get_or xs i d)) (f (get_or xs (i + 1) d))) (next i d (omega arith)))
    chain (suc n) i j d is below =
        let P : ℕ → Type 0 = λ m. cmp (f (get_or xs i d)) (f (get_or xs m d)) ≡ Less in
        let m : ℕ = i + 1 + n in
        let e : m + 1 ≡ j = omega arith in
        let here : m + 1 < length xs = omega arith in
        subst P e (total.trans (f (get_or xs i d)) (f (get_or xs m d)) (f (get_or xs (m + 1) d)) (chain n i m d refl (omega arith))
        (less_if (cmp (f (get_or xs m d)) (f (get_or xs (m + 1) d))) (next m d here)))

    pub rises_from_next : Rises xs
    rises_from_next i j d lt below =
        let gap : (n : ℕ) × (j ≡ i + 1 + n) = (j - (i + 1), omega arith) in
        chain gap.0 i j d gap.1 below

-- what a test of each key and the next says
pub rising_if : (cmp : List ℕ → List ℕ → Ordering) {X : Type 0} (f : X → List ℕ) (total : IsTotalOrder cmp) (xs : List X) (answer : Bool) → IsAllAdjacentAnswer (λ x y b. b ≡ is_lt (cmp (f x) (f y))) xs answer
    → (answer ≡ true) ↔ KeysRise cmp (map f xs)
rising_if cmp f total xs true next = (λ _. rising_keys cmp f xs (rises_from_next cmp f total xs next), λ _. refl)
rising_if cmp f total [] false found = absurd (omega (arith, found.1))
rising_if cmp f total (x ∷ xs) false found = (
  λ e. absurd cc,
  λ rising. absurd (not_less _ (found.2 x) (keys_rise cmp f (x ∷ xs) rising found.0 (found.0 + 1) x (omega arith) found.1)),
)
