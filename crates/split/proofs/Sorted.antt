-- Keys that are sorted, and of which neighbours that are equal are one.
use Rattle.std.proofs.Common.{◌≡◌, ℕ, ◌<◌, Bool, true, false, List, [], ◌∷◌, length, map, get_or, refl, sym, ap, subst, ◌∙◌, arith}
use Rattle.std.specs.Prelude.{Contains, nat_eq}
use Rattle.std.specs.declared.cmp.Ordering.{Ordering}
use Rattle.std.specs.declared.cmp.Ordering.TheVariants.{Less, Equal, Greater}
use Rattle.std.specs.Ordering.{is_eq}
use Rattle.std.specs.Cmp.{IsTotalOrder}
use Rattle.std.specs.Cmp.Lexicographic.{pointwise, same_text, other_text}
use Rattle.std.specs.List.{dedup}
use Rattle.std.specs.List.Sorted.{IsSorted, IsPermutation}
use Rattle.std.proofs.lemmas.Cmp.{on_total, on_equiv, nat_list_eq_equiv, tied_itself}
use Rattle.std.proofs.lemmas.List.{get_or-map, length-map}
use Rattle.std.proofs.lemmas.List.Elements.{Contains-get_or}
use Rattle.std.proofs.lemmas.List.Kept.{IsStrictlySortedBy-dedup, Any-dedup, Contains-from_dedup}
use Rattle.std.proofs.lemmas.List.Sorted.{Contains-permutation, IsPermutation-sym}
use Rattle.std.proofs.lemmas.Map.Keys.{Less-from_sorted}
use Rattle.table.specs.Comparator.{IsExact}
use Rattle.split.specs.SplitChoice.{IsListOf}
use Rattle.split.proofs.RisingKeys.{Rises, rising_keys}

module _ {X : Type 0} (f : X → List ℕ) where
  contains_key : (xs : List X) (x : X) → Contains xs x → Contains (map f xs) (f x)
  contains_key xs x at =
      (at.0, omega (arith, at.1, length-map xs f), get_or-map f xs at.0 x (f x) at.1 ∙ ap f at.2)

  -- the element of a key that a list contains
  of_key : (xs : List X) (key : List ℕ) → Contains (map f xs) key → (x : X) × Contains xs x × (f x ≡ key)
  of_key [] key at = absurd (omega (arith, at.1))
  of_key (x ∷ xs) key at =
      let lt : at.0 < length (x ∷ xs) = omega (arith, at.1, length-map (x ∷ xs) f) in
      (get_or (x ∷ xs) at.0 x, Contains-get_or (x ∷ xs) at.0 x lt, sym (get_or-map f (x ∷ xs) at.0 x key lt) ∙ at.2)

module _ (cmp : List ℕ → List ℕ → Ordering) (total : IsTotalOrder cmp) (exact : IsExact cmp) where
  ties_by : (a b : List ℕ) (e : Bool) (o : Ordering) → e ≡ pointwise nat_eq a b → cmp a b ≡ o → e ≡ is_eq o
  ties_by a b true o e h = ap is_eq (sym (tied_itself total a) ∙ ap (cmp a) (same_text a b e) ∙ h)
  ties_by a b false Equal e h = absurd (other_text a b e (exact a b h))
  ties_by a b false Less e h = refl
  ties_by a b false Greater e h = refl

  module _ {X : Type 0} (f : X → List ℕ) where
    abbrev pub same_keys : X → X → Bool
    same_keys x y = pointwise nat_eq (f x) (f y)

    -- a list that was sorted and then left without equal neighbours
    pub each_once_is : (xs ys zs : List X) → IsPermutation xs ys → IsSorted (λ x y. cmp (f x) (f y)) ys → zs ≡ dedup same_keys ys → IsListOf cmp (Contains (map f xs)) (map f zs)
    each_once_is xs ys zs moved sorted is = record {
      rising = let P : List X → Type 0 = λ l. Rises cmp f l in rising_keys cmp f zs (subst P (sym is) strict);
      all = λ key at. kept key (of_key f xs key at);
      only = λ key at. from key (of_key f zs key at);
    }
      where
        strict : Rises cmp f (dedup same_keys ys)
        strict i j d lt below =
            Less-from_sorted (λ x y. cmp (f x) (f y)) (dedup same_keys ys) i j d (IsStrictlySortedBy-dedup (on_total f total) (λ x y. ties_by (f x) (f y) (same_keys x y) (cmp (f x) (f y)) refl refl) ys sorted) lt below

        kept : (key : List ℕ) → (x : X) × Contains xs x × (f x ≡ key) → Contains (map f zs) key
        kept key x =
            let found = Any-dedup (on_equiv f nat_list_eq_equiv) ys x.0 (Contains-permutation xs ys x.0 moved x.1) in
            let there : Contains (dedup same_keys ys) found.1 = (found.0, found.2, found.3) in
            let P : List X → Type 0 = λ l. Contains l found.1 in
            let Q : List ℕ → Type 0 = λ k. Contains (map f zs) k in
            let same : f x.0 ≡ f found.1 = same_text (f x.0) (f found.1) (sym found.4) in
            subst Q (sym same ∙ x.2) (contains_key f zs found.1 (subst P (sym is) there))

        from : (key : List ℕ) → (x : X) × Contains zs x × (f x ≡ key) → Contains (map f xs) key
        from key x =
            let P : List X → Type 0 = λ l. Contains l x.0 in
            let Q : List ℕ → Type 0 = λ k. Contains (map f xs) k in
            subst Q x.2 (contains_key f xs x.0 (Contains-permutation ys xs x.0 (IsPermutation-sym xs ys moved) (Contains-from_dedup same_keys ys x.0 (subst P is x.1))))
