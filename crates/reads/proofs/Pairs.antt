-- What holds of each element and each later one.
use Rattle.std.proofs.Common.{◌≡◌, zero, suc, List, [], ◌∷◌, ◌++◌, map, get_or, sym, subst, ◌∙◌, inl, inr, arith}
use Rattle.std.specs.Prelude.{◌⊎◌, Contains, AllPairs}
use Rattle.std.specs.List.{flat_map}
use Rattle.std.proofs.lemmas.List.Elements.{Contains-get_or, Contains-append_left, Contains-append_right, Contains-append_cases}
use Rattle.reads.proofs.Members.{first_or_later, later_in, first_in, none_in, in_flat_map, from_flat_map, in_map, from_map}

module _ {X : Type 0} (R : X → X → Type 0) where
  -- the same by recursion
  abbrev pub Pairs : List X → Type 0
  Pairs [] = Unit {0}
  Pairs (x ∷ xs) = ((y : X) → Contains xs y → R x y) × Pairs xs

  pub pairs_from : (xs : List X) → AllPairs R xs → Pairs xs
  pairs_from [] h = tt
  pairs_from (x ∷ xs) h =
      (λ y at. subst (R x) at.2 (h zero (suc at.0) y (omega arith) (omega (arith, at.1))), pairs_from xs (λ i j d lt below. h (suc i) (suc j) d (omega arith) (omega arith)))

  pub pairs_to : (xs : List X) → Pairs xs → AllPairs R xs
  pairs_to [] h i j d lt below = absurd (omega arith)
  pairs_to (x ∷ xs) h i zero d lt below = absurd (omega arith)
  pairs_to (x ∷ xs) h zero (suc j) d lt below = h.0 (get_or xs j d) (Contains-get_or xs j d (omega arith))
  pairs_to (x ∷ xs) h (suc i) (suc j) d lt below = pairs_to xs h.1 i j d (omega arith) (omega arith)

  pub pairs_append : (xs ys : List X) → Pairs xs → Pairs ys → ((x y : X) → Contains xs x → Contains ys y → R x y) → Pairs (xs ++ ys)
  pairs_append [] ys left right across = right
  pairs_append (x ∷ xs) ys left right across = (
    λ y at. elim (Contains-append_cases xs ys y at) [ inl i ↦ left.0 y i | inr i ↦ across x y (first_in x xs) i ],
    pairs_append xs ys left.1 right (λ a b i j. across a b (later_in x xs a i) j),
  )

  pub pairs_left : (xs ys : List X) → Pairs (xs ++ ys) → Pairs xs
  pairs_left [] ys h = tt
  pairs_left (x ∷ xs) ys h = (λ y at. h.0 y (Contains-append_left xs ys y at), pairs_left xs ys h.1)

  pub pairs_right : (xs ys : List X) → Pairs (xs ++ ys) → Pairs ys
  pairs_right [] ys h = h
  pairs_right (x ∷ xs) ys h = pairs_right xs ys h.1

  pub pairs_across : (xs ys : List X) → Pairs (xs ++ ys) → (x y : X) → Contains xs x → Contains ys y → R x y
  pairs_across [] ys h x y i j = absurd (none_in x i)
  pairs_across (z ∷ xs) ys h x y i j =
      elim (first_or_later z xs x i) [
        | inl same ↦ subst (λ (a : X). R a y) (sym same) (h.0 y (Contains-append_right xs ys y j))
        | inr later ↦ pairs_across xs ys h.1 x y later j
      ]

  -- ---- lists that are joined

  module _ {F : Type 0} (of : F → List X) where
    pub pairs_part : (fs : List F) (f : F) → Pairs (flat_map of fs) → Contains fs f → Pairs (of f)
    pairs_part [] f h at = absurd (none_in f at)
    pairs_part (g ∷ fs) f h at =
        elim (first_or_later g fs f at) [
          | inl same ↦ subst (λ (x : F). Pairs (of x)) (sym same) (pairs_left (of g) (flat_map of fs) h)
          | inr later ↦ pairs_part fs f (pairs_right (of g) (flat_map of fs) h) later
        ]

    -- of two different lists
    pub pairs_of_two : (fs : List F) (f g : F) (x y : X) → (f ≡ g → ⊥) → Pairs (flat_map of fs) → Contains fs f → Contains fs g → Contains (of f) x → Contains (of g) y → R x y ⊎ R y x
    pairs_of_two [] f g x y other h i j own also = absurd (none_in f i)
    pairs_of_two (z ∷ fs) f g x y other h i j own also = by_places (first_or_later z fs f i) (first_or_later z fs g j) (λ later_f later_g. pairs_of_two fs f g x y other (pairs_right (of z) (flat_map of fs) h) later_f later_g own also)
      where
        by_places : (f ≡ z) ⊎ Contains fs f → (g ≡ z) ⊎ Contains fs g → (Contains fs f → Contains fs g → R x y ⊎ R y x) → R x y ⊎ R y x
        by_places (inl e) (inl k) rest = absurd (other (e ∙ sym k))
        by_places (inl e) (inr k) rest = inl (pairs_across (of z) (flat_map of fs) h x y (subst (λ (w : F). Contains (of w) x) e own) (in_flat_map of fs g y k also))
        by_places (inr e) (inl k) rest = inr (pairs_across (of z) (flat_map of fs) h y x (subst (λ (w : F). Contains (of w) y) k also) (in_flat_map of fs f x e own))
        by_places (inr e) (inr k) rest = rest e k

    -- lists whose own elements are in order, each with those of each later list
    pub pairs_joined : (fs : List F) → ((f : F) → Contains fs f → Pairs (of f)) → AllPairs (λ f g. (x y : X) → Contains (of f) x → Contains (of g) y → R x y) fs → Pairs (flat_map of fs)
    pairs_joined [] own across = tt
    pairs_joined (f ∷ fs) own across =
        pairs_append (of f) (flat_map of fs) (own f (first_in f fs)) (pairs_joined fs (λ g at. own g (later_in f fs g at)) (λ i j d lt below. across (suc i) (suc j) d (omega arith) (omega arith)))
        (λ x y i j.
        let from = from_flat_map of fs y j in
        let P : F → Type 0 = λ g. (a b : X) → Contains (of f) a → Contains (of g) b → R a b in
        let place = from.there in
        let here : P from.source = subst P place.2 (across zero (suc place.0) from.source (omega arith) (omega (arith, place.1))) in
        here x y i from.held)

-- ---- lists that are mapped, and facts of two that follow from others

pub pairs_map : {X Y : Type 0} (R : Y → Y → Type 0) (h : X → Y) (xs : List X) → Pairs (λ x y. R (h x) (h y)) xs → Pairs R (map h xs)
pairs_map R h [] pairs = tt
pairs_map {X = X} R h (x ∷ xs) pairs =
    (λ y at. let from = from_map h xs y at in subst (R (h x)) from.is (pairs.0 from.source from.there), pairs_map R h xs pairs.1)

pub pairs_unmap : {X Y : Type 0} (R : Y → Y → Type 0) (h : X → Y) (xs : List X) → Pairs R (map h xs) → Pairs (λ x y. R (h x) (h y)) xs
pairs_unmap R h [] pairs = tt
pairs_unmap R h (x ∷ xs) pairs = (λ y at. pairs.0 (h y) (in_map h xs y at), pairs_unmap R h xs pairs.1)

pub pairs_weaker : {X : Type 0} (R S : X → X → Type 0) → ((x y : X) → R x y → S x y) → (xs : List X) → Pairs R xs → Pairs S xs
pairs_weaker R S f [] pairs = tt
pairs_weaker R S f (x ∷ xs) pairs = (λ y at. f x y (pairs.0 y at), pairs_weaker R S f xs pairs.1)

pub pairs_within : {X : Type 0} (R S : X → X → Type 0) (xs : List X) → ((x y : X) → Contains xs x → Contains xs y → R x y → S x y) → Pairs R xs → Pairs S xs
pairs_within R S [] f pairs = tt
pairs_within R S (x ∷ xs) f pairs =
    (λ y at. f x y (first_in x xs) (later_in x xs y at) (pairs.0 y at), pairs_within R S xs (λ a b i j. f a b (later_in x xs a i) (later_in x xs b j)) pairs.1)

pub pairs_both : {X : Type 0} (R S : X → X → Type 0) (xs : List X) → Pairs R xs → Pairs S xs → Pairs (λ x y. R x y × S x y) xs
pairs_both R S [] r s = tt
pairs_both R S (x ∷ xs) r s = (λ y at. (r.0 y at, s.0 y at), pairs_both R S xs r.1 s.1)

-- of two different elements one stands before the other
pub pairs_two : {X : Type 0} (R : X → X → Type 0) (xs : List X) (x y : X) → (x ≡ y → ⊥) → Pairs R xs → Contains xs x → Contains xs y → R x y ⊎ R y x
pairs_two R [] x y other pairs i j = absurd (none_in x i)
pairs_two {X = X} R (z ∷ xs) x y other pairs i j = by_places (first_or_later z xs x i) (first_or_later z xs y j) (pairs_two R xs x y other pairs.1)
  where
    by_places : (x ≡ z) ⊎ Contains xs x → (y ≡ z) ⊎ Contains xs y → (Contains xs x → Contains xs y → R x y ⊎ R y x) → R x y ⊎ R y x
    by_places (inl e) (inl k) rest = absurd (other (e ∙ sym k))
    by_places (inl e) (inr k) rest = inl (subst (λ (w : X). R w y) (sym e) (pairs.0 y k))
    by_places (inr e) (inl k) rest = inr (subst (λ (w : X). R w x) (sym k) (pairs.0 x e))
    by_places (inr e) (inr k) rest = rest e k
