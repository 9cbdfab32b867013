-- Two lists of the same keys that both rise strictly are the same list.
use Rattle.std.proofs.Common.{◌≡◌, ℕ, zero, suc, ◌<◌, List, [], ◌∷◌, length, get_or, refl, sym, ap, subst, ◌∙◌, inl, inr, arith}
use Rattle.std.specs.Prelude.{◌⊎◌, Contains}
use Rattle.std.specs.declared.cmp.Ordering.{Ordering}
use Rattle.std.specs.declared.cmp.Ordering.TheVariants.{Less}
use Rattle.std.specs.Cmp.{IsTotalOrder}
use Rattle.split.specs.Boundaries.{KeysRise}
use Rattle.split.proofs.RisingKeys.{not_before_itself}
use Rattle.split.specs.SplitChoice.{IsListOf, IsAtPlaceBelow, OneChoiceLaw}

pub first_or_later : (x : List ℕ) (xs : List (List ℕ)) (k : List ℕ) → Contains (x ∷ xs) k → (k ≡ x) ⊎ Contains xs k
first_or_later x xs k at = of_place at.0 at.1 at.2
  where
    of_place : (i : ℕ) → i < length (x ∷ xs) → get_or (x ∷ xs) i k ≡ k → (k ≡ x) ⊎ Contains xs k
    of_place zero lt e = inl (sym e)
    of_place (suc i) lt e = inr (i, omega arith, e)

pub later_in : (x : List ℕ) (xs : List (List ℕ)) (k : List ℕ) → Contains xs k → Contains (x ∷ xs) k
later_in x xs k at = (suc at.0, omega (arith, at.1), at.2)

pub first_in : (x : List ℕ) (xs : List (List ℕ)) → Contains (x ∷ xs) x
first_in x xs = (zero, omega arith, refl)

module _ (cmp : List ℕ → List ℕ → Ordering) (total : IsTotalOrder cmp) where
  later_rise : (x : List ℕ) (xs : List (List ℕ)) → KeysRise cmp (x ∷ xs) → KeysRise cmp xs
  later_rise x xs rising i j d lt below = rising (suc i) (suc j) d (omega arith) (omega arith)

  first_before : (x : List ℕ) (xs : List (List ℕ)) (k : List ℕ) → KeysRise cmp (x ∷ xs) → Contains xs k → cmp x k ≡ Less
  first_before x xs k rising at =
      let P : List ℕ → Type 0 = λ l. cmp x l ≡ Less in
      subst P at.2 (rising zero (suc at.0) k (omega arith) (omega (arith, at.1)))

  one_first : (x y : List ℕ) (xs ys : List (List ℕ)) → KeysRise cmp (x ∷ xs) → KeysRise cmp (y ∷ ys) → (x ≡ y) ⊎ Contains ys x → (y ≡ x) ⊎ Contains xs y → x ≡ y
  one_first x y xs ys rise also (inl e) there = e
  one_first x y xs ys rise also (inr at) (inl e) = sym e
  one_first x y xs ys rise also (inr at) (inr there) =
      absurd (not_before_itself cmp total x (total.trans x y x (first_before x xs y rise there) (first_before y ys x also at)))

  -- a later key of the one list is a later key of the other
  later_too : (x y : List ℕ) (xs ys : List (List ℕ)) (k : List ℕ) → KeysRise cmp (x ∷ xs) → x ≡ y → Contains xs k → (k ≡ y) ⊎ Contains ys k → Contains ys k
  later_too x y xs ys k rise e at (inr there) = there
  later_too x y xs ys k rise e at (inl same) =
      let P : List ℕ → Type 0 = λ l. cmp l k ≡ Less in
      absurd (not_before_itself cmp total k (subst P (e ∙ sym same) (first_before x xs k rise at)))

  same_lists : (xs ys : List (List ℕ)) → KeysRise cmp xs → KeysRise cmp ys → ((k : List ℕ) → Contains xs k → Contains ys k) → ((k : List ℕ) → Contains ys k → Contains xs k) → xs ≡ ys
  same_lists [] [] rise also there back = refl
  same_lists [] (y ∷ ys) rise also there back = absurd (omega (arith, (back y (first_in y ys)).1))
  same_lists (x ∷ xs) [] rise also there back = absurd (omega (arith, (there x (first_in x xs)).1))
  same_lists (x ∷ xs) (y ∷ ys) rise also there back =
      let e : x ≡ y = one_first x y xs ys rise also (first_or_later y ys x (there x (first_in x xs))) (first_or_later x xs y (back y (first_in y ys))) in
      let later : xs ≡ ys =
      same_lists xs ys (later_rise x xs rise) (later_rise y ys also)
      (λ k at. later_too x y xs ys k rise e at (first_or_later y ys k (there k (later_in x xs k at))))
      (λ k at. later_too y x ys xs k also (sym e) at (first_or_later x xs k (back k (later_in y ys k at)))) in
      ap (λ (l : List ℕ). l ∷ xs) e ∙ ap (λ (l : List (List ℕ)). y ∷ l) later

  one_list : (Fact : List ℕ → Type 0) (xs ys : List (List ℕ)) → IsListOf cmp Fact xs → IsListOf cmp Fact ys → xs ≡ ys
  one_list Fact xs ys is also =
      same_lists xs ys is.rising also.rising (λ k at. also.all k (is.only k at)) (λ k at. is.all k (also.only k at))

  pub one_choice_law : OneChoiceLaw cmp
  one_choice_law users want boundaries others is also =
      let e : is.keys ≡ also.keys = one_list (Contains users) is.keys also.keys is.each_once also.each_once in
      let P : List (List ℕ) → Type 0 = λ keys. IsListOf cmp (IsAtPlaceBelow keys want want) others in
      one_list (IsAtPlaceBelow is.keys want want) boundaries others is.at_places (subst P (sym e) also.at_places)
