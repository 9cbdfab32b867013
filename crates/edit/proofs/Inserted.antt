-- Elements put one by one at their places in an order: they are all there, and in that order.
use Rattle.std.proofs.Common.{◌≡◌, ◌≢◌, ℕ, zero, suc, ◌+◌, ◌<◌, ◌⊎◌, inl, inr, Bool, true, false, List, [], ◌∷◌, ◌++◌, length, get_or, refl, sym, ap, subst, ◌∙◌, append-nil, arith}
use Rattle.std.specs.List.{All, fold, AllByRecursion, IsDistinct}
use Rattle.std.specs.List.Sorted.{IsStrictlySortedBy, IsSortedBy, IsPermutation}
use Rattle.std.specs.BTreeSet.{insert_key}
use Rattle.std.specs.Cmp.{IsTotalOrder}
use Rattle.std.specs.Ordering.{is_lt, ordering_reverse, match_ordering}
use Rattle.std.specs.declared.cmp.Ordering.{Ordering}
use Rattle.std.specs.declared.cmp.Ordering.TheVariants.{Less, Equal, Greater}
use Rattle.std.proofs.lemmas.Cmp.{tied_itself}
use Rattle.std.proofs.lemmas.List.Elements.{All-head, All-tail}
use Rattle.std.proofs.lemmas.List.Sorted.{ranks_by, sorted_far, All-permutation, IsPermutation-sym, IsPermutation-refl, IsPermutation-trans, IsPermutation-cons, IsPermutation-middle, IsPermutation-append_left}
use Rattle.std.proofs.lemmas.Map.Keys.{IsDistinct-IsPermutation, IsDistinct-head}

-- ---- elements of lists

abbrev pub IsIn : {A : Type 0} → List A → A → Type 0
IsIn [] q = ⊥
IsIn (x ∷ xs) q = (q ≡ x) ⊎ IsIn xs q

in_at : {A : Type 0} (xs : List A) (k : ℕ) (d : A) → k < length xs → IsIn xs (get_or xs k d)
in_at [] k d lt = absurd (omega arith)
in_at (x ∷ xs) zero d lt = inl refl
in_at (x ∷ xs) (suc k) d lt = inr (in_at xs k d (omega arith))

each_in : {A : Type 0} (xs ys : List A) → All (IsIn ys) xs → (q : A) → IsIn xs q → IsIn ys q
each_in [] ys h q e = absurd e
each_in (x ∷ xs) ys h q (inl e) = subst (IsIn ys) (sym e) (All-head (IsIn ys) x xs h)
each_in (x ∷ xs) ys h q (inr e) = each_in xs ys (All-tail (IsIn ys) x xs h) q e

in_permuted : {A : Type 0} (xs ys : List A) → IsPermutation xs ys → (q : A) → IsIn ys q → IsIn xs q
in_permuted xs ys p = each_in ys xs (All-permutation (IsIn xs) xs ys p (λ k d lt. in_at xs k d lt))

all_in : {A : Type 0} (P : A → Type 0) (xs : List A) → AllByRecursion P xs → (q : A) → IsIn xs q → P q
all_in P [] h q e = absurd e
all_in P (x ∷ xs) h q (inl e) = subst P (sym e) h.0
all_in P (x ∷ xs) h q (inr e) = all_in P xs h.1 q e

first_part : {A : Type 0} (P : A → Type 0) (xs ys : List A) → AllByRecursion P (xs ++ ys) → AllByRecursion P xs
first_part P [] ys h = tt
first_part P (x ∷ xs) ys h = (h.0, first_part P xs ys h.1)

module _ {A : Type 0} (R : A → A → Ordering) (total : IsTotalOrder R) where
  not_itself : (x : A) → R x x ≡ Less → ⊥
  not_itself x e = let tied : R x x ≡ Equal = tied_itself total x in let both : Less ≡ Equal = sym e ∙ tied in absurd cc

  not_both : (x y : A) → R x y ≡ Less → R y x ≡ Less → ⊥
  not_both x y e f = not_itself x (total.trans x y x e f)

  -- ---- sorted lists of the same elements

  heads : (x y : A) (xs ys : List A) → IsStrictlySortedBy R (x ∷ xs) → IsStrictlySortedBy R (y ∷ ys) → IsIn (y ∷ ys) x → IsIn (x ∷ xs) y → x ≡ y
  unfolding IsStrictlySortedBy
  heads x y xs ys sx sy (inl e) back = e
  heads x y xs ys sx sy (inr e) (inl f) = sym f
  heads x y xs ys sx sy (inr e) (inr f) = absurd (not_both x y (all_in (λ q. R x q ≡ Less) xs sx.0 y f) (all_in (λ q. R y q ≡ Less) ys sy.0 x e))

  -- an element after the head is not the head
  in_tail : (x y : A) (xs ys : List A) → IsStrictlySortedBy R (x ∷ xs) → x ≡ y → (q : A) → IsIn xs q → IsIn (y ∷ ys) q → IsIn ys q
  unfolding IsStrictlySortedBy
  in_tail x y xs ys sx same q e (inl f) = absurd (not_itself x (subst (λ (z : A). R x z ≡ Less) (f ∙ sym same) (all_in (λ z. R x z ≡ Less) xs sx.0 q e)))
  in_tail x y xs ys sx same q e (inr f) = f

  tails : (x y : A) (xs ys : List A) → IsStrictlySortedBy R (x ∷ xs) → x ≡ y → ((q : A) → IsIn (x ∷ xs) q → IsIn (y ∷ ys) q) → (q : A) → IsIn xs q → IsIn ys q
  unfolding IsStrictlySortedBy
  tails x y xs ys sx same h q e = in_tail x y xs ys sx same q e (h q (inr e))

  sorted_tail : (x : A) (xs : List A) → IsStrictlySortedBy R (x ∷ xs) → IsStrictlySortedBy R xs
  unfolding IsStrictlySortedBy
  sorted_tail x xs h = h.1

  same_sorted : (xs ys : List A) → IsStrictlySortedBy R xs → IsStrictlySortedBy R ys → ((q : A) → IsIn xs q → IsIn ys q) → ((q : A) → IsIn ys q → IsIn xs q) → xs ≡ ys
  same_sorted [] [] sx sy h k = refl
  same_sorted [] (y ∷ ys) sx sy h k = absurd (k y (inl refl))
  same_sorted (x ∷ xs) [] sx sy h k = absurd (h x (inl refl))
  same_sorted (x ∷ xs) (y ∷ ys) sx sy h k =
      let same = heads x y xs ys sx sy (h x (inl refl)) (k y (inl refl)) in
      let rest = same_sorted xs ys (sorted_tail x xs sx) (sorted_tail y ys sy) (tails x y xs ys sx same h) (tails y x ys xs sy (sym same) k) in
      ap (λ (z : A). z ∷ xs) same ∙ ap (λ (zs : List A). y ∷ zs) rest

  -- ---- an element put in at its place

  -- what the comparison with the first makes of it
  abbrev compared : A → A → List A → Ordering → List A
  compared k x xs o = match_ordering o (k ∷ x ∷ xs) (x ∷ xs) (x ∷ insert_key R xs k)

  all_compared : (P : A → Type 0) (x : A) (xs : List A) (k : A) → AllByRecursion P (x ∷ xs) → P k → AllByRecursion P (insert_key R xs k) → (o : Ordering) → AllByRecursion P (compared k x xs o)
  all_compared P x xs k h p rest Less = (p, h)
  all_compared P x xs k h p rest Equal = h
  all_compared P x xs k h p rest Greater = (h.0, rest)

  all_put : (P : A → Type 0) (ks : List A) (k : A) → AllByRecursion P ks → P k → AllByRecursion P (insert_key R ks k)
  all_put P [] k h p = (p, tt)
  all_put P (x ∷ xs) k h p = all_compared P x xs k h p (all_put P xs k h.1 p) (R k x)

  below_rest : (k x : A) (xs : List A) → R k x ≡ Less → AllByRecursion (λ y. R x y ≡ Less) xs → AllByRecursion (λ y. R k y ≡ Less) xs
  below_rest k x [] e h = tt
  below_rest k x (y ∷ ys) e h = (total.trans k x y e h.0, below_rest k x ys e h.1)

  sorted_compared : (x : A) (xs : List A) (k : A) → IsStrictlySortedBy R (x ∷ xs) → IsStrictlySortedBy R (insert_key R xs k) → (o : Ordering) → R k x ≡ o → IsStrictlySortedBy R (compared k x xs o)
  unfolding IsStrictlySortedBy
  sorted_compared x xs k h rest Less e = ((e, below_rest k x xs e h.0), h)
  sorted_compared x xs k h rest Equal e = h
  sorted_compared x xs k h rest Greater e = (all_put (λ y. R x y ≡ Less) xs k h.0 (total.antisymm x k ∙ ap ordering_reverse e), rest)

  sorted_put : (ks : List A) (k : A) → IsStrictlySortedBy R ks → IsStrictlySortedBy R (insert_key R ks k)
  unfolding IsStrictlySortedBy
  sorted_put [] k h = (tt, tt)
  sorted_put (x ∷ xs) k h = sorted_compared x xs k h (sorted_put xs k h.1) (R k x) refl

  pub sorted_all : (done fs : List A) → IsStrictlySortedBy R done → IsStrictlySortedBy R (fold (insert_key R) done fs)
  sorted_all done [] h = h
  sorted_all done (f ∷ fs) h = sorted_all (insert_key R done f) fs (sorted_put done f h)

  -- nothing else is in the list then
  from_compared : (x : A) (xs : List A) (k q : A) → (IsIn (insert_key R xs k) q → (q ≡ k) ⊎ IsIn xs q) → (o : Ordering) → IsIn (compared k x xs o) q → (q ≡ k) ⊎ IsIn (x ∷ xs) q
  from_compared x xs k q rest Less h = h
  from_compared x xs k q rest Equal h = inr h
  from_compared x xs k q rest Greater (inl e) = inr (inl e)
  from_compared x xs k q rest Greater (inr h) = elim (rest h) [ inl e ↦ inl e | inr i ↦ inr (inr i) ]

  from_put : (ks : List A) (k q : A) → IsIn (insert_key R ks k) q → (q ≡ k) ⊎ IsIn ks q
  from_put [] k q h = h
  from_put (x ∷ xs) k q h = from_compared x xs k q (from_put xs k q) (R k x) h

  pub from_all : (done fs : List A) (q : A) → IsIn (fold (insert_key R) done fs) q → IsIn done q ⊎ IsIn fs q
  from_all done [] q h = inl h
  from_all done (f ∷ fs) q h =
      elim (from_all (insert_key R done f) fs q h) [
        | inl i ↦ elim (from_put done f q i) [ inl e ↦ inr (inl e) | inr j ↦ inl j ]
        | inr i ↦ inr (inr i)
      ]

  none_sorted : IsStrictlySortedBy R []
  unfolding IsStrictlySortedBy
  none_sorted = tt

  -- ---- elements of which no two are the same, and none tie

  module _ (same : A → A → Bool) (flips : (x y : A) → same x y ≡ same y x) (ties : (x y : A) → R x y ≡ Equal → same x y ≡ true) where
    apart_ne : (x y : A) → same x y ≡ false → R x y ≢ Equal
    apart_ne x y apart e = let both : true ≡ false = sym (ties x y e) ∙ apart in absurd cc

    compared_permutes : (x : A) (xs : List A) (k : A) → R k x ≢ Equal → IsPermutation (k ∷ xs) (insert_key R xs k) → (o : Ordering) → R k x ≡ o → IsPermutation (k ∷ x ∷ xs) (compared k x xs o)
    compared_permutes x xs k ne rest Less e = IsPermutation-refl (k ∷ x ∷ xs)
    compared_permutes x xs k ne rest Equal e = absurd (ne e)
    compared_permutes x xs k ne rest Greater e =
        IsPermutation-trans (k ∷ x ∷ xs) (x ∷ k ∷ xs) (x ∷ insert_key R xs k) (IsPermutation-sym (x ∷ k ∷ xs) (k ∷ x ∷ xs) (IsPermutation-middle (x ∷ []) k xs)) (IsPermutation-cons x (k ∷ xs) (insert_key R xs k) rest)

    put_permutes : (ks : List A) (k : A) → AllByRecursion (λ y. same k y ≡ false) ks → IsPermutation (k ∷ ks) (insert_key R ks k)
    put_permutes [] k h = IsPermutation-refl (k ∷ [])
    put_permutes (x ∷ xs) k h = compared_permutes x xs k (apart_ne k x h.0) (put_permutes xs k h.1) (R k x) refl

    pub all_permute : (done fs : List A) → IsDistinct same (done ++ fs) → IsPermutation (done ++ fs) (fold (insert_key R) done fs)
    all_permute done [] apart = subst (λ (xs : List A). IsPermutation xs done) (sym (append-nil done)) (IsPermutation-refl done)
    all_permute done (f ∷ fs) apart =
        let front = IsPermutation-middle done f fs in
        let apart_front = IsDistinct-IsPermutation same flips (done ++ f ∷ fs) (f ∷ (done ++ fs)) front apart in
        let fresh = first_part (λ y. same f y ≡ false) done fs (IsDistinct-head same f (done ++ fs) apart_front) in
        let put = IsPermutation-append_left fs (f ∷ done) (insert_key R done f) (put_permutes done f fresh) in
        IsPermutation-trans (done ++ f ∷ fs) (f ∷ (done ++ fs)) (fold (insert_key R) (insert_key R done f) fs) front
        (IsPermutation-trans (f ∷ (done ++ fs)) (insert_key R done f ++ fs) (fold (insert_key R) (insert_key R done f) fs) put
        (all_permute (insert_key R done f) fs (IsDistinct-IsPermutation same flips (f ∷ (done ++ fs)) (insert_key R done f ++ fs) put apart_front)))

    -- elements that are put in one by one are those in order
    pub in_order : (fs sorted : List A) → IsPermutation fs sorted → IsStrictlySortedBy R sorted → IsDistinct same fs → fold (insert_key R) [] fs ≡ sorted
    in_order fs sorted p up apart =
        let all = all_permute [] fs apart in
        same_sorted (fold (insert_key R) [] fs) sorted (sorted_all [] fs none_sorted) up
        (λ q i. in_permuted sorted fs (IsPermutation-sym fs sorted p) q (in_permuted fs (fold (insert_key R) [] fs) all q i))
        (λ q i. in_permuted (fold (insert_key R) [] fs) fs (IsPermutation-sym fs (fold (insert_key R) [] fs) all) q (in_permuted fs sorted p q i))

    -- ---- a sorted list of which no two are the same rises strictly

    rises : (x y : A) → is_lt (R y x) ≡ false → same x y ≡ false → (o : Ordering) → R x y ≡ o → R x y ≡ Less
    rises x y not_below apart Less e = e
    rises x y not_below apart Equal e = absurd (apart_ne x y apart e)
    rises x y not_below apart Greater e =
        let back : R y x ≡ Less = total.antisymm y x ∙ ap ordering_reverse e in
        let both : true ≡ false = sym (ap is_lt back) ∙ not_below in absurd cc

    above_all : (x : A) (xs : List A) → ((k : ℕ) (d : A) → k < length xs → is_lt (R (get_or xs k d) x) ≡ false) → AllByRecursion (λ y. same x y ≡ false) xs → AllByRecursion (λ y. R x y ≡ Less) xs
    above_all x [] h apart = tt
    above_all x (y ∷ ys) h apart = (rises x y (h zero y (omega arith)) apart.0 (R x y) refl, above_all x ys (λ k d lt. h (suc k) d (omega arith)) apart.1)

    abbrev lt : A → A → Bool
    lt x y = is_lt (R x y)

    up_tail : (x : A) (xs : List A) → IsSortedBy lt (x ∷ xs) → IsSortedBy lt xs
    up_tail x xs h k d le below =
        let next : suc k + 1 ≡ suc (k + 1) = omega arith in
        subst (λ (n : ℕ). lt (get_or (x ∷ xs) n d) (get_or xs k d) ≡ false) next (h (suc k) d (omega arith) (omega arith))

    strict : (xs : List A) → IsSortedBy lt xs → IsDistinct same xs → IsStrictlySortedBy R xs
    unfolding IsStrictlySortedBy IsDistinct
    strict [] h apart = tt
    strict (x ∷ xs) h apart =
        (above_all x xs (λ k d below. sorted_far lt (ranks_by total (λ (f : A). f)) (x ∷ xs) h zero (suc k) d (omega arith) (omega arith)) apart.0, strict xs (up_tail x xs h) apart.1)

    -- a sorted list of the elements is the elements in order
    pub sorted_is : (fs sorted : List A) → IsPermutation fs sorted → IsSortedBy lt sorted → IsDistinct same fs → fold (insert_key R) [] fs ≡ sorted
    sorted_is fs sorted p up apart = in_order fs sorted p (strict sorted up (IsDistinct-IsPermutation same flips fs sorted p apart)) apart
