-- Numbers as a set.
use Rattle.std.proofs.Common.{◌≡◌, ◌<◌, ◌^◌, ℕ, suc, cond, eqb, Bool, true, false, List, [], ◌∷◌, ◌++◌, get_or, sym, ap, subst, ◌∙◌, inl, inr}
use Rattle.std.proofs.lemmas.Bool.{eq-eqb, eqb-true}
use Rattle.std.specs.BTreeSet.{BTreeSet, Updates, contains}
use Rattle.std.specs.Ordering.{nat_cmp}
use Rattle.edit.proofs.Tested.{is_eq-nat_cmp}
use Rattle.folder.specs.ReadsAs.{IsOneOf}
use Rattle.install.proofs.Numbers.{among_append, among_first, among_second}
use Rattle.install.specs.NumberIn.{IsNumberSet}
use Rattle.install.proofs.Outputs.{test_cases as test}

-- one number more
pub set_more : (old new : BTreeSet ℕ) (numbers : List ℕ) (k : ℕ) → IsNumberSet old numbers → Updates nat_cmp old new k true → IsNumberSet new (numbers ++ k ∷ [])
set_more old new numbers k h u n =
    elim (test (eqb k n)) [
      | inl yes' ↦
          let e : k ≡ n = eqb-true k n yes' in
          let is : contains nat_cmp new n ≡ true = u.0 n ∙ ap (λ (b : Bool). cond b true (contains nat_cmp old n)) (is_eq-nat_cmp k n ∙ yes') in
          (λ _. among_second numbers (k ∷ []) n (inl (sym e)), λ _. is)
      | inr no' ↦
          let is : contains nat_cmp new n ≡ contains nat_cmp old n = u.0 n ∙ ap (λ (b : Bool). cond b true (contains nat_cmp old n)) (is_eq-nat_cmp k n ∙ no') in (
            λ t. among_first numbers (k ∷ []) n ((h n).0 (sym is ∙ t)),
            λ m. is ∙ (h n).1 (elim (among_append numbers (k ∷ []) n m) [ inl a ↦ a | inr b ↦ absurd (other k n no' b) ]),
          )
    ]
  where
    other : (k n : ℕ) → eqb k n ≡ false → IsOneOf (k ∷ []) n → ⊥
    other k n no' (inl same) = let yes' : eqb k n ≡ true = eq-eqb k n (sym same) in cc (no', yes')
    other k n no' (inr none') = none'

-- numbers of which each fits
pub all_fit : (numbers : List ℕ) → ((i : ℕ) → get_or numbers i 0 < 2 ^ 64) → (n : ℕ) → IsOneOf numbers n → n < 2 ^ 64
all_fit [] h n m = absurd m
all_fit (k ∷ numbers) h n (inl same) = subst (λ (x : ℕ). x < 2 ^ 64) (sym same) (h 0)
all_fit (k ∷ numbers) h n (inr m) = all_fit numbers (λ i. h (suc i)) n m
