-- Tests of neighbours, and what they say of all.
use Rattle.std.proofs.Common.{◌≡◌, ℕ, ◌+◌, ◌<◌, ◌≤◌, Bool, true, false, List, [], ◌∷◌, get_or, refl, sym, arith}
use Rattle.std.specs.Prelude.{◌↔◌, nat_lt, AllPairs}
use Rattle.std.specs.List.{IsAllAdjacentAnswer}
use Rattle.std.specs.List.Sorted.{IsStrictlyIncreasing}
use Rattle.std.specs.Ordering.{is_lt}
use Rattle.std.specs.Cmp.{IsTotalOrder}
use Rattle.std.specs.declared.cmp.Ordering.{Ordering}
use Rattle.std.specs.declared.cmp.Ordering.TheVariants.{Less, Equal, Greater}
use Rattle.split.proofs.RisingKeys.{rises_from_next}
use borrow.Author.Tests.{ltb-true, ltb-false}

pub increasing_if : (xs : List ℕ) (answer : Bool) → IsAllAdjacentAnswer (λ x y b. b ≡ nat_lt x y) xs answer → (answer ≡ true) ↔ IsStrictlyIncreasing xs
increasing_if xs true next = (λ e k within. ltb-true (get_or xs k 0) (get_or xs (k + 1) 0) (sym (next k 0 within)), λ h. refl)
increasing_if xs false found = (
  λ e. absurd cc,
  λ rising.
      let up : get_or xs found.0 0 < get_or xs (found.0 + 1) 0 = rising found.0 found.1 in
      let down : get_or xs (found.0 + 1) 0 ≤ get_or xs found.0 0 = ltb-false (get_or xs found.0 0) (get_or xs (found.0 + 1) 0) (sym (found.2 0)) in
      absurd (omega (arith, up, down)),
)

not_less : (o : Ordering) → false ≡ is_lt o → o ≡ Less → ⊥
not_less Less e l = cc
not_less Equal e l = cc
not_less Greater e l = cc

pub rising_if : (cmp : List ℕ → List ℕ → Ordering) {X : Type 0} (f : X → List ℕ) → IsTotalOrder cmp → (xs : List X) (answer : Bool) → IsAllAdjacentAnswer (λ x y b. b ≡ is_lt (cmp (f x) (f y))) xs answer
    → (answer ≡ true) ↔ AllPairs (λ x y. cmp (f x) (f y) ≡ Less) xs
rising_if cmp f total xs true next = (λ e. rises_from_next cmp f total xs next, λ h. refl)
rising_if cmp f total [] false found = absurd (omega (arith, found.1))
rising_if cmp f total (x ∷ xs) false found = (
  λ e. absurd cc,
  λ rises. absurd (not_less (cmp (f (get_or (x ∷ xs) found.0 x)) (f (get_or (x ∷ xs) (found.0 + 1) x))) (found.2 x) (rises found.0 (found.0 + 1) x (omega arith) found.1)),
)
