-- Tests, and tests over lists.
use Rattle.std.proofs.Common.{◌≡◌, ℕ, Bool, true, false, cond, eqb, ◌&&◌, ◌||◌, List, [], ◌∷◌, refl, ap, ◌∙◌, arith}
use Rattle.std.specs.List.{filter, list_any}
use Rattle.std.specs.Ordering.{nat_cmp, is_eq, ordering_then}
use Rattle.std.specs.declared.cmp.Ordering.{Ordering}
use Rattle.std.specs.declared.cmp.Ordering.TheVariants.{Less, Equal, Greater}
pub use Rattle.std.proofs.lemmas.Bool.{and_parts as both_true, or_parts as both_false, and_right as and_false, not-true as not_is_true}
use Rattle.std.proofs.lemmas.Bool.Decides.{nat_tests}

pub eqb-sym : (x y : ℕ) → eqb x y ≡ eqb y x
eqb-sym x y = grind (arith, nat_tests)

pub is_eq-nat_cmp : (x y : ℕ) → is_eq (nat_cmp x y) ≡ eqb x y
is_eq-nat_cmp x y = grind (arith, nat_tests)

pub is_eq-then : (o p : Ordering) → is_eq (ordering_then o p) ≡ (is_eq o && is_eq p)
is_eq-then Less p = refl
is_eq-then Equal p = refl
is_eq-then Greater p = refl

pub list_any-same : {X : Type 0} (p q : X → Bool) (same : (x : X) → p x ≡ q x) (xs : List X) → list_any p xs ≡ list_any q xs
list_any-same p q same [] = refl
list_any-same p q same (x ∷ xs) = ap (λ (b : Bool). b || list_any p xs) (same x) ∙ ap (λ (b : Bool). q x || b) (list_any-same p q same xs)

pub by_test : (b : Bool) (P : Bool → Type 0) (on : b ≡ true → P true) (off : b ≡ false → P false) → P b
by_test true P on off = on refl
by_test false P on off = off refl

-- no element of a list passes, so none of a filter does
pub list_any-filter : {X : Type 0} (p keep : X → Bool) (xs : List X) → list_any p xs ≡ false → list_any p (filter keep xs) ≡ false
list_any-filter p keep [] e = refl
list_any-filter p keep (x ∷ xs) e =
    let h = both_false (p x) (list_any p xs) e in
    let rest = list_any-filter p keep xs h.1 in
    by_test (keep x) (λ (b : Bool). list_any p (cond b (x ∷ filter keep xs) (filter keep xs)) ≡ false) (λ _. rw h.0 rest) (λ _. rest)
