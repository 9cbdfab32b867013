-- The elements of lists.
use Rattle.std.proofs.Common.{◌≡◌, ℕ, zero, suc, ◌<◌, Bool, true, false, cond, List, [], ◌∷◌, length, map, get_or, refl, sym, ap, subst, ◌∙◌, inl, inr, arith}
use Rattle.std.specs.Prelude.{◌⊎◌, Contains}
use Rattle.std.specs.List.{filter, flat_map}
use Rattle.std.proofs.lemmas.List.Elements.{Contains-append_left, Contains-append_right, Contains-append_cases}

pub first_or_later : {X : Type 0} (x : X) (xs : List X) (k : X) → Contains (x ∷ xs) k → (k ≡ x) ⊎ Contains xs k
first_or_later {X = X} x xs k at = of_place at.0 at.1 at.2
  where
    of_place : (i : ℕ) → i < length (x ∷ xs) → get_or (x ∷ xs) i k ≡ k → (k ≡ x) ⊎ Contains xs k
    of_place zero lt e = inl (sym e)
    of_place (suc i) lt e = inr (i, omega arith, e)

pub later_in : {X : Type 0} (x : X) (xs : List X) (k : X) → Contains xs k → Contains (x ∷ xs) k
later_in x xs k at = (suc at.0, omega (arith, at.1), at.2)

pub first_in : {X : Type 0} (x : X) (xs : List X) → Contains (x ∷ xs) x
first_in x xs = (zero, omega arith, refl)

pub none_in : {X : Type 0} (k : X) → Contains [] k → ⊥
none_in k at = absurd (omega (arith, at.1))

-- an element of a filtered list
in_tested : {X : Type 0} (p : X → Bool) (x : X) (xs : List X) (k : X) (b : Bool) → p x ≡ b → p k ≡ true → (k ≡ x) ⊎ Contains xs k → (Contains xs k → Contains (filter p xs) k) → Contains (cond b (x ∷ filter p xs) (filter p xs)) k
in_tested p x xs k true e h (inl same) rest = subst (Contains (x ∷ filter p xs)) (sym same) (first_in x (filter p xs))
in_tested p x xs k true e h (inr later) rest = later_in x (filter p xs) k (rest later)
in_tested p x xs k false e h (inl same) rest = let both : true ≡ false = sym h ∙ ap p same ∙ e in absurd cc
in_tested p x xs k false e h (inr later) rest = rest later

pub in_filter : {X : Type 0} (p : X → Bool) (xs : List X) (k : X) → p k ≡ true → Contains xs k → Contains (filter p xs) k
in_filter p [] k h at = absurd (none_in k at)
in_filter p (x ∷ xs) k h at = in_tested p x xs k (p x) refl h (first_or_later x xs k at) (in_filter p xs k h)

from_later : {X : Type 0} (p : X → Bool) (x : X) (xs : List X) (k : X) → Contains xs k × (p k ≡ true) → Contains (x ∷ xs) k × (p k ≡ true)
from_later p x xs k h = (later_in x xs k h.0, h.1)

from_tested : {X : Type 0} (p : X → Bool) (x : X) (xs : List X) (k : X) (b : Bool) → p x ≡ b → (Contains (filter p xs) k → Contains xs k × (p k ≡ true)) → Contains (cond b (x ∷ filter p xs) (filter p xs)) k
    → Contains (x ∷ xs) k × (p k ≡ true)
from_tested p x xs k true e rest there =
    elim (first_or_later x (filter p xs) k there) [
      | inl same ↦ (subst (Contains (x ∷ xs)) (sym same) (first_in x xs), ap p same ∙ e)
      | inr later ↦ from_later p x xs k (rest later)
    ]
from_tested p x xs k false e rest there = from_later p x xs k (rest there)

pub from_filter : {X : Type 0} (p : X → Bool) (xs : List X) (k : X) → Contains (filter p xs) k → Contains xs k × (p k ≡ true)
from_filter p [] k at = absurd (none_in k at)
from_filter p (x ∷ xs) k at = from_tested p x xs k (p x) refl (from_filter p xs k) at

-- an element of lists that were joined
pub in_flat_map : {X Y : Type 0} (f : X → List Y) (xs : List X) (x : X) (y : Y) → Contains xs x → Contains (f x) y → Contains (flat_map f xs) y
in_flat_map f [] x y at there = absurd (none_in x at)
in_flat_map f (z ∷ xs) x y at there =
    elim (first_or_later z xs x at) [
      | inl same ↦ Contains-append_left (f z) (flat_map f xs) y (subst (λ w. Contains (f w) y) same there)
      | inr later ↦ Contains-append_right (f z) (flat_map f xs) y (in_flat_map f xs x y later there)
    ]

-- which of the lists it is from
pub record IsFrom {X Y : Type 0} (f : X → List Y) (xs : List X) (y : Y) : Type 0 where
  pub source : X
  pub there : Contains xs source
  pub held : Contains (f source) y

later_from : {X Y : Type 0} (f : X → List Y) (z : X) (xs : List X) (y : Y) → IsFrom f xs y → IsFrom f (z ∷ xs) y
later_from f z xs y h = record { source = h.source; there = later_in z xs h.source h.there; held = h.held }

pub from_flat_map : {X Y : Type 0} (f : X → List Y) (xs : List X) (y : Y) → Contains (flat_map f xs) y → IsFrom f xs y
from_flat_map f [] y at = absurd (none_in y at)
from_flat_map f (z ∷ xs) y at =
    elim (Contains-append_cases (f z) (flat_map f xs) y at) [
      | inl here ↦ record { source = z; there = first_in z xs; held = here }
      | inr later ↦ later_from f z xs y (from_flat_map f xs y later)
    ]

-- an element of a mapped list
pub in_map : {X Y : Type 0} (f : X → Y) (xs : List X) (x : X) → Contains xs x → Contains (map f xs) (f x)
in_map f [] x at = absurd (none_in x at)
in_map f (z ∷ xs) x at =
    elim (first_or_later z xs x at) [
      | inl same ↦ subst (λ w. Contains (map f (z ∷ xs)) (f w)) (sym same) (first_in (f z) (map f xs))
      | inr later ↦ later_in (f z) (map f xs) (f x) (in_map f xs x later)
    ]

-- which element it is of
pub record IsMapped {X Y : Type 0} (f : X → Y) (xs : List X) (y : Y) : Type 0 where
  pub source : X
  pub there : Contains xs source
  pub is : f source ≡ y

later_mapped : {X Y : Type 0} (f : X → Y) (z : X) (xs : List X) (y : Y) → IsMapped f xs y → IsMapped f (z ∷ xs) y
later_mapped f z xs y h = record { source = h.source; there = later_in z xs h.source h.there; is = h.is }

pub from_map : {X Y : Type 0} (f : X → Y) (xs : List X) (y : Y) → Contains (map f xs) y → IsMapped f xs y
from_map f [] y at = absurd (none_in y at)
from_map f (z ∷ xs) y at =
    elim (first_or_later (f z) (map f xs) y at) [
      | inl same ↦ record { source = z; there = first_in z xs; is = sym same }
      | inr later ↦ later_mapped f z xs y (from_map f xs y later)
    ]
