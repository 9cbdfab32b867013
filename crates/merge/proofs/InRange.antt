-- Which user keys a range holds.
use Rattle.std.proofs.Common.{◌≡◌, ◌≢◌, ℕ, true, List, Some, None, Option, refl, ap, subst}
use Rattle.std.specs.Prelude.{not}
use Rattle.std.specs.Option.{option_map_or, ForSome}
use Rattle.std.specs.Ordering.{is_lt}
use Rattle.std.specs.declared.cmp.Ordering.{Ordering}
use Rattle.std.specs.declared.cmp.Ordering.TheVariants.{Less, Equal, Greater}
use Rattle.std.proofs.lemmas.Bool.{and_parts, and_from, not-true}
use Rattle.std.proofs.lemmas.Option.{same_Some}
use Rattle.merge.specs.InRange.{HoldsLaw}
use Rattle.table.proofs.Ordered.{is_lt-true, is_lt-false}

not_less_back : (o : Ordering) → o ≢ Less → not (is_lt o) ≡ true
not_less_back Less h = absurd (h refl)
not_less_back Equal h = refl
not_less_back Greater h = refl

from_of : (cmp : List ℕ → List ℕ → Ordering) (lower : Option (List ℕ)) (user : List ℕ) → option_map_or (λ l. not (is_lt (cmp user l))) lower true ≡ true → ForSome lower (λ l. cmp user l ≢ Less)
from_of cmp None user h = λ x e. absurd (cc)
from_of cmp (Some l) user h = λ x e. subst (λ (k : List ℕ). cmp user k ≢ Less) (same_Some l x e) (is_lt-false (cmp user l) (not-true _ h))

from_back : (cmp : List ℕ → List ℕ → Ordering) (lower : Option (List ℕ)) (user : List ℕ) → ForSome lower (λ l. cmp user l ≢ Less) → option_map_or (λ l. not (is_lt (cmp user l))) lower true ≡ true
from_back cmp None user h = refl
from_back cmp (Some l) user h = not_less_back (cmp user l) (h l refl)

before_of : (cmp : List ℕ → List ℕ → Ordering) (upper : Option (List ℕ)) (user : List ℕ) → option_map_or (λ u. is_lt (cmp user u)) upper true ≡ true → ForSome upper (λ u. cmp user u ≡ Less)
before_of cmp None user h = λ x e. absurd (cc)
before_of cmp (Some u) user h = λ x e. subst (λ (k : List ℕ). cmp user k ≡ Less) (same_Some u x e) (is_lt-true (cmp user u) h)

before_back : (cmp : List ℕ → List ℕ → Ordering) (upper : Option (List ℕ)) (user : List ℕ) → ForSome upper (λ u. cmp user u ≡ Less) → option_map_or (λ u. is_lt (cmp user u)) upper true ≡ true
before_back cmp None user h = refl
before_back cmp (Some u) user h = ap is_lt (h u refl)

pub holds_tells : (cmp : List ℕ → List ℕ → Ordering) → HoldsLaw cmp
holds_tells cmp range user = (
  λ h. let both = and_parts (option_map_or (λ l. not (is_lt (cmp user l))) range.lower true) (option_map_or (λ u. is_lt (cmp user u)) range.upper true) h in
      record { from = from_of cmp range.lower user both.0; before = before_of cmp range.upper user both.1 },
  λ is. and_from (option_map_or (λ l. not (is_lt (cmp user l))) range.lower true) (option_map_or (λ u. is_lt (cmp user u)) range.upper true) (from_back cmp range.lower user is.from) (before_back cmp range.upper user is.before),
)
