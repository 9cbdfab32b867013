-- The tests of a range's bounds.
use Rattle.std.proofs.Common.{◌≡◌, ◌≢◌, ℕ, true, false, List, Option, Some, None, refl, sym, subst, ◌∙◌}
use Rattle.std.proofs.lemmas.Option.{same_Some}
use Rattle.std.proofs.lemmas.Bool.{not-true, not-false}
use Rattle.std.specs.Prelude.{not}
use Rattle.std.specs.Option.{option_map_or, ForSome}
use Rattle.std.specs.Ordering.{is_lt}
use Rattle.std.specs.declared.cmp.Ordering.{Ordering}
use Rattle.std.specs.declared.cmp.Ordering.TheVariants.{Less}
use Rattle.table.specs.EncodedEntry.{Entry}
use Rattle.split.specs.Ranges.{KeyRange, IsIn}
use Rattle.split.specs.Bounds.{is_user_before}
use Rattle.reads.specs.FileChecks.{is_from}
use Rattle.reads.specs.TableOrder.{AreFalling, AreFallingIn}
use Rattle.ikey.proofs.Ordered.{is_lt-true, is_lt-false}

module _ (cmp : List ℕ → List ℕ → Ordering) (user : List ℕ) where
  from_of : (lower : Option (List ℕ)) → option_map_or (λ l. not (is_lt (cmp user l))) lower true ≡ true → ForSome lower (λ l. cmp user l ≢ Less)
  from_of None h = λ x e. absurd cc
  from_of (Some l) h = λ x e. subst (λ (k : List ℕ). cmp user k ≢ Less) (same_Some l x e) (is_lt-false (cmp user l) (not-true _ h))

  before_of : (upper : Option (List ℕ)) → option_map_or (λ u. is_lt (cmp user u)) upper true ≡ true → ForSome upper (λ u. cmp user u ≡ Less)
  before_of None h = λ x e. absurd cc
  before_of (Some u) h = λ x e. subst (λ (k : List ℕ). cmp user k ≡ Less) (same_Some u x e) (is_lt-true (cmp user u) h)

  not_from : (lower : Option (List ℕ)) → ForSome lower (λ l. cmp user l ≢ Less) → option_map_or (λ l. not (is_lt (cmp user l))) lower true ≡ false → ⊥
  not_from None h f = absurd cc
  not_from (Some l) h f = h l refl (is_lt-true (cmp user l) (not-false (is_lt (cmp user l)) f))

  -- a user key that is not before the upper bound isn't before it by the order
  pub bound_of : (upper : Option (List ℕ)) → option_map_or (λ u. is_lt (cmp user u)) upper true ≡ false → (bound : List ℕ) × (upper ≡ Some bound) × (cmp user bound ≡ Less → ⊥)
  bound_of None f = absurd cc
  bound_of (Some u) f = (u, refl, is_lt-false (cmp user u) f)

-- a user key that passes both tests is in the range
pub within : (cmp : List ℕ → List ℕ → Ordering) (range : KeyRange) (user : List ℕ) → is_user_before cmp range.upper true user ≡ true → is_from cmp range user ≡ true → IsIn cmp range user
within cmp range user before from = record { from = from_of cmp user range.lower from; before = before_of cmp user range.upper before }

-- one that fails the first isn't
pub before_it : (cmp : List ℕ → List ℕ → Ordering) (range : KeyRange) (user : List ℕ) → is_from cmp range user ≡ false → IsIn cmp range user → ⊥
before_it cmp range user f is = not_from cmp user range.lower is.from f

-- in the range without bounds are all user keys
pub all_fall : (cmp : List ℕ → List ℕ → Ordering) (range : KeyRange) → range.lower ≡ None → range.upper ≡ None → (entries : List Entry) → AreFallingIn (IsIn cmp range) entries → AreFalling entries
all_fall cmp range low up entries h = record { keys = λ k d lt. h.keys k d lt (each _); newer = λ i j d lt below. h.newer i j d lt below (each _) }
  where
    each : (user : List ℕ) → IsIn cmp range user
    each user = record { from = λ x e. let both : None ≡ Some x = sym low ∙ e in absurd cc; before = λ x e. let both : None ≡ Some x = sym up ∙ e in absurd cc }

pub fall_in : (P : List ℕ → Type 0) (entries : List Entry) → AreFalling entries → AreFallingIn P entries
fall_in P entries h = record { keys = λ k d lt of_kind. h.keys k d lt; newer = λ i j d lt below of_kind. h.newer i j d lt below }
