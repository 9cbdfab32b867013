-- A range whose bounds leave no user key between them.
use Rattle.std.proofs.Common.{◌≡◌, ℕ, Bool, true, false, cond, not, List, [], ◌∷◌, Some, refl, ap, ◌∙◌}
use Rattle.std.specs.Prelude.{◌&&◌, Option}
use Rattle.std.specs.Cmp.{IsTotalOrder}
use Rattle.std.specs.Option.{option_map_or}
use Rattle.std.specs.Ordering.{is_lt, ordering_reverse}
use Rattle.std.specs.declared.cmp.Ordering.{Ordering}
use Rattle.std.specs.declared.cmp.Ordering.TheVariants.{Less, Equal, Greater}
use Rattle.table.specs.Key.{user_of}
use Rattle.block.specs.EncodedEntry.{Entry}
use Rattle.reads.specs.Ranges.{KeyRange}
use Rattle.merge.specs.InRange.{entries_in, is_in_range}
use Rattle.folder.proofs.Ordered.{is_lt-true, is_lt-false}

module _ (cmp : List ℕ → List ℕ → Ordering) (total : IsTotalOrder cmp) (lower upper : List ℕ) (apart : is_lt (cmp lower upper) ≡ false) where
  -- what is before the upper bound is before the lower one
  below : (user : List ℕ) → cmp user upper ≡ Less → is_lt (cmp user lower) ≡ true
  below user before = by (cmp lower user) refl
    where
      by : (o : Ordering) → cmp lower user ≡ o → is_lt (cmp user lower) ≡ true
      by Less is = absurd (is_lt-false (cmp lower upper) apart (total.trans lower user upper is before))
      by Equal is = absurd (is_lt-false (cmp lower upper) apart (total.congr lower user upper is ∙ before))
      by Greater is = ap is_lt (total.antisymm user lower ∙ ap ordering_reverse is)

  none_by : (user : List ℕ) (b : Bool) → is_lt (cmp user upper) ≡ b → (not (is_lt (cmp user lower)) && b) ≡ false
  none_by user true h = ap (λ (b : Bool). not b && true) (below user (is_lt-true (cmp user upper) h))
  none_by user false h = by (not (is_lt (cmp user lower)))
    where
      by : (b : Bool) → (b && false) ≡ false
      by true = refl
      by false = refl

  module _ (range : KeyRange) (low : range.lower ≡ Some lower) (high : range.upper ≡ Some upper) where
    none_there : (user : List ℕ) → is_in_range cmp range user ≡ false
    none_there user =
        ap (λ (bound : Option (List ℕ)). option_map_or (λ l. not (is_lt (cmp user l))) bound true && option_map_or (λ u. is_lt (cmp user u)) range.upper true) low
        ∙ ap (λ (bound : Option (List ℕ)). not (is_lt (cmp user lower)) && option_map_or (λ u. is_lt (cmp user u)) bound true) high
        ∙ none_by user (is_lt (cmp user upper)) refl

    pub none_in_range : (es : List Entry) → entries_in cmp range es ≡ []
    none_in_range [] = refl
    none_in_range (e ∷ es) = ap (λ (b : Bool). cond b (e ∷ entries_in cmp range es) (entries_in cmp range es)) (none_there (user_of e.key)) ∙ none_in_range es
