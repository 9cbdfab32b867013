-- What two ranges have in common is in both.
use Rattle.std.proofs.Common.{◌≡◌, ◌≢◌, ℕ, Bool, true, false, List, Option, Some, None, refl, sym, ap, subst, ◌∙◌, if◌then◌else◌}
use Rattle.std.specs.Prelude.{◌↔◌}
use Rattle.std.specs.Cmp.{IsTotalOrder}
use Rattle.std.specs.Option.{ForSome}
use Rattle.std.specs.Ordering.{is_lt, ordering_reverse}
use Rattle.std.specs.declared.cmp.Ordering.{Ordering}
use Rattle.std.specs.declared.cmp.Ordering.TheVariants.{Less, Equal, Greater}
use Rattle.std.proofs.lemmas.Option.{none-some, same_Some}
use Rattle.split.specs.Ranges.{KeyRange, IsIn}
use Rattle.checks.specs.RangeOrder.{common_of, earlier_bound, later_bound}
use Rattle.checks.specs.CommonRange.{IsInBoth}
use Rattle.ikey.proofs.Ordered.{is_lt-true, is_lt-false}

module _ (cmp : List ℕ → List ℕ → Ordering) (total : IsTotalOrder cmp) where
  -- what is before a key is before each that isn't before it
  before_later : (first second key : List ℕ) → (cmp first second ≡ Less → ⊥) → cmp key second ≡ Less → cmp key first ≡ Less
  before_later first second key isnt below = by (cmp second first) refl
    where
      by : (o : Ordering) → cmp second first ≡ o → cmp key first ≡ Less
      by Less is = total.trans key second first below is
      by Equal is =
          let one : cmp second key ≡ cmp first key = total.congr second first key is in
          total.antisymm key first ∙ ap ordering_reverse (sym one) ∙ sym (total.antisymm key second) ∙ below
      by Greater is = absurd (isnt (total.antisymm first second ∙ ap ordering_reverse is))

  abbrev IsAfter : Option (List ℕ) → List ℕ → Type 0
  IsAfter bound key = ForSome bound (λ lower. cmp key lower ≢ Less)

  abbrev IsUpTo : Option (List ℕ) → List ℕ → Type 0
  IsUpTo bound key = ForSome bound (λ upper. cmp key upper ≡ Less)

  none_bound : (P : List ℕ → Type 0) → ForSome None P
  none_bound P x h = absurd (none-some x h)

  some_bound : (P : List ℕ → Type 0) (bound : List ℕ) → P bound → ForSome (Some bound) P
  some_bound P bound h x is = subst P (same_Some bound x is) h

  of_some : (P : List ℕ → Type 0) (bound : List ℕ) → ForSome (Some bound) P → P bound
  of_some P bound h = h bound refl

  later_by : (first second key : List ℕ) (b : Bool) → is_lt (cmp first second) ≡ b
      → IsAfter (if b then Some second else Some first) key ↔ (IsAfter (Some first) key × IsAfter (Some second) key)
  later_by first second key true lt = (
    λ h.
        let after : cmp key second ≢ Less = of_some (λ k. cmp key k ≢ Less) second h in
        (some_bound (λ k. cmp key k ≢ Less) first (λ below. after (total.trans key first second below (is_lt-true (cmp first second) lt))), h),
    λ h. h.1,
  )
  later_by first second key false isnt = (
    λ h.
        let after : cmp key first ≢ Less = of_some (λ k. cmp key k ≢ Less) first h in
        (h, some_bound (λ k. cmp key k ≢ Less) second (λ below. after (before_later first second key (is_lt-false (cmp first second) isnt) below))),
    λ h. h.0,
  )

  earlier_by : (first second key : List ℕ) (b : Bool) → is_lt (cmp first second) ≡ b
      → IsUpTo (if b then Some first else Some second) key ↔ (IsUpTo (Some first) key × IsUpTo (Some second) key)
  earlier_by first second key true lt = (
    λ h.
        let below : cmp key first ≡ Less = of_some (λ k. cmp key k ≡ Less) first h in
        (h, some_bound (λ k. cmp key k ≡ Less) second (total.trans key first second below (is_lt-true (cmp first second) lt))),
    λ h. h.0,
  )
  earlier_by first second key false isnt = (
    λ h.
        let below : cmp key second ≡ Less = of_some (λ k. cmp key k ≡ Less) second h in
        (some_bound (λ k. cmp key k ≡ Less) first (before_later first second key (is_lt-false (cmp first second) isnt) below), h),
    λ h. h.1,
  )

  later_is : (one two : Option (List ℕ)) (key : List ℕ) → IsAfter (later_bound cmp one two) key ↔ (IsAfter one key × IsAfter two key)
  later_is None two key = (λ h. (none_bound (λ k. cmp key k ≢ Less), h), λ h. h.1)
  later_is (Some first) None key = (λ h. (h, none_bound (λ k. cmp key k ≢ Less)), λ h. h.0)
  later_is (Some first) (Some second) key = later_by first second key (is_lt (cmp first second)) refl

  earlier_is : (one two : Option (List ℕ)) (key : List ℕ) → IsUpTo (earlier_bound cmp one two) key ↔ (IsUpTo one key × IsUpTo two key)
  earlier_is None two key = (λ h. (none_bound (λ k. cmp key k ≡ Less), h), λ h. h.1)
  earlier_is (Some first) None key = (λ h. (h, none_bound (λ k. cmp key k ≡ Less)), λ h. h.0)
  earlier_is (Some first) (Some second) key = earlier_by first second key (is_lt (cmp first second)) refl

  -- a key is in what two ranges have in common exactly if it is in both
  pub in_common : (one two : KeyRange) (key : List ℕ) → IsIn cmp (common_of cmp one two) key → IsInBoth cmp one two key
  in_common one two key h =
      let from = (later_is one.lower two.lower key).0 h.from in
      let before = (earlier_is one.upper two.upper key).0 h.before in
      (record { from = from.0; before = before.0 }, record { from = from.1; before = before.1 })

  pub common_in : (one two : KeyRange) (key : List ℕ) → IsInBoth cmp one two key → IsIn cmp (common_of cmp one two) key
  common_in one two key h = record {
    from = (later_is one.lower two.lower key).1 (h.0.from, h.1.from);
    before = (earlier_is one.upper two.upper key).1 (h.0.before, h.1.before);
  }
