-- What the order of two internal keys says of their user keys and their sequences.
use Rattle.std.proofs.Common.{◌≡◌, ℕ, ◌<◌, ◌≤◌, false, List, refl, sym, ap, subst, ◌∙◌, inl, inr, arith}
use Rattle.std.specs.Prelude.{◌≢◌, ◌⊎◌}
use Rattle.std.specs.Cmp.{IsTotalOrder, nat_cmp_is, ranked}
use Rattle.std.specs.Ordering.{nat_cmp, ordering_then, ordering_reverse, MatchOrdering, is_lt}
use Rattle.std.specs.declared.cmp.Ordering.{Ordering}
use Rattle.std.specs.declared.cmp.Ordering.TheVariants.{Less, Equal, Greater}
use Rattle.std.proofs.lemmas.Cmp.{tied_itself}
use Rattle.ikey.specs.Comparator.{IsExact}
use Rattle.ikey.specs.Key.{kind_number, user_of, sequence_of, kind_of}
use Rattle.ikey.specs.declared.kind.Kind.TheVariants.{Put}
use Rattle.ikey.specs.Order.{internal_cmp}
use Rattle.ikey.proofs.Shortened.{internal_cmp-Less}
use Rattle.ikey.proofs.Ordered.{is_lt-false}
use Rattle.merge.proofs.Bounds.{kind_low}

pub less_is : (x y : ℕ) → nat_cmp x y ≡ Less → x < y
less_is x y e = subst (λ (o : Ordering). MatchOrdering o (x < y) (x ≡ y) (y < x)) e (ranked x y (nat_cmp x y) refl)

pub equal_is : (x y : ℕ) → nat_cmp x y ≡ Equal → x ≡ y
equal_is x y e = subst (λ (o : Ordering). MatchOrdering o (x < y) (x ≡ y) (y < x)) e (ranked x y (nat_cmp x y) refl)

then_less : (a b : Ordering) → ordering_then a b ≡ Less → (a ≡ Less) ⊎ ((a ≡ Equal) × (b ≡ Less))
then_less Less b e = inl refl
then_less Equal b e = inr (refl, e)
then_less Greater b e = absurd cc

module _ (cmp : List ℕ → List ℕ → Ordering) (total : IsTotalOrder cmp) where
  tied : (k m : List ℕ) → user_of k ≡ user_of m → cmp (user_of k) (user_of m) ≡ Equal
  tied k m same = subst (λ (u : List ℕ). cmp (user_of k) u ≡ Equal) same (tied_itself total (user_of k))

  -- of one user key, sequence and type decide
  pub of_one_user : (k m : List ℕ) → user_of k ≡ user_of m → internal_cmp cmp k m ≡ ordering_then (nat_cmp (sequence_of m) (sequence_of k)) (nat_cmp (kind_number (kind_of m)) (kind_number (kind_of k)))
  unfolding internal_cmp
  of_one_user k m same = ap (λ (o : Ordering). ordering_then o (ordering_then (nat_cmp (sequence_of m) (sequence_of k)) (nat_cmp (kind_number (kind_of m)) (kind_number (kind_of k))))) (tied k m same)

  parts : (k m : List ℕ) → user_of k ≡ user_of m → internal_cmp cmp k m ≡ Less → (sequence_of m < sequence_of k) ⊎ ((sequence_of m ≡ sequence_of k) × (kind_number (kind_of m) < kind_number (kind_of k)))
  parts k m same below =
      elim (then_less (nat_cmp (sequence_of m) (sequence_of k)) (nat_cmp (kind_number (kind_of m)) (kind_number (kind_of k))) (sym (of_one_user k m same) ∙ below)) [
        | inl e ↦ inl (less_is (sequence_of m) (sequence_of k) e)
        | inr e ↦ inr (equal_is (sequence_of m) (sequence_of k) e.0, less_is (kind_number (kind_of m)) (kind_number (kind_of k)) e.1)
      ]

  -- of one user key, a later key has no greater sequence
  pub later_older : (k m : List ℕ) → internal_cmp cmp k m ≡ Less → user_of k ≡ user_of m → sequence_of m ≤ sequence_of k
  later_older k m below same = elim (parts k m same below) [ inl lt ↦ omega arith | inr e ↦ omega arith ]

  -- a key that is before a value of its user key has a greater sequence
  pub before_put : (k t : List ℕ) → kind_of t ≡ Put → internal_cmp cmp k t ≡ Less → user_of k ≡ user_of t → sequence_of k ≤ sequence_of t → ⊥
  before_put k t put below same le =
      elim (parts k t same below) [
        | inl lt ↦ absurd (omega arith)
        | inr e ↦ let one : kind_number (kind_of t) ≡ 1 = ap kind_number put in absurd (omega (arith, kind_low (kind_of k)))
      ]

  -- a key of a greater sequence is before one of its user key
  pub newer_before : (k t : List ℕ) → user_of k ≡ user_of t → sequence_of t < sequence_of k → internal_cmp cmp k t ≡ Less
  newer_before k t same lt =
      of_one_user k t same
      ∙ ap (λ (o : Ordering). ordering_then o (nat_cmp (kind_number (kind_of t)) (kind_number (kind_of k)))) (sym (nat_cmp_is (sequence_of t) (sequence_of k) Less lt))

  -- a key that isn't before one of its user key has no greater sequence
  pub not_before : (k t : List ℕ) → is_lt (internal_cmp cmp k t) ≡ false → user_of k ≡ user_of t → sequence_of k ≤ sequence_of t
  not_before k t not_below same = by_order (nat_cmp (sequence_of t) (sequence_of k)) (ranked (sequence_of t) (sequence_of k) (nat_cmp (sequence_of t) (sequence_of k)) refl)
    where
      by_order : (o : Ordering) → MatchOrdering o (sequence_of t < sequence_of k) (sequence_of t ≡ sequence_of k) (sequence_of k < sequence_of t) → sequence_of k ≤ sequence_of t
      by_order Less lt = absurd (is_lt-false (internal_cmp cmp k t) not_below (newer_before k t same lt))
      by_order Equal e = omega arith
      by_order Greater lt = omega arith

  -- a user key isn't before itself
  pub not_before_itself : (u : List ℕ) → cmp u u ≡ Less → ⊥
  not_before_itself u e = let both : Less ≡ Equal = sym e ∙ tied_itself total u in absurd cc

  -- the user keys of rising internal keys don't fall
  pub users_rise : (k m : List ℕ) → internal_cmp cmp k m ≡ Less → (cmp (user_of k) (user_of m) ≡ Less) ⊎ (cmp (user_of k) (user_of m) ≡ Equal)
  unfolding internal_cmp
  users_rise k m below =
      elim (then_less (cmp (user_of k) (user_of m)) (ordering_then (nat_cmp (sequence_of m) (sequence_of k)) (nat_cmp (kind_number (kind_of m)) (kind_number (kind_of k)))) below) [
        | inl e ↦ inl e
        | inr e ↦ inr e.0
      ]

  -- a user key that is before one is before that of a later internal key
  pub before_later : (u k m : List ℕ) → cmp u (user_of k) ≡ Less → internal_cmp cmp k m ≡ Less → cmp u (user_of m) ≡ Less
  before_later u k m before below =
      elim (users_rise k m below) [
        | inl e ↦ total.trans u (user_of k) (user_of m) before e
        | inr e ↦ by_tie e
      ]
    where
      by_tie : cmp (user_of k) (user_of m) ≡ Equal → cmp u (user_of m) ≡ Less
      by_tie e =
          let back : cmp (user_of m) u ≡ cmp (user_of k) u = sym (total.congr (user_of k) (user_of m) u e) in
          total.antisymm u (user_of m) ∙ ap ordering_reverse back ∙ sym (total.antisymm u (user_of k)) ∙ before

  module _ (exact : IsExact cmp) where
    -- after a key that isn't before a target and of another user key, each key is of another user key
    pub other_user : (k m t : List ℕ) → is_lt (internal_cmp cmp k t) ≡ false → user_of k ≢ user_of t → internal_cmp cmp k m ≡ Less → user_of m ≢ user_of t
    other_user k m t not_below other below same = by_order (cmp (user_of k) (user_of t)) refl
      where
        by_order : (o : Ordering) → cmp (user_of k) (user_of t) ≡ o → ⊥
        by_order Less e = is_lt-false (internal_cmp cmp k t) not_below (internal_cmp-Less cmp k t e)
        by_order Equal e = other (exact (user_of k) (user_of t) e)
        by_order Greater e =
            let before : cmp (user_of t) (user_of k) ≡ Less = total.antisymm (user_of t) (user_of k) ∙ ap ordering_reverse e in
            not_before_itself (user_of t) (subst (λ (u : List ℕ). cmp (user_of t) u ≡ Less) same (before_later (user_of t) k m before below))
