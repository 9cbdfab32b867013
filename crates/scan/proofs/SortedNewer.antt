-- Sorted entries, of which no two have one user key and one sequence.
use Rattle.std.proofs.Common.{◌≡◌, ℕ, ◌<◌, ◌≤◌, Bool, true, false, cond, List, [], ◌∷◌, refl, sym, subst, ◌∙◌, inl, inr, eq-or-lt_of_le, arith}
use Rattle.std.specs.Prelude.{◌⊎◌, Contains, filter}
use Rattle.std.specs.Cmp.{IsTotalOrder}
use Rattle.std.specs.Ordering.{is_le, is_lt}
use Rattle.std.specs.declared.cmp.Ordering.{Ordering}
use Rattle.table.specs.Key.{sequence_of}
use Rattle.table.specs.Order.{internal_cmp}
use Rattle.block.specs.EncodedEntry.{Entry}
use Rattle.table.specs.EntriesFrom.{NeverFalls}
use Rattle.merge.specs.MergedLists.{entries_with, sorted_entries}
use Rattle.merge.proofs.Orders.{not_below}
use Rattle.merge.proofs.SortedEntries.{all_sorted, all_with, sorted_never_falls}
use Rattle.reads.specs.Lawful.{AreDistinct}
use Rattle.reads.specs.NewestFirst.{SequencesFall}
use Rattle.reads.specs.TableOrder.{IsNewer}
use Rattle.reads.proofs.FallingEntries.{each_of, of_each}
use Rattle.reads.proofs.Members.{first_or_later, later_in, first_in, none_in, from_filter}
use Rattle.reads.proofs.Orders.{not_before}
use Rattle.reads.proofs.Pairs.{Pairs}
use Rattle.scan.proofs.EntryAnswers.{is_of, of_user}

-- ---- the same entries

from_with : (cmp : List ℕ → List ℕ → Ordering) (e : Entry) (es : List Entry) (x : Entry) → Contains (entries_with cmp e es) x → (x ≡ e) ⊎ Contains es x
from_with cmp e es x at =
    each_of (λ (y : Entry). (y ≡ e) ⊎ Contains es y) (entries_with cmp e es) (all_with (λ (y : Entry). (y ≡ e) ⊎ Contains es y) cmp e es (inl refl) (of_each (λ (y : Entry). (y ≡ e) ⊎ Contains es y) es (λ y there. inr there))) x at

in_with : (cmp : List ℕ → List ℕ → Ordering) (e : Entry) (es : List Entry) (x : Entry) → (x ≡ e) ⊎ Contains es x → Contains (entries_with cmp e es) x
in_with cmp e [] x (inl same) = subst (Contains (e ∷ [])) (sym same) (first_in e [])
in_with cmp e [] x (inr at) = absurd (none_in x at)
in_with cmp e (f ∷ fs) x at = by (is_lt (internal_cmp cmp f.key e.key)) at (in_with cmp e fs x)
  where
    by : (b : Bool) → (x ≡ e) ⊎ Contains (f ∷ fs) x → ((x ≡ e) ⊎ Contains fs x → Contains (entries_with cmp e fs) x) → Contains (cond b (f ∷ entries_with cmp e fs) (e ∷ (f ∷ fs))) x
    by true (inl same) rest = later_in f (entries_with cmp e fs) x (rest (inl same))
    by true (inr there) rest = elim (first_or_later f fs x there) [
      | inl same ↦ subst (Contains (f ∷ entries_with cmp e fs)) (sym same) (first_in f (entries_with cmp e fs))
      | inr later ↦ later_in f (entries_with cmp e fs) x (rest (inr later))
    ]
    by false (inl same) rest = subst (Contains (e ∷ (f ∷ fs))) (sym same) (first_in e (f ∷ fs))
    by false (inr there) rest = later_in e (f ∷ fs) x there

pub from_sorted : (cmp : List ℕ → List ℕ → Ordering) (es : List Entry) (x : Entry) → Contains (sorted_entries cmp es) x → Contains es x
from_sorted cmp es x at = each_of (Contains es) (sorted_entries cmp es) (all_sorted (Contains es) cmp es (of_each (Contains es) es (λ y there. there))) x at

pub in_sorted : (cmp : List ℕ → List ℕ → Ordering) (es : List Entry) (x : Entry) → Contains es x → Contains (sorted_entries cmp es) x
in_sorted cmp [] x at = at
in_sorted cmp (e ∷ es) x at = in_with cmp e (sorted_entries cmp es) x (elim (first_or_later e es x at) [ inl same ↦ inl same | inr later ↦ inr (in_sorted cmp es x later) ])

-- ---- they fall

distinct_back : (a b : Entry) → AreDistinct a b → AreDistinct b a
distinct_back a b h same tie = h (sym same) (sym tie)

pub newer_distinct : (a b : Entry) → IsNewer a b → AreDistinct a b
newer_distinct a b newer same tie =
    let lt = newer same in
    absurd (omega (arith, lt, tie))

module _ (cmp : List ℕ → List ℕ → Ordering) (total : IsTotalOrder cmp) where
  distinct_with : (e : Entry) (es : List Entry) → ((f : Entry) → Contains es f → AreDistinct e f) → Pairs AreDistinct es → Pairs AreDistinct (entries_with cmp e es)
  distinct_with e [] distinct pairs = (λ y at. absurd (none_in y at), tt)
  distinct_with e (f ∷ fs) distinct pairs = by (is_lt (internal_cmp cmp f.key e.key)) (distinct_with e fs (λ g at. distinct g (later_in f fs g at)) pairs.1)
    where
      by : (b : Bool) → Pairs AreDistinct (entries_with cmp e fs) → Pairs AreDistinct (cond b (f ∷ entries_with cmp e fs) (e ∷ (f ∷ fs)))
      by true rest = (
        λ y at. elim (from_with cmp e fs y at) [
          | inl same ↦ subst (AreDistinct f) (sym same) (distinct_back e f (distinct f (first_in f fs)))
          | inr later ↦ pairs.0 y later
        ],
        rest,
      )
      by false rest = (distinct, pairs)

  distinct_sorted : (es : List Entry) → Pairs AreDistinct es → Pairs AreDistinct (sorted_entries cmp es)
  distinct_sorted [] pairs = tt
  distinct_sorted (e ∷ es) pairs = distinct_with e (sorted_entries cmp es) (λ f at. pairs.0 f (from_sorted cmp es f at)) (distinct_sorted es pairs.1)

  newer_of_sorted : (es : List Entry) → NeverFalls cmp es → Pairs AreDistinct es → Pairs IsNewer es
  newer_of_sorted [] falls pairs = tt
  newer_of_sorted (e ∷ es) falls pairs = (
    λ f at same.
        let le = each_of (λ (g : Entry). is_le (internal_cmp cmp e.key g.key) ≡ true) es falls.0 f at in
        let down : sequence_of f.key ≤ sequence_of e.key = not_before cmp total f.key e.key (not_below cmp total e.key f.key le) (sym same) in
        elim (eq-or-lt_of_le down) [
          | inl tie ↦ absurd (pairs.0 f at same (sym tie))
          | inr lt ↦ lt
        ],
    newer_of_sorted es falls.1 pairs.1,
  )

  pub newer_sorted : (es : List Entry) → Pairs AreDistinct es → Pairs IsNewer (sorted_entries cmp es)
  newer_sorted es pairs = newer_of_sorted (sorted_entries cmp es) (sorted_never_falls cmp total es) (distinct_sorted es pairs)

-- some of them
pub distinct_filter : (p : Entry → Bool) (es : List Entry) → Pairs AreDistinct es → Pairs AreDistinct (filter p es)
distinct_filter p [] pairs = tt
distinct_filter p (e ∷ es) pairs = by (p e) (distinct_filter p es pairs.1)
  where
    by : (b : Bool) → Pairs AreDistinct (filter p es) → Pairs AreDistinct (cond b (e ∷ filter p es) (filter p es))
    by true rest = (λ y at. pairs.0 y (from_filter p es y at).0, rest)
    by false rest = rest

-- the entries of one user key
falls_by : (user : List ℕ) (e : Entry) (es : List Entry) (b : Bool) → is_of user e ≡ b → ((f : Entry) → Contains es f → IsNewer e f) → SequencesFall (filter (is_of user) es) → SequencesFall (cond b (e ∷ filter (is_of user) es) (filter (is_of user) es))
falls_by user e es true h first rest = (
  of_each (λ (f : Entry). sequence_of f.key < sequence_of e.key) (filter (is_of user) es)
      (λ f at. let from = from_filter (is_of user) es f at in first f from.0 (of_user user e h ∙ sym (of_user user f from.1))),
  rest,
)
falls_by user e es false h first rest = rest

pub own_fall : (user : List ℕ) (es : List Entry) → Pairs IsNewer es → SequencesFall (filter (is_of user) es)
own_fall user [] pairs = tt
own_fall user (e ∷ es) pairs = falls_by user e es (is_of user e) refl pairs.0 (own_fall user es pairs.1)
