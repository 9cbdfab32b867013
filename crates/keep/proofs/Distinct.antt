-- The inputs have a union exactly if no user key has one sequence twice.
use Rattle.std.proofs.Common.{◌≡◌, ℕ, Bool, true, false, List, [], ◌∷◌, refl, sym, ap, subst, ◌∙◌}
use Rattle.std.specs.Prelude.{nat_eq, nat_lt, ◌&&◌, ◌||◌, not, cond}
use Rattle.std.specs.List.{list_any, AllByRecursion}
use Rattle.std.specs.Ordering.{is_le, ordering_then, nat_cmp}
use Rattle.std.specs.Cmp.{IsTotalOrder}
use Rattle.std.specs.declared.cmp.Ordering.{Ordering}
use Rattle.std.specs.declared.cmp.Ordering.TheVariants.{Less, Equal, Greater}
use Rattle.std.proofs.lemmas.Bool.{eqb-true, eq-eqb, and_parts, and_from, or_parts, both_ways, not-true}
use Rattle.std.proofs.lemmas.Cmp.{tied_itself, nat_cmp_total}
use Rattle.std.proofs.lemmas.Slice.Eq.{bytes_eq-Decides}
use Rattle.ikey.specs.Key.{user_of, sequence_of, kind_of, kind_number}
use Rattle.ikey.specs.Comparator.{IsExact}
use Rattle.ikey.specs.Order.{internal_cmp}
use Rattle.reads.specs.EncodedEntry.{Entry}
use Rattle.reads.specs.EntriesFrom.{NeverFalls}
use Rattle.merge.specs.MergedLists.{entries_of_lists, merged}
use Rattle.merge.specs.Union.{key_version_cmp, VersionsRise}
use Rattle.merge.proofs.SortedEntries.{sorted_never_falls}
use Rattle.merge.proofs.Unions.{union_is_merged}
use Rattle.keep.specs.DropRule.{is_same_user}
use Rattle.keep.specs.Runs.{is_same_version, are_distinct, DistinctLaw}

module _ (cmp : List ℕ → List ℕ → Ordering) (total : IsTotalOrder cmp) (exact : IsExact cmp) where
  then_equal : (a b : Ordering) → ordering_then a b ≡ Equal → (a ≡ Equal) × (b ≡ Equal)
  then_equal Less b e = absurd (cc)
  then_equal Equal b e = (refl, e)
  then_equal Greater b e = absurd (cc)

  then_falls : (a b c : Ordering) → ordering_then a b ≡ Greater → is_le (ordering_then a (ordering_then b c)) ≡ false
  then_falls Less b c e = absurd (cc)
  then_falls Equal Less c e = absurd (cc)
  then_falls Equal Equal c e = absurd (cc)
  then_falls Equal Greater c e = refl
  then_falls Greater b c e = refl

  same_sequence : (m n : ℕ) → nat_cmp m n ≡ Equal → m ≡ n
  same_sequence m n h = by (nat_lt m n) (nat_eq m n) refl h
    where
      by : (a b : Bool) → nat_eq m n ≡ b → cond a Less (cond b Equal Greater) ≡ Equal → m ≡ n
      by true b e h = absurd (cc)
      by false true e h = eqb-true m n e
      by false false e h = absurd (cc)

  -- one version: not below itself
  version_itself : (e f : Entry) → is_same_version e f ≡ true → key_version_cmp cmp e.key f.key ≡ Equal
  version_itself e f h =
      let both = and_parts (is_same_user e f) (nat_eq (sequence_of e.key) (sequence_of f.key)) h in
      let users : user_of e.key ≡ user_of f.key = (bytes_eq-Decides (user_of e.key) (user_of f.key)).0 both.0 in
      let sequences : sequence_of e.key ≡ sequence_of f.key = eqb-true (sequence_of e.key) (sequence_of f.key) both.1 in
      let first : cmp (user_of e.key) (user_of f.key) ≡ Equal = ap (cmp (user_of e.key)) (sym users) ∙ tied_itself total (user_of e.key) in
      let second : nat_cmp (sequence_of f.key) (sequence_of e.key) ≡ Equal = ap (nat_cmp (sequence_of f.key)) sequences ∙ tied_itself nat_cmp_total (sequence_of f.key) in
      ap (λ o. ordering_then o (nat_cmp (sequence_of f.key) (sequence_of e.key))) first ∙ second

  less_by : (e f : Entry) (o : Ordering) → key_version_cmp cmp e.key f.key ≡ o → is_le (internal_cmp cmp e.key f.key) ≡ true → is_same_version e f ≡ false → key_version_cmp cmp e.key f.key ≡ Less
  unfolding internal_cmp
  less_by e f Less v le apart = v
  less_by e f Equal v le apart =
      let both = then_equal (cmp (user_of e.key) (user_of f.key)) (nat_cmp (sequence_of f.key) (sequence_of e.key)) v in
      absurd (both_ways (is_same_version e f) apart
      (and_from (is_same_user e f) (nat_eq (sequence_of e.key) (sequence_of f.key)) ((bytes_eq-Decides (user_of e.key) (user_of f.key)).1 (exact (user_of e.key) (user_of f.key) both.0))
      (eq-eqb (sequence_of e.key) (sequence_of f.key) (sym (same_sequence (sequence_of f.key) (sequence_of e.key) both.1)))))
  less_by e f Greater v le apart =
      absurd (both_ways (is_le (internal_cmp cmp e.key f.key))
      (then_falls (cmp (user_of e.key) (user_of f.key)) (nat_cmp (sequence_of f.key) (sequence_of e.key)) (nat_cmp (kind_number (kind_of f.key)) (kind_number (kind_of e.key))) v) le)

  all_less : (e : Entry) (es : List Entry) → AllByRecursion (λ f. is_le (internal_cmp cmp e.key f.key) ≡ true) es → list_any (is_same_version e) es ≡ false → AllByRecursion (λ f. key_version_cmp cmp e.key f.key ≡ Less) es
  all_less e [] le h = tt
  all_less e (f ∷ es) le h =
      let parts = or_parts (is_same_version e f) (list_any (is_same_version e) es) h in
      (less_by e f (key_version_cmp cmp e.key f.key) refl le.0 parts.0, all_less e es le.1 parts.1)

  rises : (es : List Entry) → NeverFalls cmp es → are_distinct es ≡ true → VersionsRise cmp es
  rises [] le h = tt
  rises (e ∷ es) le h =
      let parts = and_parts (not (list_any (is_same_version e) es)) (are_distinct es) h in
      (all_less e es le.0 (not-true (list_any (is_same_version e) es) parts.0), rises es le.1 parts.1)

  not_same : (e f : Entry) (s : Bool) → is_same_version e f ≡ s → key_version_cmp cmp e.key f.key ≡ Less → s ≡ false
  not_same e f true h less = absurd (let both : Equal ≡ Less = sym (version_itself e f h) ∙ less in cc)
  not_same e f false h less = refl

  none_same : (e : Entry) (es : List Entry) → AllByRecursion (λ f. key_version_cmp cmp e.key f.key ≡ Less) es → list_any (is_same_version e) es ≡ false
  none_same e [] h = refl
  none_same e (f ∷ es) h = ap (λ s. s || list_any (is_same_version e) es) (not_same e f (is_same_version e f) refl h.0) ∙ none_same e es h.1

  distinct_of : (es : List Entry) → VersionsRise cmp es → are_distinct es ≡ true
  distinct_of [] h = refl
  distinct_of (e ∷ es) h = ap (λ s. not s && are_distinct es) (none_same e es h.0) ∙ distinct_of es h.1

  pub distinct_holds : DistinctLaw cmp
  distinct_holds inputs union =
      let law = union_is_merged cmp total inputs union in (
        λ is. ((law.0 is).0, distinct_of (merged cmp inputs) (subst (VersionsRise cmp) (law.0 is).0 (law.0 is).1)),
        λ h. law.1 (h.0, subst (VersionsRise cmp) (sym h.0) (rises (merged cmp inputs) (sorted_never_falls cmp total (entries_of_lists inputs)) h.1)),
      )
