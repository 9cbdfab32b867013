-- In a sorted list, an entry that is there twice comes right after itself.
use Rattle.std.proofs.Common.{◌≡◌, ℕ, ◌≤◌, Bool, true, false, List, [], ◌∷◌, Some, None, Option, refl, sym, ap, subst, ◌∙◌, arith}
use Rattle.std.specs.Prelude.{nat_eq, ◌&&◌, ◌||◌, not}
use Rattle.std.specs.List.{list_any, AllByRecursion}
use Rattle.std.specs.Ordering.{is_le, ordering_then, ordering_reverse, nat_cmp}
use Rattle.std.specs.Cmp.{IsTotalOrder}
use Rattle.std.specs.declared.cmp.Ordering.{Ordering}
use Rattle.std.specs.declared.cmp.Ordering.TheVariants.{Less, Equal, Greater}
use Rattle.std.proofs.lemmas.Bool.{eqb-true, eq-eqb, and_parts, and_from, both_ways, false≢true}
use Rattle.std.proofs.lemmas.Map.Keys.{le_from_is_le}
use Rattle.std.proofs.lemmas.Slice.Eq.{bytes_eq-Decides}
use Rattle.ikey.specs.Key.{user_of, sequence_of, kind_of, kind_number}
use Rattle.ikey.specs.Comparator.{IsExact}
use Rattle.ikey.specs.Order.{internal_cmp}
use Rattle.reads.specs.EncodedEntry.{Entry}
use Rattle.reads.specs.EntriesFrom.{NeverFalls}
use Rattle.keep.specs.DropRule.{is_same_user}
use Rattle.keep.specs.Runs.{is_same_version, are_distinct}

-- whether an entry is of the version of the one before it
abbrev pub repeats : Option Entry → Entry → Bool
repeats None e = false
repeats (Some p) e = is_same_version p e

-- whether none of the entries that stand after this one is of the version of the one before it
abbrev pub apart_behind : Option Entry → List Entry → Bool
apart_behind before [] = true
apart_behind before (e ∷ es) = not (repeats before e) && apart_behind (Some e) es

first_le : (o p : Ordering) → is_le (ordering_then o p) ≡ true → is_le o ≡ true
first_le Less p h = refl
first_le Equal p h = refl
first_le Greater p h = h

second_le : (o p q : Ordering) → o ≡ Equal → is_le (ordering_then o (ordering_then p q)) ≡ true → is_le p ≡ true
second_le o p q e h = first_le p q (subst (λ (r : Ordering). is_le (ordering_then r (ordering_then p q)) ≡ true) e h)

between_equal : (o : Ordering) → is_le o ≡ true → is_le (ordering_reverse o) ≡ true → o ≡ Equal
between_equal Less h k = absurd (false≢true k)
between_equal Equal h k = refl
between_equal Greater h k = absurd (false≢true h)

module _ (cmp : List ℕ → List ℕ → Ordering) (total : IsTotalOrder cmp) (exact : IsExact cmp) where
  users_le : (a b : List ℕ) → is_le (internal_cmp cmp a b) ≡ true → is_le (cmp (user_of a) (user_of b)) ≡ true
  unfolding internal_cmp
  users_le a b h =
      first_le (cmp (user_of a) (user_of b)) (ordering_then (nat_cmp (sequence_of b) (sequence_of a)) (nat_cmp (kind_number (kind_of b)) (kind_number (kind_of a)))) h

  sequences_le : (a b : List ℕ) → cmp (user_of a) (user_of b) ≡ Equal → is_le (internal_cmp cmp a b) ≡ true → sequence_of b ≤ sequence_of a
  unfolding internal_cmp
  sequences_le a b e h =
      le_from_is_le (sequence_of b) (sequence_of a)
      (second_le (cmp (user_of a) (user_of b)) (nat_cmp (sequence_of b) (sequence_of a)) (nat_cmp (kind_number (kind_of b)) (kind_number (kind_of a))) e h)

  -- what stands between two entries of one version is of that version
  squeezed : (p e f : Entry) → is_le (internal_cmp cmp p.key e.key) ≡ true → is_le (internal_cmp cmp e.key f.key) ≡ true → is_same_version p f ≡ true → is_same_version p e ≡ true
  squeezed p e f pe ef same =
      let parts = and_parts (is_same_user p f) (nat_eq (sequence_of p.key) (sequence_of f.key)) same in
      let ends : user_of p.key ≡ user_of f.key = (bytes_eq-Decides (user_of p.key) (user_of f.key)).0 parts.0 in
      let numbers : sequence_of p.key ≡ sequence_of f.key = eqb-true (sequence_of p.key) (sequence_of f.key) parts.1 in
      let back : is_le (cmp (user_of e.key) (user_of p.key)) ≡ true = subst (λ (u : List ℕ). is_le (cmp (user_of e.key) u) ≡ true) (sym ends) (users_le e.key f.key ef) in
      let tied : cmp (user_of p.key) (user_of e.key) ≡ Equal =
      between_equal (cmp (user_of p.key) (user_of e.key)) (users_le p.key e.key pe) (ap is_le (sym (total.antisymm (user_of e.key) (user_of p.key))) ∙ back) in
      let users : user_of p.key ≡ user_of e.key = exact (user_of p.key) (user_of e.key) tied in
      let low : sequence_of e.key ≤ sequence_of p.key = sequences_le p.key e.key tied pe in
      let tied_end : cmp (user_of e.key) (user_of f.key) ≡ Equal =
      ap (λ (u : List ℕ). cmp u (user_of f.key)) (sym users) ∙ ap (cmp (user_of p.key)) (sym ends ∙ users) ∙ tied in
      let high : sequence_of f.key ≤ sequence_of e.key = sequences_le e.key f.key tied_end ef in
      and_from (is_same_user p e) (nat_eq (sequence_of p.key) (sequence_of e.key)) ((bytes_eq-Decides (user_of p.key) (user_of e.key)).1 users) (eq-eqb (sequence_of p.key) (sequence_of e.key) (omega (arith, numbers, low, high)))

  none_later : (p e : Entry) (es : List Entry) → is_le (internal_cmp cmp p.key e.key) ≡ true → AllByRecursion (λ f. is_le (internal_cmp cmp e.key f.key) ≡ true) es → is_same_version p e ≡ false → list_any (is_same_version p) es ≡ false
  none_later p e [] pe h apart = refl
  none_later p e (f ∷ es) pe h apart = by_test (is_same_version p f) refl (none_later p e es pe h.1 apart)
    where
      by_test : (b : Bool) → is_same_version p f ≡ b → list_any (is_same_version p) es ≡ false → (b || list_any (is_same_version p) es) ≡ false
      by_test true is rest = absurd (both_ways (is_same_version p e) apart (squeezed p e f pe h.0 is))
      by_test false is rest = rest

  behind_by : (p e : Entry) (es : List Entry) (b : Bool) → is_same_version p e ≡ b → (b ≡ false → list_any (is_same_version p) es ≡ false)
      → (not (list_any (is_same_version e) es) && are_distinct es) ≡ apart_behind (Some e) es
      → (not (b || list_any (is_same_version p) es) && (not (list_any (is_same_version e) es) && are_distinct es)) ≡ (not b && apart_behind (Some e) es)
  behind_by p e es true is none rest = refl
  behind_by p e es false is none rest = ap (λ s. not s && (not (list_any (is_same_version e) es) && are_distinct es)) (none refl) ∙ rest

  distinct_behind : (p : Entry) (es : List Entry) → NeverFalls cmp (p ∷ es) → (not (list_any (is_same_version p) es) && are_distinct es) ≡ apart_behind (Some p) es
  distinct_behind p [] falls = refl
  distinct_behind p (e ∷ es) falls =
      behind_by p e es (is_same_version p e) refl (none_later p e es falls.0.0 falls.1.0) (distinct_behind e es falls.1)

  pub distinct_apart : (es : List Entry) → NeverFalls cmp es → are_distinct es ≡ apart_behind None es
  distinct_apart [] falls = refl
  distinct_apart (e ∷ es) falls = distinct_behind e es falls
