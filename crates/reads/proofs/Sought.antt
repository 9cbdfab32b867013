-- Where a seek in a table's entries ends.
use Rattle.std.proofs.Common.{◌≡◌, ℕ, Bool, true, false, cond, List, [], ◌∷◌, length, Option, Some, None, refl, sym, ap, subst, ◌∙◌, inl, inr, arith}
use Rattle.std.specs.Prelude.{◌≢◌, ◌⊎◌, Contains, slice_get}
use Rattle.std.specs.Option.{option_map}
use Rattle.std.specs.Cmp.{IsTotalOrder}
use Rattle.std.specs.Ordering.{is_lt}
use Rattle.std.specs.declared.cmp.Ordering.{Ordering}
use Rattle.std.specs.declared.cmp.Ordering.TheVariants.{Less}
use Rattle.std.proofs.lemmas.List.Elements.{All-from_recursion, All-contains}
use Rattle.ikey.specs.Comparator.{IsExact}
use Rattle.ikey.specs.Key.{user_of, sequence_of, kind_of}
use Rattle.ikey.specs.declared.kind.Kind.{Kind}
use Rattle.ikey.specs.declared.kind.Kind.TheVariants.{Put}
use Rattle.ikey.specs.Order.{internal_cmp}
use Rattle.ikey.proofs.Ordered.{is_lt-true}
use Rattle.table.specs.EncodedEntry.{Entry}
use Rattle.table.specs.EntriesFrom.{EntriesRise, entries_from}
use Rattle.reads.specs.Visible.{VisibleEntry, visible_of, IsVisible, IsAnswer}
use Rattle.reads.proofs.Members.{first_or_later, later_in, first_in, none_in}
use Rattle.reads.proofs.Orders.{later_older, before_put, not_before, other_user}

-- each entry after the first is above it
pub above_first : (cmp : List ℕ → List ℕ → Ordering) (e : Entry) (es : List Entry) (f : Entry) → EntriesRise cmp (e ∷ es) → Contains es f → internal_cmp cmp e.key f.key ≡ Less
above_first cmp e es f rising at =
    let P : Entry → Type 0 = λ x. internal_cmp cmp e.key x.key ≡ Less in
    All-contains P es f (All-from_recursion P es rising.0) at

seen_is : (e : Entry) (sequence : ℕ) (kind : Kind) (value : List ℕ) → sequence_of e.key ≡ sequence → kind_of e.key ≡ kind → e.value ≡ value → visible_of e ≡ record { sequence = sequence; kind = kind; value = value }
seen_is e sequence kind value n k v = cc

module _ (cmp : List ℕ → List ℕ → Ordering) (total : IsTotalOrder cmp) (exact : IsExact cmp) (t : List ℕ) (put : kind_of t ≡ Put) where
  abbrev IsSought : Entry → Type 0
  IsSought e = IsVisible (user_of t) (sequence_of t) e

  -- what is visible isn't passed over
  kept_by : (e : Entry) (es : List Entry) (x : Entry) (b : Bool) → is_lt (internal_cmp cmp e.key t) ≡ b → IsSought x → (x ≡ e) ⊎ Contains es x → (Contains es x → Contains (entries_from cmp t es) x)
      → Contains (cond b (entries_from cmp t es) (e ∷ es)) x
  kept_by e es x true passed seen (inl same) rest =
      let below : internal_cmp cmp x.key t ≡ Less = ap (λ (y : Entry). internal_cmp cmp y.key t) same ∙ is_lt-true (internal_cmp cmp e.key t) passed in
      absurd (before_put cmp total x.key t put below seen.0 seen.1)
  kept_by e es x true passed seen (inr later) rest = rest later
  kept_by e es x false stays seen (inl same) rest = subst (Contains (e ∷ es)) (sym same) (first_in e es)
  kept_by e es x false stays seen (inr later) rest = later_in e es x later

  in_rest : (es : List Entry) (x : Entry) → IsSought x → Contains es x → Contains (entries_from cmp t es) x
  in_rest [] x seen at = absurd (none_in x at)
  in_rest (e ∷ es) x seen at = kept_by e es x (is_lt (internal_cmp cmp e.key t)) refl seen (first_or_later e es x at) (in_rest es x seen)

  -- what is left was there
  left_by : (e : Entry) (es : List Entry) (x : Entry) (b : Bool) → (Contains (entries_from cmp t es) x → Contains es x) → Contains (cond b (entries_from cmp t es) (e ∷ es)) x → Contains (e ∷ es) x
  left_by e es x true rest there = later_in e es x (rest there)
  left_by e es x false rest there = there

  from_rest : (es : List Entry) (x : Entry) → Contains (entries_from cmp t es) x → Contains es x
  from_rest [] x at = at
  from_rest (e ∷ es) x at = left_by e es x (is_lt (internal_cmp cmp e.key t)) (from_rest es x) at

  -- the first that is left isn't below the target
  abbrev NotBelow : Entry → Type 0
  NotBelow e = is_lt (internal_cmp cmp e.key t) ≡ false

  first_by : (d : Entry) (es : List Entry) (e : Entry) (rest : List Entry) (b : Bool) → is_lt (internal_cmp cmp d.key t) ≡ b → (entries_from cmp t es ≡ e ∷ rest → NotBelow e) → cond b (entries_from cmp t es) (d ∷ es) ≡ e ∷ rest → NotBelow e
  first_by d es e rest true passed later left = later left
  first_by d es e rest false stays later left = let same : d ≡ e = cc in subst NotBelow same stays

  first_not_below : (es : List Entry) (e : Entry) (rest : List Entry) → entries_from cmp t es ≡ e ∷ rest → NotBelow e
  first_not_below [] e rest is = absurd cc
  first_not_below (d ∷ es) e rest is = first_by d es e rest (is_lt (internal_cmp cmp d.key t)) refl (first_not_below es e rest) is

  -- the answer by what is left
  of_rest : (es : List Entry) (rest : List Entry) (o : Option VisibleEntry) → entries_from cmp t es ≡ rest → IsAnswer rest (user_of t) (sequence_of t) o → IsAnswer es (user_of t) (sequence_of t) o
  of_rest es rest None is none = λ x at seen. none x (subst (λ (l : List Entry). Contains l x) is (in_rest es x seen at)) seen
  of_rest es rest (Some s) is newest = record {
    entry = newest.entry;
    there = from_rest es newest.entry (subst (λ (l : List Entry). Contains l newest.entry) (sym is) newest.there);
    visible = newest.visible;
    is = newest.is;
    most = λ x at seen. newest.most x (subst (λ (l : List Entry). Contains l x) is (in_rest es x seen at)) seen;
  }

  other_first : (e : Entry) (rest : List Entry) → EntriesRise cmp (e ∷ rest) → is_lt (internal_cmp cmp e.key t) ≡ false → user_of e.key ≢ user_of t → IsAnswer (e ∷ rest) (user_of t) (sequence_of t) None
  other_first e rest rising not_below other x at seen =
      elim (first_or_later e rest x at) [
        | inl same ↦ other (ap (λ (y : Entry). user_of y.key) (sym same) ∙ seen.0)
        | inr later ↦ other_user cmp total exact e.key x.key t not_below other (above_first cmp e rest x rising later) seen.0
      ]

  own_first : (e : Entry) (rest : List Entry) → EntriesRise cmp (e ∷ rest) → is_lt (internal_cmp cmp e.key t) ≡ false → user_of e.key ≡ user_of t → IsAnswer (e ∷ rest) (user_of t) (sequence_of t) (Some (visible_of e))
  own_first e rest rising not_below own = record {
    entry = e;
    there = first_in e rest;
    visible = (own, not_before cmp total e.key t not_below own);
    is = refl;
    most = λ x at seen. elim (first_or_later e rest x at) [
      | inl same ↦ let equal : sequence_of x.key ≡ sequence_of e.key = ap (λ (y : Entry). sequence_of y.key) same in omega arith
      | inr later ↦ later_older cmp total e.key x.key (above_first cmp e rest x rising later) (own ∙ sym seen.0)
    ];
  }

  -- nothing is left
  pub sought_end : (es rest : List Entry) → rest ≡ entries_from cmp t es → length rest ≡ 0 → IsAnswer es (user_of t) (sequence_of t) None
  sought_end es [] is none = of_rest es [] None (sym is) (λ x at seen. none_in x at)
  sought_end es (e ∷ rest) is none = absurd (omega arith)

  -- the first that is left is of another user key
  pub sought_other : (es rest : List Entry) (key : List ℕ) → rest ≡ entries_from cmp t es → EntriesRise cmp rest → option_map (λ e. e.key) (slice_get rest 0) ≡ Some key → user_of key ≢ user_of t
      → IsAnswer es (user_of t) (sequence_of t) None
  sought_other es [] key is rising first other = absurd cc
  sought_other es (e ∷ rest) key is rising first other =
      let same : e.key ≡ key = cc in
      of_rest es (e ∷ rest) None (sym is) (other_first e rest rising (first_not_below es e rest (sym is)) (λ own. other (ap user_of (sym same) ∙ own)))

  -- the first that is left is of the user key
  pub sought_own : (es rest : List Entry) (key value : List ℕ) (sequence : ℕ) (kind : Kind) → sequence ≡ sequence_of key → kind ≡ kind_of key → rest ≡ entries_from cmp t es → EntriesRise cmp rest → option_map (λ e. e.key) (slice_get rest 0) ≡ Some key → option_map (λ e. e.value) (slice_get rest 0) ≡ Some value
      → user_of key ≡ user_of t → IsAnswer es (user_of t) (sequence_of t) (Some (record { sequence = sequence; kind = kind; value = value }))
  sought_own es [] key value sequence kind n k is rising first held own = absurd cc
  sought_own es (e ∷ rest) key value sequence kind n k is rising first held own =
      let same : e.key ≡ key = cc in
      let same_value : e.value ≡ value = cc in
      let seen : visible_of e ≡ record { sequence = sequence; kind = kind; value = value } = seen_is e sequence kind value (ap sequence_of same ∙ sym n) (ap kind_of same ∙ sym k) same_value in
      of_rest es (e ∷ rest) (Some (record { sequence = sequence; kind = kind; value = value })) (sym is)
      (subst (λ (s : VisibleEntry). IsAnswer (e ∷ rest) (user_of t) (sequence_of t) (Some s)) seen (own_first e rest rising (first_not_below es e rest (sym is)) (ap user_of same ∙ own)))
