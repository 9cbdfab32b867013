-- The least user key that lists have still.
use Rattle.std.proofs.Common.{◌≡◌, ℕ, zero, suc, true, false, List, [], ◌∷◌, Option, Some, None, refl, sym, ap, subst, ◌∙◌}
use Rattle.std.specs.Prelude.{Contains, slice_get}
use Rattle.std.specs.Cmp.{IsTotalOrder}
use Rattle.std.specs.Option.{option_map, option_map_or}
use Rattle.std.specs.Ordering.{is_lt}
use Rattle.std.specs.declared.cmp.Ordering.TheVariants.{Less}
use Rattle.std.proofs.lemmas.List.Elements.{Contains-append_left, Contains-append_right}
use Rattle.std.proofs.lemmas.Option.{none-some, same_Some}
use Rattle.table.specs.Comparator.{IsExact, KeyOrder}
use Rattle.table.specs.Key.{user_of}
use Rattle.table.specs.EncodedEntry.{Entry}
use Rattle.table.proofs.Ordered.{is_lt-true, is_lt-false}
use Rattle.merge.specs.LeastList.{IsMerging}
use Rattle.merge.specs.MergedLists.{entries_of_lists}
use Rattle.reads.proofs.EntriesInOrder.{behind_bound}
use Rattle.reads.proofs.FallingEntries.{each_of}
use Rattle.reads.proofs.Members.{first_in, from_flat_map, none_in}
use Rattle.reads.proofs.Orders.{not_before_itself}
use Rattle.faults.specs.KeyWalk.{AreAllFrom, IsBelowBound, IsNextUser}

in_lists : (lists : List (List Entry)) (place : ℕ) (list : List Entry) → slice_get lists place ≡ Some list → (e : Entry) → Contains list e → Contains (entries_of_lists lists) e
in_lists [] place list h e at = absurd (none-some list h)
in_lists (l ∷ ls) zero list h e at = Contains-append_left l (entries_of_lists ls) e (subst (λ (es : List Entry). Contains es e) (sym (same_Some l list h)) at)
in_lists (l ∷ ls) (suc place) list h e at = Contains-append_right l (entries_of_lists ls) e (in_lists ls place list h e at)

module _ (cmp : KeyOrder) where
  -- no list has an entry
  pub none_left : (upper : Option (List ℕ)) (lists : List (List Entry)) → IsMerging cmp lists None → AreAllFrom cmp upper (entries_of_lists lists)
  none_left upper lists m e at within =
      let from = from_flat_map (λ (l : List Entry). l) lists e at in
      none_in e (subst (λ (l : List Entry). Contains l e) (each_of (λ (l : List Entry). l ≡ []) lists m.least from.source from.there) from.held)

  pub own_key : (lists : List (List Entry)) (place : ℕ) (m : IsMerging cmp lists (Some place)) (list : List Entry) (key : List ℕ) → slice_get lists place ≡ Some list → option_map (λ (e : Entry). e.key) (slice_get list 0) ≡ Some key → m.least.first.key ≡ key
  own_key lists place m list key here is =
      let same : m.least.first ∷ m.least.others ≡ list = same_Some (m.least.first ∷ m.least.others) list (sym m.least.here ∙ here) in
      same_Some m.least.first.key key (ap (λ (l : List Entry). option_map (λ (e : Entry). e.key) (slice_get l 0)) same ∙ is)

  within_of : (user : List ℕ) (upper : Option (List ℕ)) → option_map_or (λ limit. is_lt (cmp user limit)) upper true ≡ true → IsBelowBound cmp upper user
  within_of user None h = λ x e. absurd cc
  within_of user (Some l) h = λ x e. subst (λ (k : List ℕ). cmp user k ≡ Less) (same_Some l x e) (is_lt-true (cmp user l) h)

  module _ (total : IsTotalOrder cmp) (exact : IsExact cmp) (lists : List (List Entry)) (place : ℕ) (m : IsMerging cmp lists (Some place)) (user : List ℕ) (is : user_of m.least.first.key ≡ user) where
    pub next_is : (upper : Option (List ℕ)) → option_map_or (λ limit. is_lt (cmp user limit)) upper true ≡ true → IsNextUser cmp upper (entries_of_lists lists) user
    next_is upper h = record {
      entry = m.least.first;
      there = in_lists lists place (m.least.first ∷ m.least.others) m.least.here m.least.first (first_in m.least.first m.least.others);
      is = is;
      least = λ e at less. behind_bound cmp total exact lists place m user (λ k. not_before_itself cmp total user (subst (λ (u : List ℕ). cmp u user ≡ Less) is k)) e at less;
      within = within_of user upper h;
    }

    far_by : (upper : Option (List ℕ)) → option_map_or (λ limit. is_lt (cmp user limit)) upper true ≡ false → (e : Entry) → Contains (entries_of_lists lists) e → IsBelowBound cmp upper (user_of e.key) → ⊥
    far_by None h e at within = absurd cc
    far_by (Some l) h e at within = behind_bound cmp total exact lists place m l (λ k. is_lt-false (cmp user l) h (subst (λ (u : List ℕ). cmp u l ≡ Less) is k)) e at (within l refl)

    pub all_far : (upper : Option (List ℕ)) → option_map_or (λ limit. is_lt (cmp user limit)) upper true ≡ false → AreAllFrom cmp upper (entries_of_lists lists)
    all_far upper h = far_by upper h
