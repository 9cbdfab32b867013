-- Entries of lists that are counted, as they are taken off in the order of their keys.
use Rattle.std.proofs.Common.{◌≡◌, ◌≢◌, ◌<◌, ℕ, Bool, true, false, cond, List, [], ◌∷◌, ◌++◌, length, drop, map, set, take, zero, suc, Option, Some, None, refl, sym, ap, subst, ◌∙◌, inl, inr, arith}
use Rattle.std.specs.Prelude.{Contains, filter, slice_get}
use Rattle.std.specs.List.{AllByRecursion}
use Rattle.std.specs.Cmp.{IsTotalOrder}
use Rattle.std.specs.Ordering.{is_le}
use Rattle.std.specs.declared.cmp.Ordering.{Ordering}
use Rattle.std.proofs.lemmas.Bool.{cases_eq, and_right}
use Rattle.std.proofs.lemmas.List.{get_or-set_other, get_or-set_same, length-map, length-set}
use Rattle.std.proofs.lemmas.List.Elements.{Contains-append_left, Contains-append_right, filter-append}
use Rattle.std.proofs.lemmas.List.Sums.{count_by-le-length}
use Rattle.std.proofs.lemmas.Option.{none-some, same_Some}
use Rattle.table.specs.Comparator.{IsExact}
use Rattle.table.specs.Key.{kind_of, user_of}
use Rattle.table.specs.Order.{internal_cmp}
use Rattle.block.specs.EncodedEntry.{Entry}
use Rattle.merge.specs.LeastList.{IsAdvanced, IsMerging}
use Rattle.merge.specs.MergedLists.{entries_of_lists, merged}
use Rattle.merge.proofs.Leasts.{place_within}
use Rattle.merge.proofs.Merges.{joined_at, joined_set}
use Rattle.merge.proofs.SortedEntries.{sorted_never_falls}
use Rattle.reads.specs.Ranges.{KeyRange}
use Rattle.merge.specs.FirstEntry.{first_is}
use Rattle.merge.specs.InRange.{entries_in, is_in_range}
use Rattle.merge.specs.CursorsLeft.{is_before}
use Rattle.merge.proofs.Bounds.{below_apart, from_bound, within}
use Rattle.reads.proofs.EntriesInOrder.{at_most_all, left_is}
use Rattle.reads.proofs.FallingEntries.{each_of}
use Rattle.reads.proofs.Members.{first_in, later_in}
use Rattle.scan.specs.Counts.{amounts_after, amounts_at, AreAmountsCounted, AreOnce, capped_plus, counted, decided_then, entry_amounts, HasRoom, IsWithin, list_at}
use Rattle.scan.specs.EntryRows.{decided_after, is_decided}
use Rattle.scan.specs.HiddenEntries.{is_deletion_entry, is_hidden_among}
use Rattle.scan.specs.Stats.{amounts_plus, no_amounts}
use Rattle.scan.specs.declared.amounts.Amounts.{Amounts}
use Rattle.scan.proofs.AmountSums.{front_within, plus_assoc, plus_fits, plus_none}
use Rattle.scan.proofs.CountedEntries.{counted_cons}
use Rattle.scan.proofs.SortedNewer.{in_sorted}
use Rattle.scan.proofs.HiddenSteps.{hidden_first, IsWalked, walk_begins, walked_inside, walked_outside}

-- ---- one entry more

-- the amounts with one entry, and those of the rest
pub counted_one : (hidden : Entry → Bool) (a total : Amounts) (e : Entry) (es : List Entry) → amounts_plus a (counted hidden (e ∷ es)) ≡ total → IsWithin total → amounts_plus (capped_plus a (entry_amounts (kind_of e.key) (hidden e))) (counted hidden es) ≡ total
counted_one hidden a total e es is fit =
    let one = entry_amounts (kind_of e.key) (hidden e) in
    let whole : amounts_plus (amounts_plus a one) (counted hidden es) ≡ total = plus_assoc a one (counted hidden es) ∙ ap (amounts_plus a) (sym (counted_cons hidden e es)) ∙ is in
    ap (λ (x : Amounts). amounts_plus x (counted hidden es)) (plus_fits a one (front_within (amounts_plus a one) (counted hidden es) (subst IsWithin (sym whole) fit))) ∙ whole

-- if there is room, the numbers fit
pub room_fits : (hidden : Entry → Bool) (a : Amounts) (es : List Entry) → HasRoom a (length es) → IsWithin (amounts_plus a (counted hidden es))
room_fits hidden a es room = record {
  files = omega (arith, room.files);
  bytes = omega (arith, room.bytes);
  entries = room.entries;
  deletions = omega (arith, room.deletions, count_by-le-length is_deletion_entry es);
  hidden = omega (arith, room.hidden, count_by-le-length hidden es);
}

-- ---- the entries of a range in each list

list_of : (lists : List (List Entry)) (place : ℕ) (list : List Entry) → slice_get lists place ≡ Some list → list_at lists place ≡ list
list_of [] place list h = absurd (none-some list h)
list_of (l ∷ lists) zero list h = same_Some l list h
list_of (l ∷ lists) (suc place) list h = list_of lists place list h

none_kept : (p : Entry → Bool) (es : List Entry) → ((e : Entry) → Contains es e → p e ≡ false) → filter p es ≡ []
none_kept p [] none = refl
none_kept p (e ∷ es) none = ap (λ (b : Bool). cond b (e ∷ filter p es) (filter p es)) (none e (first_in e es)) ∙ none_kept p es (λ f at. none f (later_in e es f at))

in_list : (lists : List (List Entry)) (i : ℕ) (e : Entry) → Contains (list_at lists i) e → Contains (entries_of_lists lists) e
in_list [] i e at = at
in_list (l ∷ lists) zero e at = Contains-append_left l (entries_of_lists lists) e at
in_list (l ∷ lists) (suc i) e at = Contains-append_right l (entries_of_lists lists) e (in_list lists i e at)

all_empty : (lists : List (List Entry)) → AllByRecursion (λ list. list ≡ []) lists → (i : ℕ) → list_at lists i ≡ []
all_empty [] none i = refl
all_empty (l ∷ lists) none zero = none.0
all_empty (l ∷ lists) none (suc i) = all_empty lists none.1 i

module _ (cmp : List ℕ → List ℕ → Ordering) (range : KeyRange) where
  abbrev pub ranged_lists : List (List Entry) → List (List Entry)
  ranged_lists lists = map (entries_in cmp range) lists

  pub ranged_at : (lists : List (List Entry)) (i : ℕ) → list_at (ranged_lists lists) i ≡ entries_in cmp range (list_at lists i)
  ranged_at [] i = refl
  ranged_at (l ∷ lists) zero = refl
  ranged_at (l ∷ lists) (suc i) = ranged_at lists i

  pub joined_ranged : (lists : List (List Entry)) → entries_of_lists (ranged_lists lists) ≡ entries_in cmp range (entries_of_lists lists)
  joined_ranged [] = refl
  joined_ranged (l ∷ lists) = ap (λ (es : List Entry). entries_in cmp range l ++ es) (joined_ranged lists) ∙ sym (filter-append (λ (e : Entry). is_in_range cmp range (user_of e.key)) l (entries_of_lists lists))

-- ---- the walk

module _ (cmp : List ℕ → List ℕ → Ordering) (total : IsTotalOrder cmp) (exact : IsExact cmp) (range : KeyRange) (last : ℕ) (all : List (List Entry)) (old : List Amounts) where
  abbrev hidden : Entry → Bool
  hidden = is_hidden_among last (entries_of_lists (ranged_lists cmp range all))

  abbrev total_at : ℕ → Amounts
  total_at i = amounts_plus (amounts_at old i) (counted hidden (entries_in cmp range (list_at all i)))

  -- what was counted, and what is left, is all
  pub record IsCountedTo (lists : List (List Entry)) (decided : Option (List ℕ)) (now : List Amounts) : Type 0 where
    pub walked : IsWalked cmp range last hidden (entries_of_lists lists) decided
    pub fit : (i : ℕ) → i < length lists → IsWithin (total_at i)
    pub each : (i : ℕ) → i < length lists → amounts_plus (amounts_at now i) (counted hidden (entries_in cmp range (list_at lists i))) ≡ total_at i

  abbrev pub IsCountedSoFar : List (List Entry) → Option (List ℕ) → List Amounts → Type 0
  IsCountedSoFar lists decided now = AreOnce (entries_of_lists (ranged_lists cmp range all)) → ((i : ℕ) → i < length (ranged_lists cmp range all) → HasRoom (amounts_at old i) (length (list_at (ranged_lists cmp range all) i))) → IsCountedTo lists decided now

  pub count_begins : (decided : Option (List ℕ)) → decided ≡ None → IsCountedSoFar all decided old
  count_begins decided none once room = record {
    walked = subst (IsWalked cmp range last hidden (entries_of_lists all)) (sym none) (walk_begins cmp total exact range last hidden (entries_of_lists all) (λ f. ap (λ (es : List Entry). is_hidden_among last es f) (joined_ranged cmp range all)) (subst AreOnce (joined_ranged cmp range all) once));
    fit = λ i lt.
        let there : i < length (ranged_lists cmp range all) = subst (λ (n : ℕ). i < n) (sym (length-map all (entries_in cmp range))) lt in
        room_fits hidden (amounts_at old i) (entries_in cmp range (list_at all i)) (subst (λ (es : List Entry). HasRoom (amounts_at old i) (length es)) (ranged_at cmp range all i) (room i there));
    each = λ i lt. refl;
  }

  -- the amounts at the end
  end_by : (lists : List (List Entry)) (decided : Option (List ℕ)) (now : List Amounts) → length now ≡ length lists → length lists ≡ length all → length all ≡ length old → ((i : ℕ) → entries_in cmp range (list_at lists i) ≡ []) → IsCountedSoFar lists decided now
      → AreAmountsCounted last (ranged_lists cmp range all) old now
  end_by lists decided now number same first none so_far once room =
      let at = so_far once room in
      record {
        number = number ∙ same ∙ first;
        each = λ i lt.
            let there : i < length lists = subst (λ (n : ℕ). i < n) (length-map all (entries_in cmp range) ∙ sym same) lt in
            sym (plus_none (amounts_at now i))
            ∙ sym (ap (λ (es : List Entry). amounts_plus (amounts_at now i) (counted hidden es)) (none i))
            ∙ at.each i there
            ∙ sym (ap (λ (es : List Entry). amounts_plus (amounts_at old i) (counted hidden es)) (ranged_at cmp range all i));
      }

  -- after the last entry
  pub count_ends : (lists : List (List Entry)) (decided : Option (List ℕ)) (now : List Amounts) → length now ≡ length lists → length lists ≡ length all → length all ≡ length old → IsMerging cmp lists None → IsCountedSoFar lists decided now → AreAmountsCounted last (ranged_lists cmp range all) old now
  count_ends lists decided now number same first m so_far = end_by lists decided now number same first (λ i. ap (entries_in cmp range) (all_empty lists m.least i)) so_far

  -- after the range
  pub count_stops : (lists : List (List Entry)) (decided : Option (List ℕ)) (now : List Amounts) → length now ≡ length lists → length lists ≡ length all → length all ≡ length old → first_is (is_before cmp range.upper true) (merged cmp lists) ≡ false → IsCountedSoFar lists decided now
      → AreAmountsCounted last (ranged_lists cmp range all) old now
  count_stops lists decided now number same first behind so_far =
      let none = from_bound cmp total range.upper true (merged cmp lists) (sorted_never_falls cmp total (entries_of_lists lists)) behind in
      end_by lists decided now number same first (λ i. none_kept (λ (e : Entry). is_in_range cmp range (user_of e.key)) (list_at lists i) (λ e at.
      and_right _ (is_before cmp range.upper true e) (each_of (λ (f : Entry). is_before cmp range.upper true f ≡ false) (merged cmp lists) none e (in_sorted cmp (entries_of_lists lists) e (in_list lists i e at))))) so_far

  -- one entry is taken off
  module _ (lists new : List (List Entry)) (place : ℕ) (m : IsMerging cmp lists (Some place)) (advanced : IsAdvanced cmp lists new) (decided : Option (List ℕ)) (now : List Amounts) (number : length now ≡ length lists) where
    abbrev e : Entry
    e = m.least.first

    abbrev rest : List Entry
    rest = m.least.others

    abbrev front : List Entry
    front = entries_of_lists (take place lists)

    abbrev behind : List Entry
    behind = rest ++ entries_of_lists (drop (suc place) lists)

    old_is : entries_of_lists lists ≡ front ++ e ∷ behind
    old_is = joined_at lists place (e ∷ rest) m.least.here

    new_lists : new ≡ set lists place rest
    new_lists = left_is cmp total exact lists new place m.least advanced

    new_is : entries_of_lists new ≡ front ++ behind
    new_is = ap entries_of_lists new_lists ∙ joined_set lists place (e ∷ rest) rest m.least.here

    least : (c : Entry) → Contains (front ++ e ∷ behind) c → is_le (internal_cmp cmp e.key c.key) ≡ true
    least c at = at_most_all cmp total exact lists place m c (subst (λ (es : List Entry). Contains es c) (sym old_is) at)

    low : place < length lists
    low = place_within cmp lists place m

    first : list_at lists place ≡ e ∷ rest
    first = list_of lists place (e ∷ rest) m.least.here

    pub new_number : length new ≡ length lists
    new_number = ap length new_lists ∙ length-set lists place rest

    module _ (at : IsCountedTo lists decided now) where
      walked : IsWalked cmp range last hidden (front ++ e ∷ behind) decided
      walked = subst (λ (es : List Entry). IsWalked cmp range last hidden es decided) old_is at.walked

      fit : (i : ℕ) → i < length new → IsWithin (total_at i)
      fit i lt = at.fit i (subst (λ (n : ℕ). i < n) new_number lt)

      here : amounts_plus (amounts_at now place) (counted hidden (entries_in cmp range (e ∷ rest))) ≡ total_at place
      here = sym (ap (λ (es : List Entry). amounts_plus (amounts_at now place) (counted hidden (entries_in cmp range es))) first) ∙ at.each place low

      -- each place, if this one is right
      each_place : (after : List Amounts) → amounts_plus (amounts_at after place) (counted hidden (entries_in cmp range rest)) ≡ total_at place → ((i : ℕ) → i ≢ place → amounts_at after i ≡ amounts_at now i)
          → (i : ℕ) → i < length new → amounts_plus (amounts_at after i) (counted hidden (entries_in cmp range (list_at new i))) ≡ total_at i
      each_place after own others i lt = elim (cases_eq i place) [
        | inl same ↦
            subst (λ (k : ℕ). amounts_plus (amounts_at after k) (counted hidden (entries_in cmp range (list_at new k))) ≡ total_at k) (sym same)
            (ap (λ (es : List Entry). amounts_plus (amounts_at after place) (counted hidden (entries_in cmp range es))) (ap (λ (ls : List (List Entry)). list_at ls place) new_lists ∙ get_or-set_same lists place rest [] low) ∙ own)
        | inr other ↦
            ap (λ (a : Amounts). amounts_plus a (counted hidden (entries_in cmp range (list_at new i)))) (others i other)
            ∙ ap (λ (es : List Entry). amounts_plus (amounts_at now i) (counted hidden (entries_in cmp range es))) (ap (λ (ls : List (List Entry)). list_at ls i) new_lists ∙ get_or-set_other lists place i rest [] other)
            ∙ at.each i (subst (λ (n : ℕ). i < n) new_number lt)
      ]

      outside : is_in_range cmp range (user_of e.key) ≡ false → IsCountedTo new decided now
      outside isnt = record {
        walked = subst (λ (es : List Entry). IsWalked cmp range last hidden es decided) (sym new_is) (walked_outside cmp total exact range last hidden front e behind decided walked least isnt);
        fit = fit;
        each = each_place now (sym (ap (λ (b : Bool). amounts_plus (amounts_at now place) (counted hidden (cond b (e ∷ entries_in cmp range rest) (entries_in cmp range rest)))) isnt) ∙ here) (λ i other. refl);
      }

      abbrev more : Amounts
      more = capped_plus (amounts_at now place) (entry_amounts (kind_of e.key) (is_decided decided (user_of e.key)))

      inside : is_in_range cmp range (user_of e.key) ≡ true → IsCountedTo new (decided_after last decided e) (set now place more)
      inside is =
          let is_hidden : hidden e ≡ is_decided decided (user_of e.key) = hidden_first cmp total exact range last hidden front e behind decided walked least is in
          let kept : amounts_plus (amounts_at now place) (counted hidden (e ∷ entries_in cmp range rest)) ≡ total_at place =
          sym (ap (λ (b : Bool). amounts_plus (amounts_at now place) (counted hidden (cond b (e ∷ entries_in cmp range rest) (entries_in cmp range rest)))) is) ∙ here in
          let one = counted_one hidden (amounts_at now place) (total_at place) e (entries_in cmp range rest) kept (at.fit place low) in
          let own : amounts_at (set now place more) place ≡ more = get_or-set_same now place more no_amounts (subst (λ (n : ℕ). place < n) (sym number) low) in
          record {
            walked = subst (λ (es : List Entry). IsWalked cmp range last hidden es (decided_after last decided e)) (sym new_is) (walked_inside cmp total exact range last hidden front e behind decided walked least is);
            fit = fit;
            each = each_place (set now place more)
                (ap (λ (a : Amounts). amounts_plus a (counted hidden (entries_in cmp range rest))) (own ∙ ap (λ (b : Bool). capped_plus (amounts_at now place) (entry_amounts (kind_of e.key) b)) (sym is_hidden)) ∙ one)
                (λ i other. get_or-set_other now place i more no_amounts other);
          }

    pub count_more : (next : Option (List ℕ)) (after : List Amounts) → is_before cmp range.upper true e ≡ true → after ≡ amounts_after cmp range.lower place decided e now → next ≡ decided_then cmp range.lower last decided e → IsCountedSoFar lists decided now → IsCountedSoFar new next after
    count_more next after up amounts then so_far once room =
        subst (λ (d : Option (List ℕ)). IsCountedTo new d after) (sym then) (subst (IsCountedTo new (decided_then cmp range.lower last decided e)) (sym amounts) (by (is_before cmp range.lower false e) refl))
      where
        by : (b : Bool) → is_before cmp range.lower false e ≡ b → IsCountedTo new (cond b decided (decided_after last decided e)) (cond b now (set now place (capped_plus (amounts_at now place) (entry_amounts (kind_of e.key) (is_decided decided (user_of e.key))))))
        by true low_bound = outside (so_far once room) (below_apart cmp range e low_bound)
        by false low_bound = inside (so_far once room) (within cmp range e low_bound up)

    pub after_number : (after : List Amounts) → after ≡ amounts_after cmp range.lower place decided e now → length after ≡ length new
    after_number after amounts = ap length amounts ∙ by (is_before cmp range.lower false e) ∙ number ∙ sym new_number
      where
        by : (b : Bool) → length (cond b now (set now place (capped_plus (amounts_at now place) (entry_amounts (kind_of e.key) (is_decided decided (user_of e.key)))))) ≡ length now
        by true = refl
        by false = length-set now place _
