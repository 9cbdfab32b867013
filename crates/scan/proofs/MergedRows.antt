-- A walk over merged entries, step by step.
use Rattle.std.proofs.Common.{◌≡◌, ℕ, Bool, true, false, List, [], ◌∷◌, ◌++◌, drop, Option, None, Ok, sym, ap, subst, ◌∙◌, cond}
use Rattle.std.specs.List.{AllByRecursion}
use Rattle.std.specs.Cmp.{IsTotalOrder}
use Rattle.std.specs.declared.cmp.Ordering.{Ordering}
use Rattle.std.proofs.lemmas.Bool.{false≢true}
use Rattle.table.specs.Key.{user_of}
use Rattle.block.specs.EncodedEntry.{Entry}
use Rattle.merge.specs.MergedLists.{entries_of_lists, merged}
use Rattle.merge.proofs.SortedEntries.{filter-sorted, sorted_never_falls}
use Rattle.reads.specs.Ranges.{KeyRange}
use Rattle.merge.specs.FirstEntry.{first_is}
use Rattle.merge.specs.InRange.{entries_in, is_in_range}
use Rattle.merge.specs.CursorsLeft.{is_before}
use Rattle.merge.proofs.Bounds.{below_apart, from_bound, none_in, one_in}
use Rattle.scan.specs.Row.{Row}
use Rattle.scan.specs.EntryRows.{decided_after, entry_rows, rows_after, sorted_rows}
use Rattle.scan.specs.RowParts.{AreBegun, AreEnough, AreTelling, AreWanted, IsRowPart}
use Rattle.scan.specs.declared.row_limit.RowLimit.TheVariants.{More}
use Rattle.scan.proofs.Told.{begun_then, enough_then, more_then}
use Rattle.scan.specs.ToldRows.{telling_by}

-- none of the entries is before the range
abbrev pub IsAfter : (List ℕ → List ℕ → Ordering) → KeyRange → List Entry → Type 0
IsAfter cmp range es = AllByRecursion (λ (e : Entry). is_before cmp range.lower false e ≡ false) es

-- how far the entries of a range were walked: some of their rows were told, and none of the other
-- entries is before the range
pub record IsWalkedTo {T : Type 0} (tells : T → Row → Bool → T → Type 0) (cmp : List ℕ → List ℕ → Ordering) (range : KeyRange) (at : ℕ) (rows : List Row) (old : T) (limit : Option ℕ) (es : List Entry) (decided : Option (List ℕ)) (now : T) (left : Option ℕ) : Type 0 where
  pub part : IsRowPart (telling_by tells old now) rows limit (rows_after at decided (entries_in cmp range es)) left true
  pub after : IsAfter cmp range es
  pub wanted : AreWanted left

module _ (cmp : List ℕ → List ℕ → Ordering) (total : IsTotalOrder cmp) (range : KeyRange) where
  -- an entry before the range is none of it
  pub skipped : (es fs : List Entry) → first_is (is_before cmp range.lower false) es ≡ true → fs ≡ drop 1 es → entries_in cmp range fs ≡ entries_in cmp range es
  skipped [] fs first rest = absurd (false≢true first)
  skipped (e ∷ es) fs first rest = ap (entries_in cmp range) rest ∙ sym (ap (λ (b : Bool). cond b (e ∷ entries_in cmp range es) (entries_in cmp range es)) (below_apart cmp range e first))

  -- the rows of merged lists, as they come
  pub merged_rows : (at : ℕ) (lists : List (List Entry)) → sorted_rows cmp range at lists ≡ rows_after at None (entries_in cmp range (merged cmp lists))
  merged_rows at lists = ap (rows_after at None) (sym (filter-sorted cmp total (λ (e : Entry). is_in_range cmp range (user_of e.key)) (entries_of_lists lists)))

  -- after the entries before the range
  pub begun_after : (lists : List (List Entry)) → first_is (is_before cmp range.lower false) (merged cmp lists) ≡ false → IsAfter cmp range (merged cmp lists)
  begun_after lists first = from_bound cmp total range.lower false (merged cmp lists) (sorted_never_falls cmp total (entries_of_lists lists)) first

  -- the next entry of the range
  pub next_in : (es : List Entry) (e : Entry) → es ≡ e ∷ drop 1 es → IsAfter cmp range es → first_is (is_before cmp range.upper true) es ≡ true → entries_in cmp range es ≡ e ∷ entries_in cmp range (drop 1 es)
  next_in es e head after first =
      ap (entries_in cmp range) head
      ∙ one_in cmp total range e (drop 1 es) (subst (IsAfter cmp range) head after).0 (subst (λ (xs : List Entry). first_is (is_before cmp range.upper true) xs ≡ true) head first)

  pub after_next : (es : List Entry) (e : Entry) → es ≡ e ∷ drop 1 es → IsAfter cmp range es → IsAfter cmp range (drop 1 es)
  after_next es e head after = (subst (IsAfter cmp range) head after).1

  -- at the end of the range
  pub at_end : (lists : List (List Entry)) → IsAfter cmp range (merged cmp lists) → first_is (is_before cmp range.upper true) (merged cmp lists) ≡ false → entries_in cmp range (merged cmp lists) ≡ []
  at_end lists after first = none_in cmp total range (merged cmp lists) after (from_bound cmp total range.upper true (merged cmp lists) (sorted_never_falls cmp total (entries_of_lists lists)) first)

  -- ---- what one entry does

  module _ {T : Type 0} (tells : T → Row → Bool → T → Type 0) (at : ℕ) (rows : List Row) (old now new : T) (limit left : Option ℕ) (es : List Entry) (decided : Option (List ℕ)) (e : Entry)
      (walked : IsWalkedTo tells cmp range at rows old limit es decided now left) (first : first_is (is_before cmp range.upper true) es ≡ true) (head : es ≡ e ∷ drop 1 es) where
    abbrev front : List Row
    front = entry_rows at decided e

    abbrev behind : List Row
    behind = rows_after at (decided_after at decided e) (entries_in cmp range (drop 1 es))

    here : IsRowPart (telling_by tells old now) rows limit (front ++ behind) left true
    here = subst (λ (xs : List Entry). IsRowPart (telling_by tells old now) rows limit (rows_after at decided xs) left true) (next_in es e head walked.after first) walked.part

    pub walked_enough : AreEnough tells front now left new → AreEnough tells rows old limit new
    walked_enough h = enough_then tells rows front behind old now new limit left here h

    pub walked_begun : AreBegun tells front now left new → AreBegun tells rows old limit new
    walked_begun h = begun_then tells rows front behind old now new limit left here h

    -- more are wanted
    pub walked_left : (less : Option ℕ) → AreTelling tells front now left new (Ok (More less)) → AreBegun tells rows old limit new
    walked_left less h = record { untold = behind; left = less; part = more_then tells rows front behind old now new limit left here less h }

    pub walked_more : (less : Option ℕ) (after : Option (List ℕ)) (fs : List Entry) → AreTelling tells front now left new (Ok (More less)) → after ≡ decided_after at decided e → fs ≡ drop 1 es → IsWalkedTo tells cmp range at rows old limit fs after new less
    walked_more less after fs h is rest = record {
      part = subst (λ (d : Option (List ℕ)). IsRowPart (telling_by tells old new) rows limit (rows_after at d (entries_in cmp range fs)) less true) (sym is)
          (subst (λ (xs : List Entry). IsRowPart (telling_by tells old new) rows limit (rows_after at (decided_after at decided e) (entries_in cmp range xs)) less true) (sym rest) (more_then tells rows front behind old now new limit left here less h));
      after = subst (IsAfter cmp range) (sym rest) (after_next es e head walked.after);
      wanted = h.0;
    }
