-- A walk over the entries of a range, among the cursors that it walks.
use Rattle.std.proofs.Common.{◌≡◌, ℕ, ◌≤◌, Bool, true, false, List, [], ◌∷◌, drop, None, Option, Ok, Err, sym, ap, subst, ◌∙◌}
use Rattle.std.specs.Prelude.{if◌then◌else◌}
use Rattle.std.specs.List.{AllByRecursion}
use Rattle.std.specs.Cmp.{IsTotalOrder}
use Rattle.std.specs.declared.cmp.Ordering.{Ordering}
use Rattle.coding.specs.Answers.{fault}
use Rattle.coding.specs.declared.fault.FaultName.TheVariants.{Duplicate}
use Rattle.ikey.specs.Comparator.{IsExact}
use Rattle.ikey.specs.Key.{user_of}
use Rattle.reads.specs.EncodedEntry.{Entry}
use Rattle.merge.specs.MergedLists.{entries_of_lists, sorted_entries, merged}
use Rattle.merge.specs.LeastList.{IsAdvanced}
use Rattle.merge.proofs.SortedEntries.{filter-sorted, sorted_never_falls}
use Rattle.split.specs.Ranges.{KeyRange}
use Rattle.keep.specs.WalkedRange.{WalkedRange}
use Rattle.merge.specs.InRange.{is_in_range, entries_in}
use Rattle.merge.specs.CursorsLeft.{is_before, is_passed, each_past_range, EachLosesOnly, EachLosesFirst}
use Rattle.keep.specs.Marks.{CompactionContext, grandparents_below}
use Rattle.keep.specs.Runs.{Run, run_of, are_distinct, range_run}
use Rattle.merge.specs.FirstEntry.{first_is}
use Rattle.keep.specs.Versions.{newer_of}
use Rattle.keep.specs.RangeWalk.{is_repeated, walk_after}
use Rattle.merge.proofs.Bounds.{below_apart, below_passed, before_passed, from_bound, none_in, none_passed, one_in, in_falls}
use Rattle.merge.proofs.LeftEntries.{each_first_all, each_first_more, each_first_weaker, each_loses_only, each_others, merged_filter, stepped, all_merged_back}
use Rattle.keep.proofs.WalkState.{Stands, stands_first, stands_walked, stands_repeated, stands_kept, stands_distinct, stands_passed}

-- ---- the walk

-- Where a walk stands among the cursors: over the entries of the range that remain. What was taken off stood before the
-- end of the range, and what remains doesn't stand before its beginning.
pub record IsWalking (cmp : List ℕ → List ℕ → Ordering) (b : CompactionContext) (range : KeyRange) (start now : List (List Entry)) (w : WalkedRange) : Type 0 where
  pub stands : Stands cmp b (entries_in cmp range (merged cmp start)) (entries_in cmp range (merged cmp now)) w
  pub left : EachLosesFirst (is_passed cmp range) start now
  pub above : AllByRecursion (λ e. is_before cmp range.lower false e ≡ false) (merged cmp now)

module _ (cmp : List ℕ → List ℕ → Ordering) (total : IsTotalOrder cmp) where
  -- entries that stand before a range take no part in it
  pub begun_same : (b : CompactionContext) (range : KeyRange) (olds news : List (List Entry)) → EachLosesOnly (is_before cmp range.lower false) olds news → range_run cmp b news range ≡ range_run cmp b olds range
  begun_same b range olds news h =
      ap (λ (es : List Entry). if are_distinct es then Ok (run_of cmp b es) else Err (fault Duplicate))
      (merged_filter (is_before cmp range.lower false) cmp total (λ e. is_in_range cmp range (user_of e.key)) (below_apart cmp range) olds news h)

  -- lists that have the same in a range give the same run in it
  pub run_same : (range : KeyRange) (b : CompactionContext) (olds news : List (List Entry)) → entries_in cmp range (entries_of_lists news) ≡ entries_in cmp range (entries_of_lists olds) → range_run cmp b news range ≡ range_run cmp b olds range
  run_same range b olds news h =
      ap (λ (es : List Entry). if are_distinct es then Ok (run_of cmp b es) else Err (fault Duplicate))
      (filter-sorted cmp total (λ e. is_in_range cmp range (user_of e.key)) (entries_of_lists news) ∙ ap (sorted_entries cmp) h ∙ sym (filter-sorted cmp total (λ e. is_in_range cmp range (user_of e.key)) (entries_of_lists olds)))

  pub begun_passed : (range : KeyRange) (olds mids news : List (List Entry)) → EachLosesFirst (is_before cmp range.lower false) olds mids → EachLosesFirst (is_passed cmp range) mids news → EachLosesFirst (is_passed cmp range) olds news
  begun_passed range olds mids news h k =
      each_first_more (is_passed cmp range) olds mids news (each_first_weaker (is_before cmp range.lower false) (is_passed cmp range) (below_passed cmp range) olds mids h) k

  pub all_behind : (range : KeyRange) (olds news : List (List Entry)) → EachLosesFirst (is_passed cmp range) olds news → AllByRecursion (λ e. is_passed cmp range e ≡ false) (merged cmp news) → news ≡ each_past_range cmp range olds
  all_behind range olds news h none =
      each_others (is_passed cmp range) olds news (each_loses_only (is_passed cmp range) olds news h) (all_merged_back (λ e. is_passed cmp range e ≡ false) cmp news none)

  -- one step of the beginning
  pub begins : (lower : Option (List ℕ)) (olds nows news : List (List Entry)) → EachLosesFirst (is_before cmp lower false) olds nows → IsAdvanced cmp nows news → merged cmp news ≡ drop 1 (merged cmp nows) → first_is (is_before cmp lower false) (merged cmp nows) ≡ true → EachLosesFirst (is_before cmp lower false) olds news
  begins lower olds nows news left is rest first =
      each_first_more (is_before cmp lower false) olds nows news left (stepped (is_before cmp lower false) cmp nows news is rest first)

  pub walking_first : IsExact cmp → (b : CompactionContext) (range : KeyRange) (start : List (List Entry)) → first_is (is_before cmp range.lower false) (merged cmp start) ≡ false
      → IsWalking cmp b range start start (record { run = record { kept = []; marks = [] }; last = None; passed = 0 })
  walking_first exact b range start first = record {
    stands = stands_first cmp b total exact (entries_in cmp range (merged cmp start)) (in_falls cmp total range (merged cmp start) (sorted_never_falls cmp total (entries_of_lists start)));
    left = each_first_all (is_passed cmp range) start;
    above = from_bound cmp total range.lower false (merged cmp start) (sorted_never_falls cmp total (entries_of_lists start)) first;
  }

  split_first : (range : KeyRange) (e : Entry) (es all : List Entry) → all ≡ e ∷ es → AllByRecursion (λ f. is_before cmp range.lower false f ≡ false) all → first_is (is_before cmp range.upper true) all ≡ true → entries_in cmp range all ≡ e ∷ entries_in cmp range es
  split_first range e es all h above first =
      ap (entries_in cmp range) h
      ∙ one_in cmp total range e es (subst (AllByRecursion (λ f. is_before cmp range.lower false f ≡ false)) h above).0 (subst (λ (xs : List Entry). first_is (is_before cmp range.upper true) xs ≡ true) h first)

  pub walking_at : (b : CompactionContext) (range : KeyRange) (start now : List (List Entry)) (w : WalkedRange) (e : Entry) → IsWalking cmp b range start now w → first_is (is_before cmp range.upper true) (merged cmp now) ≡ true → merged cmp now ≡ e ∷ drop 1 (merged cmp now)
      → Stands cmp b (entries_in cmp range (merged cmp start)) (e ∷ entries_in cmp range (drop 1 (merged cmp now))) w
  walking_at b range start now w e h first head =
      subst (λ (xs : List Entry). Stands cmp b (entries_in cmp range (merged cmp start)) xs w) (split_first range e (drop 1 (merged cmp now)) (merged cmp now) head h.above first) h.stands

  pub walking_passed : (b : CompactionContext) (range : KeyRange) (start now : List (List Entry)) (w : WalkedRange) (e : Entry) → IsWalking cmp b range start now w → first_is (is_before cmp range.upper true) (merged cmp now) ≡ true → merged cmp now ≡ e ∷ drop 1 (merged cmp now)
      → w.passed ≤ grandparents_below cmp b.grandparents e.key
  walking_passed b range start now w e h first head =
      stands_passed cmp b (entries_in cmp range (merged cmp start)) (entries_in cmp range (drop 1 (merged cmp now))) w e (walking_at b range start now w e h first head)

  pub walking_next : (b : CompactionContext) (range : KeyRange) (start now next : List (List Entry)) (w : WalkedRange) (e : Entry) → IsWalking cmp b range start now w → first_is (is_before cmp range.upper true) (merged cmp now) ≡ true → merged cmp now ≡ e ∷ drop 1 (merged cmp now)
      → is_repeated (newer_of w.last (user_of e.key)) e.key ≡ false → IsAdvanced cmp now next → merged cmp next ≡ drop 1 (merged cmp now) → IsWalking cmp b range start next (walk_after cmp b w e)
  walking_next b range start now next w e h first head fresh is rest =
      let here = walking_at b range start now w e h first head in
      let test : Entry → Bool = is_passed cmp range in
      record {
        stands = subst (λ (xs : List Entry). Stands cmp b (entries_in cmp range (merged cmp start)) (entries_in cmp range xs) (walk_after cmp b w e)) (sym rest) (stands_walked cmp b total (entries_in cmp range (merged cmp start)) (entries_in cmp range (drop 1 (merged cmp now))) w e here fresh);
        left = each_first_more test start now next h.left (stepped test cmp now next is rest (passes (merged cmp now) first));
        above = subst (AllByRecursion (λ f. is_before cmp range.lower false f ≡ false)) (sym rest) (subst (AllByRecursion (λ f. is_before cmp range.lower false f ≡ false)) head h.above).1;
      }
    where
      passes : (es : List Entry) → first_is (is_before cmp range.upper true) es ≡ true → first_is (is_passed cmp range) es ≡ true
      passes [] h = h
      passes (f ∷ fs) h = before_passed cmp range f h

  pub walking_repeats : (b : CompactionContext) (range : KeyRange) (start now : List (List Entry)) (w : WalkedRange) (e : Entry) → IsWalking cmp b range start now w → first_is (is_before cmp range.upper true) (merged cmp now) ≡ true → merged cmp now ≡ e ∷ drop 1 (merged cmp now)
      → is_repeated (newer_of w.last (user_of e.key)) e.key ≡ true → range_run cmp b start range ≡ Err (fault Duplicate)
  walking_repeats b range start now w e h first head again =
      ap (λ s. if s then Ok (run_of cmp b (entries_in cmp range (merged cmp start))) else Err (fault Duplicate))
      (stands_repeated cmp b (entries_in cmp range (merged cmp start)) (entries_in cmp range (drop 1 (merged cmp now))) w e (walking_at b range start now w e h first head) again)

  -- at the end of the range
  none_before : (range : KeyRange) (now : List (List Entry)) → first_is (is_before cmp range.upper true) (merged cmp now) ≡ false → AllByRecursion (λ e. is_before cmp range.upper true e ≡ false) (merged cmp now)
  none_before range now first = from_bound cmp total range.upper true (merged cmp now) (sorted_never_falls cmp total (entries_of_lists now)) first

  pub walking_ends : (b : CompactionContext) (range : KeyRange) (start now : List (List Entry)) (w : WalkedRange) → IsWalking cmp b range start now w → first_is (is_before cmp range.upper true) (merged cmp now) ≡ false → range_run cmp b start range ≡ Ok w.run
  walking_ends b range start now w h first =
      let all : List Entry = entries_in cmp range (merged cmp start) in
      let last : Stands cmp b all [] w = subst (λ (xs : List Entry). Stands cmp b all xs w) (none_in cmp total range (merged cmp now) h.above (none_before range now first)) h.stands in
      ap (λ s. if s then Ok (run_of cmp b all) else Err (fault Duplicate)) (stands_distinct cmp b all w last) ∙ ap (λ (r : Run). Ok r) (sym (stands_kept cmp b all w last))

  pub walking_behind : (b : CompactionContext) (range : KeyRange) (start now : List (List Entry)) (w : WalkedRange) → IsWalking cmp b range start now w → first_is (is_before cmp range.upper true) (merged cmp now) ≡ false → AllByRecursion (λ e. is_passed cmp range e ≡ false) (merged cmp now)
  walking_behind b range start now w h first = none_passed cmp total range (merged cmp now) h.above (none_before range now first)
