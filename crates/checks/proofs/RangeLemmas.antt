-- What the walk over a range tells of a version.
use Rattle.std.proofs.Common.{◌≡◌, ◌⊎◌, ℕ, ◌+◌, ◌<◌, ◌≤◌, suc, true, eq-or-lt_of_le, List, get_or, Option, None, Ok, refl, sym, ap, ap₂, subst, ◌∙◌, inl, inr, arith}
use Rattle.std.specs.Prelude.{Contains, filter}
use Rattle.std.specs.List.{All}
use Rattle.std.specs.Cmp.{IsTotalOrder}
use Rattle.std.specs.declared.cmp.Ordering.{Ordering}
use Rattle.std.proofs.lemmas.List.Elements.{Contains-get_or, All-contains}
use Rattle.table.specs.EncodedEntry.{Entry}
use Rattle.reads.specs.MergedLists.{entries_of_lists}
use Rattle.split.specs.Ranges.{KeyRange, IsIn, range_at}
use Rattle.folder.specs.meta.FileMeta.{FileMeta}
use Rattle.folder.specs.Calls.{Files}
use Rattle.merge.proofs.InRange.{holds_tells}
use Rattle.reads.specs.StatedFiles.{IsStatedFile}
use Rattle.reads.specs.TableOrder.{AreFallingIn, lists_of_files}
use Rattle.reads.specs.Tables.{NumberedContents}
use Rattle.reads.proofs.Members.{from_filter, in_filter}
use Rattle.reads.proofs.Ranged.{fall_in}
use Rattle.checks.specs.NeededFiles.{is_file_needed}
use Rattle.checks.specs.GroupTest.{AreRangesSound, AreStatedBy, AreTablesIn, IsRangeSound, IsStatedIn, IsWalkAnswer, IsWalked, NoTablesFall, contents_of_all, count_in, counts_of, entries_of_all}
use Rattle.checks.specs.HeldTables.{AreFound, IsFoundAnswer}
use Rattle.checks.proofs.FallingRanges.{same_in_range}
use Rattle.checks.proofs.FileTables.{all_found, found_counts, found_lists, found_stated, numbers_in, stated_found}
use Rattle.checks.proofs.NeededLemmas.{needed_count, needed_entries}

-- what each of a list has, each of a part of it has
some_of : (P : FileMeta → Type 0) (cmp : List ℕ → List ℕ → Ordering) (range : KeyRange) (standing : List FileMeta) → All P standing → All P (filter (is_file_needed cmp range) standing)
some_of P cmp range standing all k d lt =
    let part : List FileMeta = filter (is_file_needed cmp range) standing in
    All-contains P standing (get_or part k d) all (from_filter (is_file_needed cmp range) standing (get_or part k d) (Contains-get_or part k d lt)).0

module _ (cmp : List ℕ → List ℕ → Ordering) (total : IsTotalOrder cmp) (files : Files) (next : Option ℕ) (standing : List FileMeta) (range : KeyRange) where
  abbrev needed : List FileMeta
  needed = filter (is_file_needed cmp range) standing

  abbrev joined : List NumberedContents → List FileMeta → List Entry
  joined tables metas = entries_of_lists (lists_of_files tables metas)

  module _ (found : List NumberedContents) (there : AreFound cmp files (numbers_in needed) found) where
    -- what falls in the tables that are held falls in all tables of the version
    module _ (tables : List NumberedContents) (are : AreTablesIn cmp files next standing tables) where
      stated_needed : All (IsStatedFile cmp tables next) needed
      stated_needed = some_of (IsStatedFile cmp tables next) cmp range standing are.stated

      same_joined : joined tables needed ≡ entries_of_all found
      same_joined = ap entries_of_lists (found_lists cmp files next tables are.read needed found there stated_needed)

      pub falls_here : AreFallingIn (IsIn cmp range) (entries_of_all found) → AreFallingIn (IsIn cmp range) (joined tables standing)
      falls_here h = same_in_range cmp (holds_tells cmp) range (joined tables needed) (joined tables standing) (needed_entries cmp total range next tables standing are.stated) (subst (AreFallingIn (IsIn cmp range)) (sym same_joined) h)

      pub falls_there : AreFallingIn (IsIn cmp range) (joined tables standing) → AreFallingIn (IsIn cmp range) (entries_of_all found)
      falls_there h = subst (AreFallingIn (IsIn cmp range)) same_joined (same_in_range cmp (holds_tells cmp) range (joined tables standing) (joined tables needed) (sym (needed_entries cmp total range next tables standing are.stated)) h)

      pub stated_here : AreStatedBy cmp next needed (contents_of_all found)
      stated_here = found_stated cmp files next tables are.read needed found there stated_needed

      pub same_count : (count : ℕ) → count ≡ counts_of cmp range needed (contents_of_all found) → count ≡ count_in cmp range tables standing
      same_count count h = h ∙ found_counts cmp files next tables are.read range needed found there stated_needed ∙ needed_count cmp total range tables standing

    -- a walk that finds nothing wrong
    pub walked_sound : (count : ℕ) → IsWalked cmp next range needed found count → IsRangeSound cmp files next standing range count
    walked_sound count w = record {
      stated = λ f at is. stated_found cmp files next needed found there w.stated f (in_filter (is_file_needed cmp range) standing f is at);
      falls = λ tables are. falls_here tables are w.falls;
      is = λ tables are. same_count tables are count w.is;
    }

    -- a walk that finds something wrong
    pub walked_wrong : IsWalkAnswer cmp next range needed found None → NoTablesFall cmp files next standing
    walked_wrong w tables are falling = w (stated_here tables are) (falls_there tables are (fall_in (IsIn cmp range) (joined tables standing) falling))

  -- a table that is missing or invalid
  pub unfound_wrong : IsFoundAnswer cmp files (numbers_in needed) (Ok None) → NoTablesFall cmp files next standing
  unfound_wrong h tables are falling =
      let some = all_found cmp files next tables are.read needed (some_of (IsStatedFile cmp tables next) cmp range standing are.stated) in
      h some.0 some.1

-- one range more
pub ranges_none : (cmp : List ℕ → List ℕ → Ordering) (files : Files) (next : Option ℕ) (standing : List FileMeta) (boundaries : List (List ℕ)) → AreRangesSound cmp files next standing boundaries 0 0
ranges_none cmp files next standing boundaries = record {
  stated = λ i lt f at is. absurd (omega arith);
  falls = λ i lt tables are. absurd (omega arith);
  is = λ tables are. refl;
}

pub ranges_more : (cmp : List ℕ → List ℕ → Ordering) (files : Files) (next : Option ℕ) (standing : List FileMeta) (boundaries : List (List ℕ)) (n count more : ℕ)
    → AreRangesSound cmp files next standing boundaries n count → IsRangeSound cmp files next standing (range_at boundaries n) more → AreRangesSound cmp files next standing boundaries (suc n) (count + more)
ranges_more cmp files next standing boundaries n count more so_far one = record {
  stated = λ i lt f at. by_place i lt (λ (k : ℕ). is_file_needed cmp (range_at boundaries k) f ≡ true → IsStatedIn cmp files next f) (so_far_stated f at) (one.stated f at);
  falls = λ i lt tables are. by_place i lt (λ (k : ℕ). AreFallingIn (IsIn cmp (range_at boundaries k)) (entries_of_lists (lists_of_files tables standing))) (λ k small. so_far.falls k small tables are) (one.falls tables are);
  is = λ tables are. ap₂ (λ (a b : ℕ). a + b) (so_far.is tables are) (one.is tables are);
}
  where
    last_or_before : (i : ℕ) → i < suc n → (i ≡ n) ⊎ (i < n)
    last_or_before i lt = elim (eq-or-lt_of_le (below i lt)) [ inl e ↦ inl e | inr l ↦ inr l ]
      where
        below : (i : ℕ) → i < suc n → i ≤ n
        below i lt = omega arith

    by_place : (i : ℕ) → i < suc n → (P : ℕ → Type 0) → ((k : ℕ) → k < n → P k) → P n → P i
    by_place i lt P before here = elim (last_or_before i lt) [ inl same ↦ subst P (sym same) here | inr small ↦ before i small ]

    so_far_stated : (f : FileMeta) → Contains standing f → (k : ℕ) → k < n → is_file_needed cmp (range_at boundaries k) f ≡ true → IsStatedIn cmp files next f
    so_far_stated f at k small = so_far.stated k small f at
