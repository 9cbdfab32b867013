-- The amounts of all levels of a lawful version.
use Rattle.std.proofs.Common.{◌≡◌, ◌≤◌, ◌+◌, ◌-◌, ◌^◌, ℕ, zero, suc, Bool, true, false, List, [], ◌∷◌, ◌++◌, length, map, Option, Ok, refl, sym, ap, ap₂, subst, ◌∙◌, append_assoc, arith}
use Rattle.std.specs.Prelude.{Contains, fold, unwrap_or}
use Rattle.std.specs.List.{count_by, flat_map, sum_by}
use Rattle.std.specs.List.Sorted.{IsPermutation}
use Rattle.std.specs.Cmp.{IsTotalOrder}
use Rattle.std.specs.Str.{bytes_eq}
use Rattle.std.specs.declared.cmp.Ordering.{Ordering}
use Rattle.std.proofs.lemmas.Bool.Decides.{Decides-eqb}
use Rattle.std.proofs.lemmas.List.{length-append, map-append, map-id}
use Rattle.std.proofs.lemmas.List.Sorted.{All-permutation, Contains-permutation, IsPermutation-sym, length_permutation, sum_by-IsPermutation}
use Rattle.std.proofs.lemmas.List.Sums.{count_by-le-length, sum_by-cons}
use Rattle.std.proofs.lemmas.Slice.Eq.{bytes_eq-Decides}
use Rattle.std.proofs.lemmas.Bool.{and_parts, false_from_ne_true}
use Rattle.table.specs.Key.{sequence_of, user_of}
use Rattle.block.specs.EncodedEntry.{Entry}
use Rattle.folder.specs.Version.{State}
use Rattle.folder.specs.VersionOrder.{added_from, at_level, level_files}
use Rattle.folder.specs.meta.FileMeta.{FileMeta}
use Rattle.folder.specs.meta.NewFile.{NewFile}
use Rattle.folder.proofs.Snapshots.{added_from-suc, added_from-zero, one_level}
use Rattle.folder.specs.Calls.{Files, Tells}
use Rattle.folder.specs.Levels.{all_levels, by_level, file_numbers, numbers_at}
use Rattle.folder.specs.LoadedTables.{IsLoaded}
use Rattle.folder.proofs.LoadingLemmas.{map_fused}
use Rattle.merge.specs.MergedLists.{entries_of_lists}
use Rattle.reads.specs.Lawful.{AreDistinct, IsLawful}
use Rattle.reads.specs.StatedFiles.{IsStatedFile}
use Rattle.reads.specs.TableOrder.{IsNewer, lists_of_files}
use Rattle.reads.specs.Tables.{all_entries, NumberedContents, table_entries}
use Rattle.reads.proofs.Members.{from_flat_map, from_map, in_flat_map, in_map}
use Rattle.reads.proofs.Pairs.{Pairs, pairs_from, pairs_weaker}
use Rattle.checks.specs.GroupTest.{AreTablesIn}
use Rattle.checks.specs.HeldTables.{AreFound}
use Rattle.checks.specs.LawfulTables.{IsLawfulTables}
use Rattle.checks.specs.TestedTables.{entry_count}
use Rattle.checks.proofs.FileTables.{found_lists, numbers_in}
use Rattle.checks.proofs.FolderTests.{loaded_in}
use Rattle.checks.proofs.FoundTables.{found_tables}
use Rattle.checks.proofs.LawfulLemmas.{sound_checked, sound_lawful}
use Rattle.scan.specs.Counts.{AreOnce, capped_plus, is_version}
use Rattle.scan.specs.HiddenEntries.{is_deletion_entry, is_hidden_among}
use Rattle.scan.specs.LevelCounts.{all_of_levels, AreLevelsIn, files_of_levels, IsFewStanding}
use Rattle.scan.specs.LevelRows.{level_rows}
use Rattle.scan.specs.Stats.{amounts_of, amounts_plus, amounts_sum, entries_of_files, level_stats, no_amounts, Stats, told_amounts, version_stats}
use Rattle.scan.specs.declared.amounts.Amounts.{Amounts}
use Rattle.scan.specs.declared.level_stats.LevelStats.{LevelStats}
use Rattle.scan.proofs.AmountSums.{few_small, IsOfFew, plus_few, same_amounts, sum_told}
use Rattle.scan.proofs.CountedEntries.{count_append, count_cons, count_none, count_same, one_if}
use Rattle.scan.proofs.HiddenSteps.{hidden_same}
use Rattle.scan.proofs.ScanAnswers.{entries_each, tables_in}
use Rattle.scan.proofs.VersionFiles.{from_standing, to_standing}
use Rattle.scan.proofs.SortedNewer.{newer_distinct}

-- ---- no user key has one sequence twice

once_of : (es : List Entry) → Pairs AreDistinct es → AreOnce es
once_of [] pairs user sequence = omega arith
once_of (e ∷ es) pairs user sequence = by (once_of es pairs.1 user sequence) (is_version user sequence e) refl
  where
    is_of : (x : Entry) → is_version user sequence x ≡ true → (user_of x.key ≡ user) × (sequence_of x.key ≡ sequence)
    is_of x h = let parts = and_parts (bytes_eq (user_of x.key) user) _ h in ((bytes_eq-Decides (user_of x.key) user).0 parts.0, (Decides-eqb (sequence_of x.key) sequence).0 parts.1)

    by : count_by (is_version user sequence) es ≤ 1 → (b : Bool) → is_version user sequence e ≡ b → count_by (is_version user sequence) (e ∷ es) ≤ 1
    by rest true own =
        let here = is_of e own in
        let none = count_none (is_version user sequence) es (λ x at. false_from_ne_true (is_version user sequence x) (λ h. let there = is_of x h in pairs.0 x at (here.0 ∙ sym there.0) (here.1 ∙ sym there.1))) in
        let whole = count_cons (is_version user sequence) e es in
        let one = ap one_if own in
        omega arith
    by rest false other =
        let whole = count_cons (is_version user sequence) e es in
        let one = ap one_if other in
        omega arith

-- ---- the entries of files

joined_append : (xs ys : List (List Entry)) → entries_of_lists (xs ++ ys) ≡ entries_of_lists xs ++ entries_of_lists ys
joined_append [] ys = refl
joined_append (x ∷ xs) ys = ap (λ (es : List Entry). x ++ es) (joined_append xs ys) ∙ sym (append_assoc x (entries_of_lists xs) (entries_of_lists ys))

module _ (tables : List NumberedContents) where
  abbrev of_meta : FileMeta → List Entry
  of_meta f = table_entries tables f.number

  -- level by level, or file by file
  pub all_of : (levels : List (List FileMeta)) → all_of_levels tables levels ≡ entries_of_files tables (files_of_levels levels)
  all_of [] = refl
  all_of (fs ∷ levels) =
      ap (λ (es : List Entry). entries_of_files tables fs ++ es) (all_of levels)
      ∙ sym (ap entries_of_lists (map-append of_meta fs (files_of_levels levels)) ∙ joined_append (lists_of_files tables fs) (lists_of_files tables (files_of_levels levels)))

  count_files : (p : Entry → Bool) (fs : List FileMeta) → count_by p (entries_of_files tables fs) ≡ sum_by (λ (f : FileMeta). count_by p (of_meta f)) fs
  count_files p [] = refl
  count_files p (f ∷ fs) = count_append p (of_meta f) (entries_of_files tables fs) ∙ ap (λ (n : ℕ). count_by p (of_meta f) + n) (count_files p fs) ∙ sym (sum_by-cons (λ (g : FileMeta). count_by p (of_meta g)) f fs)

  module _ (xs ys : List FileMeta) (moved : IsPermutation xs ys) where
    once_moved : AreOnce (entries_of_files tables ys) → AreOnce (entries_of_files tables xs)
    once_moved once user sequence =
        let few = once user sequence in
        let one = count_files (is_version user sequence) xs in
        let two = count_files (is_version user sequence) ys in
        let same = sum_by-IsPermutation (λ (f : FileMeta). count_by (is_version user sequence) (of_meta f)) xs ys moved in
        omega arith

    in_moved : (e : Entry) → Contains (entries_of_files tables xs) e → Contains (entries_of_files tables ys) e
    in_moved e at =
        let from = from_flat_map (λ (list : List Entry). list) (lists_of_files tables xs) e at in
        let of = from_map of_meta xs from.source from.there in
        let held : Contains (of_meta of.source) e = subst (λ (l : List Entry). Contains l e) (sym of.is) from.held in
        in_flat_map (λ (list : List Entry). list) (lists_of_files tables ys) (of_meta of.source) e (in_map of_meta ys of.source (Contains-permutation xs ys of.source moved of.there)) held

-- ---- the levels of a version

module _ {A B : Type 0} (f : A → B) (of : ℕ → A) where
  map_levels : (a n : ℕ) → map f (by_level (λ (l : ℕ). of l ∷ []) a n) ≡ by_level (λ (l : ℕ). f (of l) ∷ []) a n
  map_levels a zero = refl
  map_levels a (suc n) = ap (λ (bs : List B). f (of a) ∷ bs) (map_levels (a + 1) n)

map_same : {A B : Type 0} (f g : A → B) → ((a : A) → f a ≡ g a) → (xs : List A) → map f xs ≡ map g xs
map_same f g same [] = refl
map_same {B = B} f g same (x ∷ xs) = ap₂ (λ (b : B) (bs : List B). b ∷ bs) (same x) (map_same f g same xs)

module _ (cmp : List ℕ → List ℕ → Ordering) (v : State) where
  abbrev pub levels_of : List (List FileMeta)
  levels_of = all_levels (λ level. level_files cmp v level ∷ [])

  abbrev metas : List FileMeta
  metas = map (λ (f : NewFile). f.meta) (added_from cmp v.files 0 7)

  of_level : (level : ℕ) (fs : List FileMeta) → map (λ (f : NewFile). f.meta) (map (at_level level) fs) ≡ fs
  of_level level fs = sym (map_fused (at_level level) (λ (f : NewFile). f.meta) fs) ∙ map-id fs

  flat_from : (a n : ℕ) → files_of_levels (by_level (λ (level : ℕ). level_files cmp v level ∷ []) a n) ≡ map (λ (f : NewFile). f.meta) (added_from cmp v.files a n)
  flat_from a zero = sym (ap (map (λ (f : NewFile). f.meta)) (added_from-zero cmp v.files a))
  flat_from a (suc n) =
      ap (λ (fs : List FileMeta). level_files cmp v a ++ fs) (flat_from (a + 1) n)
      ∙ sym (ap (map (λ (f : NewFile). f.meta)) (added_from-suc cmp v.files a n)
      ∙ map-append (λ (f : NewFile). f.meta) (one_level cmp v.files a) (added_from cmp v.files (a + 1) n)
      ∙ ap (λ (fs : List FileMeta). fs ++ map (λ (f : NewFile). f.meta) (added_from cmp v.files (a + 1) n)) (of_level a (level_files cmp v a)))

  flat : files_of_levels levels_of ≡ metas
  flat = flat_from 0 7

  numbers_from : (a n : ℕ) → by_level (numbers_at cmp v) a n ≡ numbers_in (files_of_levels (by_level (λ (level : ℕ). level_files cmp v level ∷ []) a n))
  numbers_from a zero = refl
  numbers_from a (suc n) =
      ap (λ (ns : List ℕ). numbers_at cmp v a ++ ns) (numbers_from (a + 1) n)
      ∙ sym (map-append (λ (f : FileMeta). f.number) (level_files cmp v a) (files_of_levels (by_level (λ (level : ℕ). level_files cmp v level ∷ []) (a + 1) n)))

  -- what is told of them
  rows_from : (amounts : List FileMeta → Amounts) (a n : ℕ) → level_rows cmp a (by_level (λ (level : ℕ). level_files cmp v level ∷ []) a n) (map amounts (by_level (λ (level : ℕ). level_files cmp v level ∷ []) a n))
      ≡ by_level (λ (level : ℕ). level_stats cmp level (amounts (level_files cmp v level)) (level_files cmp v level)) a n
  rows_from amounts a zero = refl
  rows_from amounts a (suc n) = ap (λ (rows : List LevelStats). level_stats cmp a (amounts (level_files cmp v a)) (level_files cmp v a) ++ rows) (rows_from amounts (a + 1) n)

-- ---- a lawful version

module _ (cmp : List ℕ → List ℕ → Ordering) (total : IsTotalOrder cmp) (told : List ℕ → Option (List ℕ) → Type 0) (files : Files) (v : State) (loaded : List (ℕ × List ℕ)) (tables : List NumberedContents)
    (tells : Tells told files) (there : IsLoaded told (file_numbers cmp v) (Ok loaded)) (sound : IsLawfulTables cmp v loaded (Ok tables)) (few : IsFewStanding cmp v) (counted : entry_count tables ≤ 2 ^ 128 - 1) where
  abbrev standing : List FileMeta
  standing = few.standing

  abbrev levels : List (List FileMeta)
  levels = levels_of cmp v

  lawful : IsLawful cmp v tables
  lawful = sound_lawful cmp v loaded tables sound

  moved : IsPermutation (files_of_levels levels) standing
  moved = subst (λ (fs : List FileMeta). IsPermutation fs standing) (sym (flat cmp v)) few.stand.permutation

  distinct : Pairs AreDistinct (entries_of_files tables standing)
  distinct =
      let falls = ((few.stand.lawful tables).0 lawful).1 in
      pairs_weaker IsNewer AreDistinct newer_distinct (entries_of_files tables standing) (pairs_from IsNewer (entries_of_files tables standing) falls.newer)

  own_tables : AreTablesIn cmp files v.next_file (files_of_levels levels) tables
  own_tables = record {
    read = (tables_in cmp told files v standing loaded tables few.stand tells there sound).read;
    stated = All-permutation (IsStatedFile cmp tables v.next_file) standing (files_of_levels levels) (IsPermutation-sym (files_of_levels levels) standing moved) ((few.stand.lawful tables).0 lawful).0;
  }

  -- the tables are those of the levels' files, in their order
  found : AreFound cmp files (numbers_in (files_of_levels levels)) tables
  found = subst (λ (ns : List ℕ). AreFound cmp files ns tables) (numbers_from cmp v 0 7) (found_tables cmp files (file_numbers cmp v) loaded tables (loaded_in told files (file_numbers cmp v) (Ok loaded) tells there) (sound_checked cmp v loaded tables sound))

  joined_each : (ts : List NumberedContents) → entries_of_lists (entries_each ts) ≡ flat_map (λ (t : NumberedContents). t.contents.entries) ts
  joined_each [] = refl
  joined_each (t ∷ ts) = ap (λ (es : List Entry). t.contents.entries ++ es) (joined_each ts)

  -- so their entries are those that were counted
  entries_are : all_of_levels tables levels ≡ flat_map (λ (t : NumberedContents). t.contents.entries) tables
  entries_are = all_of tables levels ∙ ap entries_of_lists (found_lists cmp files v.next_file tables own_tables.read (files_of_levels levels) tables found own_tables.stated) ∙ joined_each tables

  pub levels_in : AreLevelsIn cmp files v.next_file levels tables
  levels_in = record {
    tables_in = own_tables;
    once = subst AreOnce (sym (all_of tables levels)) (once_moved tables (files_of_levels levels) standing moved (once_of (entries_of_files tables standing) distinct));
    few = omega (arith, few.few, length_permutation (files_of_levels levels) standing moved);
    room = subst (λ (es : List Entry). length es ≤ 2 ^ 128 - 1) (sym entries_are) counted;
  }

  -- the entries of all levels are those of the version
  to_version : (e : Entry) → Contains (all_of_levels tables levels) e → Contains (all_entries tables v.files) e
  to_version e at = from_standing cmp total v standing tables few.stand.permutation few.added e (in_moved tables (files_of_levels levels) standing moved e (subst (λ (es : List Entry). Contains es e) (all_of tables levels) at))

  from_version : (e : Entry) → Contains (all_entries tables v.files) e → Contains (all_of_levels tables levels) e
  from_version e at =
      subst (λ (es : List Entry). Contains es e) (sym (all_of tables levels))
      (in_moved tables standing (files_of_levels levels) (IsPermutation-sym (files_of_levels levels) standing moved) e (to_standing cmp total v standing tables few.stand.permutation few.added e at))

  module _ (last : ℕ) where
    abbrev amounts : List FileMeta → Amounts
    amounts fs = amounts_of last (all_entries tables v.files) tables fs

    abbrev told_of : List FileMeta → Amounts
    told_of fs = told_amounts (amounts fs)

    amounts_are : map (λ (fs : List FileMeta). told_amounts (amounts_of last (all_of_levels tables levels) tables fs)) levels ≡ map told_of levels
    amounts_are = map_same (λ (fs : List FileMeta). told_amounts (amounts_of last (all_of_levels tables levels) tables fs)) told_of (λ fs.
        ap told_amounts (same_amounts (amounts_of last (all_of_levels tables levels) tables fs) (amounts fs) refl refl refl refl
        (count_same (is_hidden_among last (all_of_levels tables levels)) (is_hidden_among last (all_entries tables v.files)) (entries_of_files tables fs) (λ e at. hidden_same last (all_of_levels tables levels) (all_entries tables v.files) to_version from_version e)))) levels

    few_of : (fs : List FileMeta) → IsOfFew (length fs) (length (entries_of_files tables fs)) (amounts fs)
    few_of fs =
        let deletions = count_by-le-length is_deletion_entry (entries_of_files tables fs) in
        let hidden = count_by-le-length (is_hidden_among last (all_entries tables v.files)) (entries_of_files tables fs) in
        record { files = omega arith; entries = omega arith; deletions = deletions; hidden = hidden }

    few_sum : (parts : List (List FileMeta)) → IsOfFew (length (files_of_levels parts)) (length (all_of_levels tables parts)) (amounts_sum (map amounts parts))
    few_sum [] = record { files = omega arith; entries = omega arith; deletions = omega arith; hidden = omega arith }
    few_sum (fs ∷ parts) =
        subst (λ (e : ℕ). IsOfFew (length (files_of_levels (fs ∷ parts))) e (amounts_plus (amounts fs) (amounts_sum (map amounts parts)))) (sym (length-append (entries_of_files tables fs) (all_of_levels tables parts)))
        (subst (λ (n : ℕ). IsOfFew n (length (entries_of_files tables fs) + length (all_of_levels tables parts)) (amounts_plus (amounts fs) (amounts_sum (map amounts parts)))) (sym (length-append fs (files_of_levels parts)))
        (plus_few (length fs) (length (files_of_levels parts)) (length (entries_of_files tables fs)) (length (all_of_levels tables parts)) (amounts fs) (amounts_sum (map amounts parts)) (few_of fs) (few_sum parts)))

    told_each : (parts : List (List FileMeta)) → map told_of parts ≡ map told_amounts (map amounts parts)
    told_each [] = refl
    told_each (fs ∷ parts) = ap (λ (all : List Amounts). told_of fs ∷ all) (told_each parts)

    -- so what is told is what the version has
    pub stats_are : last ≡ unwrap_or v.last_sequence 0 → (made : List Amounts) → made ≡ map (λ (fs : List FileMeta). told_amounts (amounts_of last (all_of_levels tables levels) tables fs)) levels
        → version_stats cmp v tables ≡ record { levels = level_rows cmp 0 levels made; all = fold capped_plus no_amounts made }
    stats_are is made counts =
        let made_is : made ≡ map told_of levels = counts ∙ amounts_are in
        let small = few_small (length (files_of_levels levels)) (length (all_of_levels tables levels)) (amounts_sum (map amounts levels)) levels_in.few levels_in.room (few_sum levels) in
        let rows : level_rows cmp 0 levels made ≡ all_levels (λ level. level_stats cmp level (told_of (level_files cmp v level)) (level_files cmp v level)) = ap (level_rows cmp 0 levels) made_is ∙ rows_from cmp v told_of 0 7 in
        let sum : fold capped_plus no_amounts made ≡ told_amounts (amounts_sum (all_levels (λ level. amounts (level_files cmp v level) ∷ []))) =
        ap (fold capped_plus no_amounts) (made_is ∙ told_each levels) ∙ sum_told (map amounts levels) small ∙ ap (λ (all : List Amounts). told_amounts (amounts_sum all)) (map_levels amounts (level_files cmp v) 0 7) in
        let made_of : List LevelStats → Amounts → Stats = λ rs a. record { levels = rs; all = a } in
        let told_at : ℕ → Stats = λ n. record {
          levels = all_levels (λ level. level_stats cmp level (told_amounts (amounts_of n (all_entries tables v.files) tables (level_files cmp v level))) (level_files cmp v level));
          all = told_amounts (amounts_sum (all_levels (λ level. amounts_of n (all_entries tables v.files) tables (level_files cmp v level) ∷ [])));
        } in
        ap told_at (sym is) ∙ sym (ap₂ made_of rows sum)
