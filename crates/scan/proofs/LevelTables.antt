-- The tables of levels: those that a range needs, as a folder holds them.
use Rattle.std.proofs.Common.{Bor, Vec, Global, ◌≡◌, ◌+◌, ℕ, Bool, List, [], ◌∷◌, ◌++◌, length, map, take, drop, get_or, Option, refl, sym, ap, ap₂, subst, ◌∙◌}
use Rattle.std.specs.Prelude.{filter}
use Rattle.std.specs.List.{All, flat_map, sum_by}
use Rattle.std.specs.Cmp.{IsTotalOrder}
use Rattle.std.specs.declared.cmp.Ordering.{Ordering}
use Rattle.std.proofs.lemmas.List.{drop_at, length-append, length-map, map-append, take_at}
use Rattle.std.proofs.lemmas.List.Elements.{All-contains, All-filter, Contains-append_left, Contains-append_right, Contains-get_or, filter-append}
use Rattle.std.proofs.lemmas.List.Sums.{sum_by-cons}
use Rattle.block.specs.EncodedEntry.{Entry}
use Rattle.merge.specs.MergedLists.{entries_of_lists}
use Rattle.reads.specs.Ranges.{KeyRange}
use Rattle.folder.specs.meta.FileMeta.{FileMeta}
use Rattle.folder.specs.Calls.{Files}
use Rattle.folder.proofs.LoadingLemmas.{map_fused}
use Rattle.merge.specs.InRange.{entries_in}
use Rattle.reads.specs.StatedFiles.{IsStatedFile}
use Rattle.reads.specs.TableOrder.{lists_of_files}
use Rattle.reads.specs.Tables.{NumberedContents, table_entries}
use Rattle.checks.specs.GroupTest.{AreTablesIn}
use Rattle.checks.specs.HeldTables.{AreFound, held_numbers}
use Rattle.checks.specs.NeededFiles.{is_file_needed}
use Rattle.checks.proofs.FileTables.{all_found, found_lists, numbers_in}
use Rattle.checks.proofs.NeededLemmas.{needed_entries}
use Rattle.scan.specs.LevelCounts.{files_of_levels, lists_of_levels}
use Rattle.scan.specs.ListParts.{in_parts}
use Rattle.scan.proofs.ScanAnswers.{entries_each}

-- ---- levels, one after the other

abbrev pub now_of : Bor FileMeta → FileMeta
now_of f = f.now

-- what the versions states of levels' files that are lent
abbrev pub metas_of : List (Vec (Bor FileMeta) Global) → List (List FileMeta)
metas_of levels = map (λ (fs : Vec (Bor FileMeta) Global). map now_of fs.items) levels

abbrev pub sizes_of : List (Vec (Bor FileMeta) Global) → List ℕ
sizes_of levels = map (λ (fs : Vec (Bor FileMeta) Global). length fs.items) levels

abbrev pub numbers_of_levels : List (Vec (Bor FileMeta) Global) → List ℕ
numbers_of_levels levels = flat_map (λ (fs : Vec (Bor FileMeta) Global). map (λ (f : Bor FileMeta). f.now.number) fs.items) levels

pub numbers_are : (levels : List (Vec (Bor FileMeta) Global)) → numbers_of_levels levels ≡ numbers_in (files_of_levels (metas_of levels))
numbers_are [] = refl
numbers_are (fs ∷ levels) =
    ap₂ (λ (ns ms : List ℕ). ns ++ ms) (map_fused now_of (λ (f : FileMeta). f.number) fs.items) (numbers_are levels)
    ∙ sym (map-append (λ (f : FileMeta). f.number) (map now_of fs.items) (files_of_levels (metas_of levels)))

pub sizes_are : (levels : List (Vec (Bor FileMeta) Global)) → sizes_of levels ≡ map (λ (fs : List FileMeta). length fs) (metas_of levels)
sizes_are [] = refl
sizes_are (fs ∷ levels) = ap₂ (λ (n : ℕ) (ns : List ℕ). n ∷ ns) (sym (length-map fs.items now_of)) (sizes_are levels)

-- there are as many numbers of tables as files
pub number_of : (levels : List (Vec (Bor FileMeta) Global)) → length (numbers_of_levels levels) ≡ sum_by (λ (fs : Vec (Bor FileMeta) Global). length fs.items) levels
number_of [] = refl
number_of (fs ∷ levels) =
    length-append (map (λ (f : Bor FileMeta). f.now.number) fs.items) (numbers_of_levels levels)
    ∙ ap₂ (λ (n m : ℕ). n + m) (length-map fs.items (λ (f : Bor FileMeta). f.now.number)) (number_of levels)
    ∙ sym (sum_by-cons (λ (gs : Vec (Bor FileMeta) Global). length gs.items) fs levels)

pub held_number : (levels : List (Vec (Bor FileMeta) Global)) (numbers : List ℕ) (held : List NumberedContents) → numbers ≡ numbers_of_levels levels → held_numbers held ≡ numbers → sum_by (λ (fs : Vec (Bor FileMeta) Global). length fs.items) levels ≡ length held
held_number levels numbers held are own = sym (number_of levels) ∙ ap length (sym are ∙ sym own) ∙ length-map held (λ (t : NumberedContents). t.number)

flat_filter : (p : FileMeta → Bool) (levels : List (List FileMeta)) → files_of_levels (map (filter p) levels) ≡ filter p (files_of_levels levels)
flat_filter p [] = refl
flat_filter p (fs ∷ levels) = ap (λ (gs : List FileMeta). filter p fs ++ gs) (flat_filter p levels) ∙ sym (filter-append p fs (files_of_levels levels))

block_lists : {Y : Type 0} (f : FileMeta → Y) (levels : List (List FileMeta)) → in_parts (map (λ (fs : List FileMeta). length fs) levels) (map f (files_of_levels levels)) ≡ map (map f) levels
block_lists f [] = refl
block_lists {Y = Y} f (fs ∷ levels) =
    let whole = map-append f fs (files_of_levels levels) in
    let size = length-map fs f in
    ap₂ (λ (ys : List Y) (yss : List (List Y)). ys ∷ yss)
    (ap (take (length fs)) whole ∙ take_at (map f fs) (map f (files_of_levels levels)) (length fs) size)
    (ap (in_parts (map (λ (gs : List FileMeta). length gs) levels)) (ap (drop (length fs)) whole ∙ drop_at (map f fs) (map f (files_of_levels levels)) (length fs) size) ∙ block_lists f levels)

-- ---- what holds of all files

pub front_all : (P : FileMeta → Type 0) (xs ys : List FileMeta) → All P (xs ++ ys) → All P xs
front_all P xs ys all k d lt = All-contains P (xs ++ ys) (get_or xs k d) all (Contains-append_left xs ys (get_or xs k d) (Contains-get_or xs k d lt))

pub back_all : (P : FileMeta → Type 0) (xs ys : List FileMeta) → All P (xs ++ ys) → All P ys
back_all P xs ys all k d lt = All-contains P (xs ++ ys) (get_or ys k d) all (Contains-append_right xs ys (get_or ys k d) (Contains-get_or ys k d lt))

-- ---- a range

module _ (cmp : List ℕ → List ℕ → Ordering) (total : IsTotalOrder cmp) (files : Files) (next : Option ℕ) (levels : List (List FileMeta)) (tables : List NumberedContents) (are : AreTablesIn cmp files next (files_of_levels levels) tables) (range : KeyRange) where
  abbrev needed : List (List FileMeta)
  needed = map (filter (is_file_needed cmp range)) levels

  stated : All (IsStatedFile cmp tables next) (files_of_levels needed)
  stated = subst (All (IsStatedFile cmp tables next)) (sym (flat_filter (is_file_needed cmp range) levels)) (All-filter (is_file_needed cmp range) (IsStatedFile cmp tables next) (files_of_levels levels) are.stated)

  entries_of : (levels : List (List FileMeta)) → All (IsStatedFile cmp tables next) (files_of_levels levels)
      → map (λ (lists : List (List Entry)). entries_in cmp range (entries_of_lists lists)) (map (lists_of_files tables) (map (filter (is_file_needed cmp range)) levels)) ≡ map (entries_in cmp range) (lists_of_levels tables levels)
  entries_of [] all = refl
  entries_of (fs ∷ levels) all =
      ap₂ (λ (es : List Entry) (ess : List (List Entry)). es ∷ ess) (needed_entries cmp total range next tables fs (front_all (IsStatedFile cmp tables next) fs (files_of_levels levels) all))
      (entries_of levels (back_all (IsStatedFile cmp tables next) fs (files_of_levels levels) all))

  -- the tables that were found hold the entries of the levels
  pub held_entries : (lent : List (Vec (Bor FileMeta) Global)) (numbers : List ℕ) (held : List NumberedContents) → metas_of lent ≡ needed → numbers ≡ numbers_of_levels lent → AreFound cmp files numbers held
      → map (λ (lists : List (List Entry)). entries_in cmp range (entries_of_lists lists)) (in_parts (sizes_of lent) (entries_each held)) ≡ map (entries_in cmp range) (lists_of_levels tables levels)
  held_entries lent numbers held are_needed told found =
      let own : numbers ≡ numbers_in (files_of_levels needed) = told ∙ numbers_are lent ∙ ap (λ (ls : List (List FileMeta)). numbers_in (files_of_levels ls)) are_needed in
      let there : AreFound cmp files (numbers_in (files_of_levels needed)) held = subst (λ (ns : List ℕ). AreFound cmp files ns held) own found in
      let lists : entries_each held ≡ lists_of_files tables (files_of_levels needed) = sym (found_lists cmp files next tables are.read (files_of_levels needed) held there stated) in
      ap (map (λ (ls : List (List Entry)). entries_in cmp range (entries_of_lists ls)))
      (ap₂ (λ (ns : List ℕ) (ls : List (List Entry)). in_parts ns ls) (sizes_are lent ∙ ap (map (λ (fs : List FileMeta). length fs)) are_needed) lists ∙ block_lists (λ (f : FileMeta). table_entries tables f.number) needed)
      ∙ entries_of levels are.stated

  -- they are found
  pub never_none : (lent : List (Vec (Bor FileMeta) Global)) (numbers : List ℕ) → metas_of lent ≡ needed → numbers ≡ numbers_of_levels lent → ((held : List NumberedContents) → AreFound cmp files numbers held → ⊥) → ⊥
  never_none lent numbers are_needed told none =
      let own : numbers ≡ numbers_in (files_of_levels needed) = told ∙ numbers_are lent ∙ ap (λ (ls : List (List FileMeta)). numbers_in (files_of_levels ls)) are_needed in
      let all = all_found cmp files next tables are.read (files_of_levels needed) stated in
      none all.0 (subst (λ (ns : List ℕ). AreFound cmp files ns all.0) (sym own) all.1)
