-- A version whose ranges are sound is lawful with the tables that the files hold.
use Rattle.std.proofs.Common.{◌≡◌, ℕ, zero, suc, ◌+◌, ◌<◌, ◌≤◌, Bool, true, false, eqb, List, [], ◌∷◌, ◌++◌, length, map, get_or, Some, Result, Ok, Err, refl, sym, ap, ap₂, subst, ◌∙◌, inl, inr, if◌then◌else◌, arith, eq-or-lt_of_le}
use Rattle.std.specs.Prelude.{Contains}
use Rattle.std.specs.List.{All, AllZip, find, flat_map, sum_by}
use Rattle.std.specs.List.Sorted.{IsPermutation}
use Rattle.std.specs.Cmp.{IsTotalOrder}
use Rattle.std.specs.Option.{is_some, option_map}
use Rattle.std.specs.declared.cmp.Ordering.{Ordering}
use Rattle.std.proofs.lemmas.Bool.{eq-eqb}
use Rattle.std.proofs.lemmas.List.{length-append, map-append}
use Rattle.std.proofs.lemmas.List.Elements.{Contains-get_or}
use Rattle.std.proofs.lemmas.List.Sums.{sum_by-cons}
use Rattle.std.proofs.lemmas.List.Sorted.{Contains-permutation, IsPermutation-sym, sum_by-IsPermutation}
use Rattle.ikey.specs.Answers.{◌>>=◌, fault}
use Rattle.ikey.specs.fault.Fault.{Fault}
use Rattle.ikey.specs.fault.FaultName.TheVariants.{Missing}
use Rattle.ikey.specs.Key.{user_of}
use Rattle.table.specs.EncodedEntry.{Entry}
use Rattle.table.specs.TableContents.{Contents}
use Rattle.reads.specs.MergedLists.{entries_of_lists}
use Rattle.split.specs.Ranges.{IsCover, range_at}
use Rattle.folder.specs.Version.{State}
use Rattle.folder.specs.VersionOrder.{added_from, at_level, files_at, in_version_order}
use Rattle.folder.specs.meta.FileMeta.{FileMeta}
use Rattle.folder.specs.meta.NewFile.{NewFile}
use Rattle.folder.proofs.Snapshots.{added_from-suc, added_from-zero, one_level}
use Rattle.folder.specs.Calls.{Files}
use Rattle.folder.specs.Levels.{by_level, file_numbers, numbers_at}
use Rattle.folder.specs.LoadedTables.{IsLoaded, IsTableOf}
use Rattle.folder.specs.ReadsAs.{IsFileIn}
use Rattle.reads.specs.StatedFiles.{IsStatedFile}
use Rattle.reads.specs.TableOrder.{AreAllAdded, AreStandingFiles, lists_of_files}
use Rattle.reads.specs.Tables.{NumberedContents, table_entries, table_of_number, tables_test}
use Rattle.reads.proofs.Answers.{entries_are}
use Rattle.reads.proofs.Levels.{all_of}
use Rattle.reads.proofs.Members.{first_in, first_or_later, in_map, later_in, none_in}
use Rattle.checks.specs.TableReadings.{tables_reading}
use Rattle.checks.specs.FileStarts.{starts_in}
use Rattle.checks.specs.TestedTables.{entry_count}
use Rattle.checks.specs.GroupTest.{AreRangesSound, AreTablesIn, IsLawfulIn, IsLawlessIn, IsStatedIn, NoTablesFall, count_below, count_in}
use Rattle.checks.specs.HeldTables.{AreFound, IsTableIn}
use Rattle.checks.proofs.FallingRanges.{fall_in_each}
use Rattle.checks.proofs.FileTables.{numbers_in, stated_among}
use Rattle.checks.proofs.FoundTables.{found_at, found_tables, one_table}
use Rattle.checks.proofs.NeededLemmas.{starts_needed, starts_where, where_starts}

-- ---- how many entries all tables have, range by range

-- how many entries a file's table has
abbrev pub size_in : List NumberedContents → FileMeta → ℕ
size_in tables f = length (table_entries tables f.number)

-- and how many those of several files have
abbrev pub sizes_in : List NumberedContents → List FileMeta → ℕ
sizes_in tables [] = 0
sizes_in tables (f ∷ fs) = size_in tables f + sizes_in tables fs

sizes_sum : (tables : List NumberedContents) (fs : List FileMeta) → sum_by (size_in tables) fs ≡ sizes_in tables fs
sizes_sum tables [] = refl
sizes_sum tables (f ∷ fs) = sum_by-cons (size_in tables) f fs ∙ ap (λ (n : ℕ). size_in tables f + n) (sizes_sum tables fs)

-- in each order
sizes_moved : (tables : List NumberedContents) (fs gs : List FileMeta) → IsPermutation fs gs → sizes_in tables gs ≡ sizes_in tables fs
sizes_moved tables fs gs moved = sym (sizes_sum tables gs) ∙ sum_by-IsPermutation (size_in tables) fs gs moved ∙ sizes_sum tables fs

module _ (cmp : List ℕ → List ℕ → Ordering) (total : IsTotalOrder cmp) (boundaries : List (List ℕ)) (tables : List NumberedContents) where
  abbrev own_in : ℕ → FileMeta → ℕ
  own_in i f = if starts_in cmp (range_at boundaries i) f then size_in tables f else 0

  -- how many entries of one file's table the first n ranges count
  abbrev own_below : FileMeta → ℕ → ℕ
  own_below f zero = 0
  own_below f (suc n) = own_below f n + own_in n f

  below_parts : (f : FileMeta) (fs : List FileMeta) (n : ℕ) → count_below cmp boundaries tables (f ∷ fs) n ≡ own_below f n + count_below cmp boundaries tables fs n
  below_parts f fs zero = refl
  below_parts f fs (suc n) =
      let before = below_parts f fs n in
      regroup (count_below cmp boundaries tables (f ∷ fs) n) (own_below f n) (count_below cmp boundaries tables fs n) (own_in n f) (count_in cmp (range_at boundaries n) tables fs) before
    where
      regroup : (all a b c d : ℕ) → all ≡ a + b → all + (c + d) ≡ (a + c) + (b + d)
      regroup all a b c d h = omega (arith, h)

  none_below : (n : ℕ) → count_below cmp boundaries tables [] n ≡ 0
  none_below zero = refl
  none_below (suc n) = ap (λ (k : ℕ). k + 0) (none_below n)

  module _ (cover : IsCover cmp boundaries) (f : FileMeta) where
    abbrev number : ℕ
    number = (cover.each_once (user_of f.smallest)).number

    only_by : (b : Bool) (i n : ℕ) → (b ≡ true → i ≡ n) → (i ≡ n → ⊥) → (if b then size_in tables f else 0) ≡ 0
    only_by true i n h isnt = absurd (isnt (h refl))
    only_by false i n h isnt = refl

    other_range : (i : ℕ) → i ≤ length boundaries → (i ≡ number → ⊥) → own_in i f ≡ 0
    other_range i le isnt = only_by (starts_in cmp (range_at boundaries i) f) i (cover.each_once (user_of f.smallest)).number (λ is. (cover.each_once (user_of f.smallest)).only i le (where_starts cmp total (range_at boundaries i) f is)) isnt

    own_range : own_in number f ≡ size_in tables f
    own_range = ap (λ (b : Bool). if b then size_in tables f else 0) (starts_where cmp total (range_at boundaries (cover.each_once (user_of f.smallest)).number) f (cover.each_once (user_of f.smallest)).within)

    not_yet : (n : ℕ) → n ≤ number → n ≤ length boundaries + 1 → own_below f n ≡ 0
    not_yet zero le few = refl
    not_yet (suc n) le few = both_none (own_below f n) (own_in n f) (not_yet n (omega arith) (omega arith)) (other_range n (omega arith) (λ same. absurd (omega arith)))
      where
        both_none : (a b : ℕ) → a ≡ 0 → b ≡ 0 → a + b ≡ 0
        both_none a b h k = omega (arith, h, k)

    once : (n : ℕ) → number < n → n ≤ length boundaries + 1 → own_below f n ≡ size_in tables f
    once zero lt few = absurd (omega arith)
    once (suc n) lt few = elim (eq-or-lt_of_le (at_most n lt)) [
      | inl same ↦ first_time (own_below f n) (own_in n f) (size_in tables f) (not_yet n (omega arith) (omega arith)) (ap (λ (k : ℕ). own_in k f) (sym same) ∙ own_range)
      | inr before ↦ no_more (own_below f n) (own_in n f) (size_in tables f) (once n before (omega arith)) (other_range n (omega arith) (λ same. absurd (omega arith)))
    ]
      where
        at_most : (n : ℕ) → number < suc n → number ≤ n
        at_most n lt = omega arith

        first_time : (a b w : ℕ) → a ≡ 0 → b ≡ w → a + b ≡ w
        first_time a b w h k = omega (arith, h, k)

        no_more : (a b w : ℕ) → a ≡ w → b ≡ 0 → a + b ≡ w
        no_more a b w h k = omega (arith, h, k)

    counted_once : own_below f (length boundaries + 1) ≡ size_in tables f
    counted_once = once (length boundaries + 1) (below_end (cover.each_once (user_of f.smallest)).below) (omega arith)
      where
        below_end : number ≤ length boundaries → number < length boundaries + 1
        below_end le = omega arith

  counted_all : IsCover cmp boundaries → (standing : List FileMeta) → count_below cmp boundaries tables standing (length boundaries + 1) ≡ sizes_in tables standing
  counted_all cover [] = none_below (length boundaries + 1)
  counted_all cover (f ∷ fs) = below_parts f fs (length boundaries + 1) ∙ ap₂ (λ (a b : ℕ). a + b) (counted_once cover f) (counted_all cover fs)

-- ---- the tables of all files of a version

-- all files of a version, by level and in version order
abbrev pub all_metas : (List ℕ → List ℕ → Ordering) → State → List FileMeta
all_metas cmp v = map (λ (f : NewFile). f.meta) (added_from cmp v.files 0 7)

level_numbers : (level : ℕ) (fs : List FileMeta) → map (λ (f : FileMeta). f.number) fs ≡ numbers_in (map (λ (f : NewFile). f.meta) (map (at_level level) fs))
level_numbers level [] = refl
level_numbers level (f ∷ fs) = ap (λ (ns : List ℕ). f.number ∷ ns) (level_numbers level fs)

numbers_from : (cmp : List ℕ → List ℕ → Ordering) (v : State) (level n : ℕ) → by_level (numbers_at cmp v) level n ≡ numbers_in (map (λ (f : NewFile). f.meta) (added_from cmp v.files level n))
numbers_from cmp v level zero = sym (ap (λ (fs : List NewFile). numbers_in (map (λ (f : NewFile). f.meta) fs)) (added_from-zero cmp v.files level))
numbers_from cmp v level (suc n) =
    let here : List NewFile = one_level cmp v.files level in
    let later : List NewFile = added_from cmp v.files (level + 1) n in
    ap₂ (λ (a b : List ℕ). a ++ b) (level_numbers level (in_version_order cmp (files_at v.files level))) (numbers_from cmp v (level + 1) n)
    ∙ sym (map-append (λ (f : FileMeta). f.number) (map (λ (f : NewFile). f.meta) here) (map (λ (f : NewFile). f.meta) later))
    ∙ sym (ap numbers_in (map-append (λ (f : NewFile). f.meta) here later))
    ∙ sym (ap (λ (fs : List NewFile). numbers_in (map (λ (f : NewFile). f.meta) fs)) (added_from-suc cmp v.files level n))

pub all_numbers : (cmp : List ℕ → List ℕ → Ordering) (v : State) → file_numbers cmp v ≡ numbers_in (all_metas cmp v)
all_numbers cmp v = numbers_from cmp v 0 7

module _ (cmp : List ℕ → List ℕ → Ordering) (files : Files) where
  -- a number that was found has a table
  pub some_found : (numbers : List ℕ) (tables : List NumberedContents) → AreFound cmp files numbers tables → (n : ℕ) → Contains numbers n → (x : Contents) × (table_of_number tables n ≡ Some x)
  some_found [] [] h n at = absurd (none_in n at)
  some_found [] (t ∷ tables) h n at = absurd h
  some_found (m ∷ numbers) [] h n at = absurd h
  some_found (m ∷ numbers) (t ∷ tables) h n at = by (eqb t.number n) refl (some_found numbers tables h.1 n)
    where
      by : (b : Bool) → eqb t.number n ≡ b → (Contains numbers n → (x : Contents) × (table_of_number tables n ≡ Some x))
          → (x : Contents) × (option_map (λ (t : NumberedContents). t.contents) (if b then Some t else find (λ (t : NumberedContents). eqb t.number n) tables) ≡ Some x)
      by true same later = (t.contents, refl)
      by false other later = elim (first_or_later m numbers n at) [
        | inl first ↦ let both : true ≡ false = sym (eq-eqb t.number n (h.0.0 ∙ sym first)) ∙ other in absurd cc
        | inr behind ↦ later behind
      ]

  -- tables made of files that have some
  pub record Built (metas : List FileMeta) : Type 0 where
    pub loaded : List (ℕ × List ℕ)
    pub tables : List NumberedContents
    pub there : AllZip (IsTableOf (IsFileIn files)) (numbers_in metas) loaded
    pub read : tables_reading cmp loaded ≡ Ok tables

  pub built : (metas : List FileMeta) → ((f : FileMeta) → Contains metas f → (x : Contents) × IsTableIn cmp files f.number x) → Built metas
  built [] each = record { loaded = []; tables = []; there = tt; read = refl }
  built (f ∷ metas) each =
      let s = each f (first_in f metas) in
      let rest = built metas (λ g at. each g (later_in f metas g at)) in
      let first : NumberedContents = record { number = f.number; contents = s.0 } in
      record {
        loaded = (f.number, s.0.bytes) ∷ rest.loaded;
        tables = first ∷ rest.tables;
        there = ((refl, s.1.there), rest.there);
        read = ap (λ (r : Result Contents Fault). (r >>= λ contents. Ok (record { number = f.number; contents = contents })) >>= λ first. tables_reading cmp rest.loaded >>= λ others. Ok (first ∷ others)) s.1.read
            ∙ ap (λ (r : Result (List NumberedContents) Fault). r >>= λ others. Ok (first ∷ others)) rest.read;
      }

  -- the entries of tables, counted by files
  counted : (tables : List NumberedContents) → ((n : ℕ) (x : Contents) → table_of_number tables n ≡ Some x → IsTableIn cmp files n x) → (metas : List FileMeta) (some : List NumberedContents) → AreFound cmp files (numbers_in metas) some
      → ((n : ℕ) → Contains (numbers_in metas) n → (x : Contents) × (table_of_number tables n ≡ Some x)) → sizes_in tables metas ≡ entry_count some
  counted tables at [] [] h each = refl
  counted tables at [] (t ∷ some) h each = absurd h
  counted tables at (f ∷ metas) [] h each = absurd h
  counted tables at (f ∷ metas) (t ∷ some) h each =
      let found = each f.number (first_in f.number (numbers_in metas)) in
      let same : found.0 ≡ t.contents = one_table cmp files f.number found.0 t.contents (at f.number found.0 found.1) h.0.1 in
      let own : size_in tables f ≡ length t.contents.entries = ap (λ (es : List Entry). length es) (entries_are tables f.number found.0 found.1 ∙ ap (λ (c : Contents). c.entries) same) in
      ap₂ (λ (a b : ℕ). a + b) own (counted tables at metas some h.1 (λ n there. each n (later_in f.number (numbers_in metas) n there)))
      ∙ sym (length-append t.contents.entries (flat_map (λ (t : NumberedContents). t.contents.entries) some))

-- ---- the whole

module _ (cmp : List ℕ → List ℕ → Ordering) (total : IsTotalOrder cmp) (files : Files) (v : State) (standing : List FileMeta) (stand : AreStandingFiles cmp v standing) where
  -- the tables that files hold, of a version that is lawful with some
  pub lawless : NoTablesFall cmp files v.next_file standing → IsLawlessIn cmp files v
  lawless never loaded tables there read lawful =
      let is = (stand.lawful tables).0 lawful in
      never tables (record { read = found_at cmp files (file_numbers cmp v) tables (found_tables cmp files (file_numbers cmp v) loaded tables there read); stated = is.0 }) is.1

  pub all_sound : (boundaries : List (List ℕ)) (count : ℕ) → IsCover cmp boundaries → AreRangesSound cmp files v.next_file standing boundaries (length boundaries + 1) count → IsLawfulIn cmp files v count
  all_sound boundaries count cover sound =
      record {
        loaded = made.loaded;
        tables = made.tables;
        there = subst (λ (ns : List ℕ). AllZip (IsTableOf (IsFileIn files)) ns made.loaded) (sym (all_numbers cmp v)) made.there;
        read = made.read;
        lawful = (stand.lawful made.tables).1 (each_stated, fall_in_each cmp boundaries cover (entries_of_lists (lists_of_files made.tables standing)) (λ i le. sound.falls i (below i le) made.tables are));
        is = sound.is made.tables are ∙ counted_all cmp total boundaries made.tables cover standing ∙ sizes_moved made.tables (all_metas cmp v) standing stand.permutation
            ∙ counted cmp files made.tables at_number (all_metas cmp v) made.tables found_all (some_found cmp files (numbers_in (all_metas cmp v)) made.tables found_all);
      }
    where
      below : (i : ℕ) → i ≤ length boundaries → i < length boundaries + 1
      below i le = omega arith

      stated_at : (f : FileMeta) → Contains standing f → IsStatedIn cmp files v.next_file f
      stated_at f at =
          let one = cover.each_once (user_of f.smallest) in
          sound.stated one.number (below one.number one.below) f at (starts_needed cmp total (range_at boundaries one.number) f (starts_where cmp total (range_at boundaries one.number) f one.within))

      made : Built cmp files (all_metas cmp v)
      made = built cmp files (all_metas cmp v) (λ f at. let s = stated_at f (Contains-permutation (all_metas cmp v) standing f stand.permutation at) in (s.contents, s.there))

      found_all : AreFound cmp files (numbers_in (all_metas cmp v)) made.tables
      found_all = found_tables cmp files (numbers_in (all_metas cmp v)) made.loaded made.tables made.there made.read

      at_number : (n : ℕ) (x : Contents) → table_of_number made.tables n ≡ Some x → IsTableIn cmp files n x
      at_number n x h = found_at cmp files (numbers_in (all_metas cmp v)) made.tables found_all n x h

      each_stated : All (IsStatedFile cmp made.tables v.next_file) standing
      each_stated k d lt =
          let f = get_or standing k d in
          let s = stated_at f (Contains-get_or standing k d lt) in
          let among : Contains (all_metas cmp v) f = Contains-permutation standing (all_metas cmp v) f (IsPermutation-sym (all_metas cmp v) standing stand.permutation) (Contains-get_or standing k d lt) in
          let found = some_found cmp files (numbers_in (all_metas cmp v)) made.tables found_all f.number (in_map (λ (g : FileMeta). g.number) (all_metas cmp v) f among) in
          let same : found.0 ≡ s.contents = one_table cmp files f.number found.0 s.contents (at_number f.number found.0 found.1) s.there in
          stated_among cmp v.next_file made.tables f s.contents s.stated (found.1 ∙ ap (λ (c : Contents). Some c) same)

      are : AreTablesIn cmp files v.next_file standing made.tables
      are = record { read = at_number; stated = each_stated }

-- each file of a version has a table among those that were read
pub all_there : (cmp : List ℕ → List ℕ → Ordering) (files : Files) (v : State) (loaded : List (ℕ × List ℕ)) (tables : List NumberedContents) → AreAllAdded cmp v
    → IsLoaded (IsFileIn files) (file_numbers cmp v) (Ok loaded) → tables_reading cmp loaded ≡ Ok tables → tables_test tables v.files ≡ Ok tt
all_there cmp files v loaded tables added there read =
    ap (λ (b : Bool). if b then Ok tt else Err (fault Missing)) (all_of (λ (f : NewFile). is_some (table_of_number tables f.meta.number)) v.files each)
  where
    each : (f : NewFile) → Contains v.files f → is_some (table_of_number tables f.meta.number) ≡ true
    each f at =
        let among : Contains (file_numbers cmp v) f.meta.number = subst (λ (ns : List ℕ). Contains ns f.meta.number) (sym (all_numbers cmp v))
        (in_map (λ (g : FileMeta). g.number) (all_metas cmp v) f.meta (in_map (λ (g : NewFile). g.meta) (added_from cmp v.files 0 7) f (added f at))) in
        let found = some_found cmp files (file_numbers cmp v) tables (found_tables cmp files (file_numbers cmp v) loaded tables there read) f.meta.number among in
        ap is_some found.1
