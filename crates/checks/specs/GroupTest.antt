-- The test of a version in ranges of user keys, one after the other.
use Rattle.std.specs.Prelude.{◌≡◌, ℕ, zero, suc, ◌+◌, ◌<◌, true, List, [], ◌∷◌, map, length}
use Rattle.std.specs.Prelude.{Option, Some, None, Result, Ok, Err, Contains, if◌then◌else◌}
use Rattle.std.specs.List.{All, AllZip}
use Rattle.ikey.specs.fault.Fault.{Fault}
use Rattle.ikey.specs.Comparator.{KeyOrder}
use Rattle.table.specs.EncodedEntry.{Entry}
use Rattle.table.specs.TableContents.{Contents}
use Rattle.reads.specs.MergedLists.{entries_of_lists}
use Rattle.split.specs.Ranges.{KeyRange, IsIn, range_at}
use Rattle.folder.specs.Version.{State}
use Rattle.folder.specs.meta.FileMeta.{FileMeta}
use Rattle.folder.specs.Calls.{Files}
use Rattle.folder.specs.Levels.{file_numbers}
use Rattle.folder.specs.LoadedTables.{IsLoaded}
use Rattle.folder.specs.ReadsAs.{IsFileIn}
use Rattle.reads.specs.Lawful.{IsLawful}
use Rattle.reads.specs.StatedFiles.{IsStatedFile}
use Rattle.reads.specs.TableOrder.{AreAllAdded, AreFalling, AreFallingIn, lists_of_files}
use Rattle.reads.specs.Tables.{NumberedContents, table_of_number, table_entries}
use Rattle.checks.specs.TableReadings.{tables_reading}
use Rattle.checks.specs.HeldTables.{IsTableIn}
use Rattle.checks.specs.NeededFiles.{is_file_needed}
use Rattle.checks.specs.FileStarts.{starts_in}
use Rattle.checks.specs.TestedTables.{entry_count}

-- ---- tables by themselves

-- a table alone, under the number of a file
abbrev pub alone : FileMeta → Contents → List NumberedContents
alone f x = record { number = f.number; contents = x } ∷ []

-- a table is what the version states of a file
abbrev pub IsStatedBy : KeyOrder → Option ℕ → FileMeta → Contents → Type 0
IsStatedBy cmp next f x = IsStatedFile cmp (alone f x) next f

-- the entries of a table, if its file begins in a range; else none
abbrev pub count_of : KeyOrder → KeyRange → FileMeta → Contents → ℕ
count_of cmp range f x = if starts_in cmp range f then length x.entries else 0

-- what the test of one file's table finds: how many entries it counts for a range; None if the
-- table isn't what the version states
abbrev pub IsFileCount : KeyOrder → Option ℕ → KeyRange → FileMeta → Contents → Option ℕ → Type 0
IsFileCount cmp next range f x None = IsStatedBy cmp next f x → ⊥
IsFileCount cmp next range f x (Some count) = IsStatedBy cmp next f x
    × (count ≡ count_of cmp range f x)

-- ---- the tables that a range needs

-- each file's table is what the version states
abbrev pub AreStatedBy : KeyOrder → Option ℕ → List FileMeta → List Contents → Type 0
AreStatedBy cmp next metas tables = AllZip (IsStatedBy cmp next) metas tables

-- how many entries the tables of the files have that begin in a range
abbrev pub counts_of : KeyOrder → KeyRange → List FileMeta → List Contents → ℕ
counts_of cmp range [] tables = 0
counts_of cmp range (f ∷ metas) [] = 0
counts_of cmp range (f ∷ metas) (x ∷ tables) =
    count_of cmp range f x + counts_of cmp range metas tables

-- the same of all files
abbrev pub IsFileCounts : KeyOrder → Option ℕ → KeyRange → List FileMeta → List Contents →
    Option ℕ → Type 0
IsFileCounts cmp next range metas tables None = AreStatedBy cmp next metas tables → ⊥
IsFileCounts cmp next range metas tables (Some count) = AreStatedBy cmp next metas tables
    × (count ≡ counts_of cmp range metas tables)

-- what tables hold
abbrev pub contents_of_all : List NumberedContents → List Contents
contents_of_all tables = map (λ (t : NumberedContents). t.contents) tables

-- the entries of tables, one after the other
abbrev pub entries_of_all : List NumberedContents → List Entry
entries_of_all tables = entries_of_lists (map (λ (t : NumberedContents). t.contents.entries) tables)

-- Tables are what the version states of these files. In a range, the sequences of each user key
-- decrease through them. `count` is the number of entries of those whose files begin in the range.
pub record IsWalked (cmp : KeyOrder) (next : Option ℕ) (range : KeyRange) (metas : List FileMeta)
    (tables : List NumberedContents) (count : ℕ) : Type 0 where
  pub stated : AreStatedBy cmp next metas (contents_of_all tables)
  pub falls : AreFallingIn (IsIn cmp range) (entries_of_all tables)
  pub is : count ≡ counts_of cmp range metas (contents_of_all tables)

-- What a walk over the tables of files finds: how many entries they count for a range. None if the
-- tables are not what the version states, or their entries don't fall.
abbrev pub IsWalkAnswer : KeyOrder → Option ℕ → KeyRange → List FileMeta → List NumberedContents →
    Option ℕ → Type 0
IsWalkAnswer cmp next range metas tables (Some count) = IsWalked cmp next range metas tables count
IsWalkAnswer cmp next range metas tables None =
    AreStatedBy cmp next metas (contents_of_all tables) →
    AreFallingIn (IsIn cmp range) (entries_of_all tables) → ⊥

-- ---- a version, by all its files as they stand

-- these tables are among the files, and each standing file's table is what the version states
pub record AreTablesIn (cmp : KeyOrder) (files : Files) (next : Option ℕ) (standing : List FileMeta)
    (tables : List NumberedContents) : Type 0 where
  pub read : (number : ℕ) (x : Contents) → table_of_number tables number ≡ Some x →
      IsTableIn cmp files number x
  pub stated : All (IsStatedFile cmp tables next) standing

-- a file's table is among the files, and is what the version states
pub record IsStatedIn (cmp : KeyOrder) (files : Files) (next : Option ℕ) (f : FileMeta)
    : Type 0 where
  pub contents : Contents
  pub there : IsTableIn cmp files f.number contents
  pub stated : IsStatedBy cmp next f contents

-- how many entries the tables of the standing files have that begin in a range
abbrev pub count_in : KeyOrder → KeyRange → List NumberedContents → List FileMeta → ℕ
count_in cmp range tables [] = 0
count_in cmp range tables (f ∷ standing) =
    (if starts_in cmp range f then length (table_entries tables f.number) else 0)
    + count_in cmp range tables standing

-- The tables that a range needs are what the version states, and of each user key of the range the
-- sequences fall through all tables. This many entries have those that begin in it.
pub record IsRangeSound (cmp : KeyOrder) (files : Files) (next : Option ℕ)
    (standing : List FileMeta) (range : KeyRange) (count : ℕ) : Type 0 where
  pub stated : (f : FileMeta) → Contains standing f → is_file_needed cmp range f ≡ true →
      IsStatedIn cmp files next f
  pub falls : (tables : List NumberedContents) → AreTablesIn cmp files next standing tables →
      AreFallingIn (IsIn cmp range) (entries_of_lists (lists_of_files tables standing))
  pub is : (tables : List NumberedContents) → AreTablesIn cmp files next standing tables →
      count ≡ count_in cmp range tables standing

-- with no tables among the files do the sequences of each user key fall
abbrev pub NoTablesFall : KeyOrder → Files → Option ℕ → List FileMeta → Type 0
NoTablesFall cmp files next standing =
    (tables : List NumberedContents) → AreTablesIn cmp files next standing tables →
    AreFalling (entries_of_lists (lists_of_files tables standing)) → ⊥

-- what the test of a range answers; None if the version isn't lawful
abbrev pub IsRangeAnswer : KeyOrder → Files → Option ℕ → List FileMeta → KeyRange →
    Result (Option ℕ) Fault → Type 0
IsRangeAnswer cmp files next standing range (Ok (Some count)) =
    IsRangeSound cmp files next standing range count
IsRangeAnswer cmp files next standing range (Ok None) = NoTablesFall cmp files next standing
IsRangeAnswer cmp files next standing range (Err e) = ⊥

-- how many entries the tables have that begin in the first n ranges
abbrev pub count_below : KeyOrder → List (List ℕ) → List NumberedContents → List FileMeta → ℕ → ℕ
count_below cmp boundaries tables standing zero = 0
count_below cmp boundaries tables standing (suc n) =
    count_below cmp boundaries tables standing n
    + count_in cmp (range_at boundaries n) tables standing

-- the first n ranges are sound
pub record AreRangesSound (cmp : KeyOrder) (files : Files) (next : Option ℕ)
    (standing : List FileMeta) (boundaries : List (List ℕ)) (n count : ℕ) : Type 0 where
  pub stated : (i : ℕ) → i < n → (f : FileMeta) → Contains standing f →
      is_file_needed cmp (range_at boundaries i) f ≡ true → IsStatedIn cmp files next f
  pub falls : (i : ℕ) → i < n → (tables : List NumberedContents) →
      AreTablesIn cmp files next standing tables →
      AreFallingIn (IsIn cmp (range_at boundaries i))
      (entries_of_lists (lists_of_files tables standing))
  pub is : (tables : List NumberedContents) → AreTablesIn cmp files next standing tables →
      count ≡ count_below cmp boundaries tables standing n

-- what the test of all ranges between boundaries answers; None if the version isn't lawful
abbrev pub IsRangesAnswer : KeyOrder → Files → Option ℕ → List FileMeta → List (List ℕ) →
    Result (Option ℕ) Fault → Type 0
IsRangesAnswer cmp files next standing boundaries (Ok (Some count)) =
    AreRangesSound cmp files next standing boundaries (length boundaries + 1) count
IsRangesAnswer cmp files next standing boundaries (Ok None) = NoTablesFall cmp files next standing
IsRangesAnswer cmp files next standing boundaries (Err e) = ⊥

-- ---- a version

-- a version is lawful with the tables that files hold; these have this many entries
pub record IsLawfulIn (cmp : KeyOrder) (files : Files) (v : State) (count : ℕ) : Type 0 where
  pub loaded : List (ℕ × List ℕ)
  pub tables : List NumberedContents
  pub there : IsLoaded (IsFileIn files) (file_numbers cmp v) (Ok loaded)
  pub read : tables_reading cmp loaded ≡ Ok tables
  pub lawful : IsLawful cmp v tables
  pub is : count ≡ entry_count tables

-- a version isn't lawful with the tables that files hold
abbrev pub IsLawlessIn : KeyOrder → Files → State → Type 0
IsLawlessIn cmp files v =
    (loaded : List (ℕ × List ℕ)) (tables : List NumberedContents) →
    IsLoaded (IsFileIn files) (file_numbers cmp v) (Ok loaded) →
    tables_reading cmp loaded ≡ Ok tables → IsLawful cmp v tables → ⊥

-- what the test of all ranges answers
abbrev pub IsSweepAnswer : KeyOrder → Files → State → Result (Option ℕ) Fault → Type 0
IsSweepAnswer cmp files v (Ok (Some count)) = IsLawfulIn cmp files v count
IsSweepAnswer cmp files v (Ok None) = IsLawlessIn cmp files v × AreAllAdded cmp v
IsSweepAnswer cmp files v (Err e) = ⊥
