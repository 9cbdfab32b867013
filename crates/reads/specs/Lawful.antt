-- Lawful versions.
use Rattle.std.specs.Prelude.{◌≡◌, ◌≢◌, ◌⊎◌, ℕ, ◌-◌, ◌<◌, true, List, length, slice_get, Option}
use Rattle.std.specs.Prelude.{Some, None, Ok, Err, Contains, AllPairs}
use Rattle.std.specs.List.{All}
use Rattle.std.specs.Option.{option_map}
use Rattle.std.specs.declared.cmp.Ordering.TheVariants.{Less}
use Rattle.ikey.specs.Answers.{fault}
use Rattle.ikey.specs.fault.Fault.{Fault}
use Rattle.ikey.specs.fault.FaultName.TheVariants.{Lawless}
use Rattle.ikey.specs.Key.{IsInternalKey, user_of, sequence_of}
use Rattle.ikey.specs.Order.{internal_cmp}
use Rattle.ikey.specs.Comparator.{KeyOrder}
use Rattle.table.specs.EncodedEntry.{Entry}
use Rattle.table.specs.TableContents.{Contents, contents_reading}
use Rattle.table.specs.EntriesFrom.{EntriesRise}
use Rattle.edit.specs.Version.{State, are_apart}
use Rattle.edit.specs.declared.meta.FileMeta.{FileMeta}
use Rattle.edit.specs.declared.meta.NewFile.{NewFile}
use Rattle.reads.specs.Tables.{NumberedContents, table_of_number, table_entries, all_entries}
use Rattle.reads.specs.Tables.{tables_test}

-- A file's table is there and accepted: its bytes read as just that table, and its internal keys
-- rise strictly. Its length, first and last key are those that the version states.
pub record IsFileOf (cmp : KeyOrder) (tables : List NumberedContents) (f : FileMeta) : Type 0 where
  pub table : Contents
  pub there : table_of_number tables f.number ≡ Some table
  pub accepted : contents_reading cmp table.bytes ≡ Ok table
  pub keys : All (λ e. IsInternalKey e.key) table.entries
  pub rising : EntriesRise cmp table.entries
  pub size : f.size ≡ length table.bytes
  pub smallest : option_map (λ e. e.key) (slice_get table.entries 0) ≡ Some f.smallest
  pub largest : option_map (λ e. e.key) (slice_get table.entries (length table.entries - 1))
      ≡ Some f.largest

-- the number is below next file; no number is if next file was never set
abbrev pub IsBelowNextFile : Option ℕ → ℕ → Type 0
IsBelowNextFile None number = ⊥
IsBelowNextFile (Some next) number = number < next

-- the ranges of internal keys of two files are disjoint
abbrev pub AreDisjoint : KeyOrder → FileMeta → FileMeta → Type 0
AreDisjoint cmp f g = (internal_cmp cmp f.largest g.smallest ≡ Less)
    ⊎ (internal_cmp cmp g.largest f.smallest ≡ Less)

-- two entries don't have one user key and one sequence
abbrev pub AreDistinct : Entry → Entry → Type 0
AreDistinct a b = user_of a.key ≡ user_of b.key → sequence_of a.key ≢ sequence_of b.key

-- of one user key, each newer entry has a greater sequence than each older one
abbrev pub AreNewer : List Entry → List Entry → Type 0
AreNewer newer older =
    All (λ a. All (λ b. user_of a.key ≡ user_of b.key → sequence_of b.key < sequence_of a.key)
    older) newer

-- a file is above another: at a shallower level, or both at level 0 and it has the higher number
abbrev pub StandsAbove : NewFile → NewFile → Type 0
StandsAbove f g = (f.level < g.level)
    ⊎ ((f.level ≡ 0) × (g.level ≡ 0) × (g.meta.number < f.meta.number))

-- A version is lawful with these tables:
-- - each file's table is accepted and is what the version states of it;
-- - each number is there once, and is below next file;
-- - the files of each level from 1 on have disjoint ranges of internal keys;
-- - no user key has one sequence twice in all tables;
-- - of one user key, the entries of a file have greater sequences than those of each file that it
--   is above.
pub record IsLawful (cmp : KeyOrder) (v : State) (tables : List NumberedContents) : Type 0 where
  pub files : All (λ f. IsFileOf cmp tables f.meta) v.files
  pub apart : are_apart v.files ≡ true
  pub below_next : All (λ f. IsBelowNextFile v.next_file f.meta.number) v.files
  pub disjoint : (f g : NewFile) → Contains v.files f → Contains v.files g → f.level ≡ g.level →
      0 < f.level → f.meta.number ≢ g.meta.number → AreDisjoint cmp f.meta g.meta
  pub sequences_once : AllPairs AreDistinct (all_entries tables v.files)
  pub newer_above : (f g : NewFile) → Contains v.files f → Contains v.files g → StandsAbove f g
      → AreNewer (table_entries tables f.meta.number) (table_entries tables g.meta.number)

-- why a version is refused: Missing if a file has no table, else Lawless if it isn't lawful
abbrev pub IsUnlawful : KeyOrder → State → List NumberedContents → Fault → Type 0
IsUnlawful cmp v tables e = (tables_test tables v.files ≡ Err e)
    ⊎ ((tables_test tables v.files ≡ Ok tt) × (e ≡ fault Lawless) × (IsLawful cmp v tables → ⊥))
