-- The order of a version's tables, and entries that fall.
use Rattle.std.specs.Prelude.{◌≡◌, ◌↔◌, ℕ, ◌<◌, List, map, Ok, AllPairs, Contains}
use Rattle.std.specs.List.{All}
use Rattle.std.specs.List.Sorted.{IsPermutation}
use Rattle.ikey.specs.Key.{IsInternalKey, user_of, sequence_of}
use Rattle.ikey.specs.Comparator.{KeyOrder}
use Rattle.table.specs.EncodedEntry.{Entry}
use Rattle.merge.specs.MergedLists.{entries_of_lists}
use Rattle.edit.specs.Version.{State}
use Rattle.edit.specs.VersionOrder.{added_from}
use Rattle.edit.specs.declared.meta.FileMeta.{FileMeta}
use Rattle.edit.specs.declared.meta.NewFile.{NewFile}
use Rattle.edit.specs.declared.meta.TheConstants.{LEVELS}
use Rattle.reads.specs.Tables.{NumberedContents, table_entries, tables_test}
use Rattle.reads.specs.Lawful.{IsLawful}
use Rattle.reads.specs.StatedFiles.{IsStatedFile}

-- the first entry is newer: it has another user key, or a greater sequence
abbrev pub IsNewer : Entry → Entry → Type 0
IsNewer a b = user_of a.key ≡ user_of b.key → sequence_of b.key < sequence_of a.key

-- the same, of entries whose user key is of a kind
abbrev pub IsNewerIn : (List ℕ → Type 0) → Entry → Entry → Type 0
IsNewerIn P a b = P (user_of a.key) → IsNewer a b

-- the keys are internal keys, and of one user key each entry is newer than all later ones
pub record AreFalling (entries : List Entry) : Type 0 where
  pub keys : All (λ e. IsInternalKey e.key) entries
  pub newer : AllPairs IsNewer entries

-- the same, of the user keys of a kind
pub record AreFallingIn (P : List ℕ → Type 0) (entries : List Entry) : Type 0 where
  pub keys : All (λ e. P (user_of e.key) → IsInternalKey e.key) entries
  pub newer : AllPairs (IsNewerIn P) entries

-- The entries of a version's tables, those with newer entries first, and each table is what the
-- version states. So the version is lawful exactly if of each user key the sequences fall.
pub record AreStanding (cmp : KeyOrder) (v : State) (tables : List NumberedContents)
    (lists : List (List Entry)) : Type 0 where
  pub there : tables_test tables v.files ≡ Ok tt
  pub lawful : IsLawful cmp v tables ↔ AreFalling (entries_of_lists lists)

-- the version is lawful with no tables
abbrev pub IsNeverLawful : KeyOrder → State → Type 0
IsNeverLawful cmp v = (tables : List NumberedContents) → IsLawful cmp v tables → ⊥

-- the entries of the tables of files, one list for each file
abbrev pub lists_of_files : List NumberedContents → List FileMeta → List (List Entry)
lists_of_files tables files = map (λ (f : FileMeta). table_entries tables f.number) files

-- All files of a version, those with newer entries first. So the version is lawful with tables
-- exactly if each file's table is what the version states and of each user key the sequences fall.
pub record AreStandingFiles (cmp : KeyOrder) (v : State) (files : List FileMeta)
    : Type 0 where
  pub permutation : IsPermutation
      (map (λ (f : NewFile). f.meta) (added_from cmp v.files 0 LEVELS)) files
  pub lawful : (tables : List NumberedContents) → IsLawful cmp v tables
      ↔ (All (IsStatedFile cmp tables v.next_file) files
      × AreFalling (entries_of_lists (lists_of_files tables files)))

-- the files of all levels, in order, are all files of the version
abbrev pub AreAllAdded : KeyOrder → State → Type 0
AreAllAdded cmp v =
    (f : NewFile) → Contains v.files f → Contains (added_from cmp v.files 0 LEVELS) f
