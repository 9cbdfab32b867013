-- How much the levels of a version have, with the tables of a folder.
use Rattle.std.specs.Prelude.{ℕ, ◌≤◌, ◌-◌, ◌^◌, List, length, map, Option}
use Rattle.std.specs.List.{flat_map}
use Rattle.table.specs.Comparator.{KeyOrder}
use Rattle.block.specs.EncodedEntry.{Entry}
use Rattle.folder.specs.Version.{State}
use Rattle.folder.specs.meta.FileMeta.{FileMeta}
use Rattle.folder.specs.Calls.{Files}
use Rattle.merge.specs.MergedLists.{entries_of_lists}
use Rattle.reads.specs.TableOrder.{AreAllAdded, AreStandingFiles}
use Rattle.reads.specs.Tables.{NumberedContents}
use Rattle.checks.specs.GroupTest.{AreTablesIn}
use Rattle.scan.specs.Counts.{AreOnce}
use Rattle.scan.specs.Stats.{entries_of_files}

-- the files of levels, one level after the other
abbrev pub files_of_levels : List (List FileMeta) → List FileMeta
files_of_levels levels = flat_map (λ files. files) levels

-- the entries of the tables of each level's files
abbrev pub lists_of_levels : List NumberedContents → List (List FileMeta) → List (List Entry)
lists_of_levels tables levels = map (entries_of_files tables) levels

-- the same, one level after the other
abbrev pub all_of_levels : List NumberedContents → List (List FileMeta) → List Entry
all_of_levels tables levels = entries_of_lists (lists_of_levels tables levels)

-- These tables are among the files, and each file's table is what the version states. No user key
-- has one sequence twice in them. The numbers of files and of entries fit.
pub record AreLevelsIn (cmp : KeyOrder) (files : Files) (next : Option ℕ)
    (levels : List (List FileMeta)) (tables : List NumberedContents) : Type 0 where
  pub tables_in : AreTablesIn cmp files next (files_of_levels levels) tables
  pub once : AreOnce (all_of_levels tables levels)
  pub few : length (files_of_levels levels) ≤ 2 ^ 64 - 1
  pub room : length (all_of_levels tables levels) ≤ 2 ^ 128 - 1

-- All files of a version, those with newer entries first. They are at most 2 ^ 64 - 1.
pub record IsFewStanding (cmp : KeyOrder) (v : State) : Type 0 where
  pub standing : List FileMeta
  pub stand : AreStandingFiles cmp v standing
  pub added : AreAllAdded cmp v
  pub few : length standing ≤ 2 ^ 64 - 1
