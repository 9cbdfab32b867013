-- Versions: files at their levels, counters and compact pointers; and the version after an edit.
use Rattle.std.specs.Prelude.{◌≡◌, ℕ, ◌≤◌, nat_eq, Bool, true, false, not, ◌&&◌, ◌==◌}
use Rattle.std.specs.Prelude.{if◌then◌else◌, List, [], ◌∷◌, filter, fold, Option, Some, None}
use Rattle.std.specs.Prelude.{Result, Err}
use Rattle.std.specs.List.{All, list_any, list_all}
use Rattle.std.specs.List.Sorted.{IsStrictlySortedBy}
use Rattle.std.specs.Option.{option_map, option_map_or, option_or, ok_or}
use Rattle.std.specs.Ordering.{nat_cmp}
use Rattle.std.specs.Str.{bytes_eq}
use Rattle.std.specs.Map.{lookup, keys_of}
use Rattle.std.specs.BTreeMap.{insert_entry, is_at}
use Rattle.std.specs.BTreeSet.{insert_key}
use Rattle.std.specs.declared.cmp.Ordering.{Ordering}
use Rattle.coding.specs.Answers.{fault}
use Rattle.coding.specs.declared.fault.Fault.{Fault}
use Rattle.coding.specs.declared.fault.FaultName.TheVariants.{Comparator, Apply}
use Rattle.edit.specs.Edit.{Edit}
use Rattle.edit.specs.declared.meta.NewFile.{NewFile}
use Rattle.edit.specs.declared.meta.CompactPointer.{CompactPointer}
use Rattle.edit.specs.declared.meta.DeletedFile.{DeletedFile}
use Rattle.edit.specs.declared.meta.TheConstants.{LAST_LEVEL}

-- a version as contracts see it
pub record State : Type 0 where
  pub log_number : Option ℕ
  pub previous_log : Option ℕ
  pub next_file : Option ℕ
  pub last_sequence : Option ℕ
  -- a level and its key, by level, each level once
  pub pointers : List (ℕ × List ℕ)
  -- by number, each number once
  pub files : List NewFile

-- no file, no number, no pointer
abbrev pub empty_state : State
empty_state = record {
  log_number = None;
  previous_log = None;
  next_file = None;
  last_sequence = None;
  pointers = [];
  files = [];
}

-- the compact pointer of a level; None if none was set
abbrev pub pointer_of : State → ℕ → Option (List ℕ)
pointer_of v level = lookup (is_at (nat_cmp level)) v.pointers

-- a file's level and number
abbrev pub place_of : NewFile → DeletedFile
place_of f = record { level = f.level; number = f.meta.number }

abbrev pub is_same_place : DeletedFile → DeletedFile → Bool
is_same_place a b = a.level == b.level && a.number == b.number

-- whether a deletion names the file
abbrev pub is_deleted : List DeletedFile → NewFile → Bool
is_deleted deleted f = list_any (is_same_place (place_of f)) deleted

-- the files that no deletion names
abbrev pub undeleted_files : List DeletedFile → List NewFile → List NewFile
undeleted_files deleted files = filter (λ f. not (is_deleted deleted f)) files

-- whether there is a file of this level and number
abbrev pub has_place : List NewFile → DeletedFile → Bool
has_place files place = list_any (λ f. is_same_place (place_of f) place) files

-- whether there is a file of this number
abbrev pub has_number : List NewFile → ℕ → Bool
has_number files number = list_any (λ f. nat_eq number f.meta.number) files

-- whether no two files have one number
abbrev pub are_apart : List NewFile → Bool
are_apart [] = true
are_apart (f ∷ files) = not (has_number files f.meta.number) && are_apart files

-- whether the new files have numbers apart from each other and from those that are there
abbrev pub are_new : List NewFile → List NewFile → Bool
are_new files added = are_apart added && not (list_any (λ f. has_number added f.meta.number) files)

-- files by number
abbrev pub number_cmp : NewFile → NewFile → Ordering
number_cmp a b = nat_cmp a.meta.number b.meta.number

-- files by number, with one more in its place
abbrev pub with_file : List NewFile → NewFile → List NewFile
with_file files f = insert_key number_cmp files f

-- The files after an edit: those that no deletion names, and the new ones. There are none if
-- - a deletion names no file of its level,
-- - two new files have one number, or
-- - a new file has the number of one that stays.
abbrev pub files_after : List NewFile → List DeletedFile → List NewFile → Option (List NewFile)
files_after files deleted added =
    if list_all (has_place files) deleted && are_new (undeleted_files deleted files) added
    then Some (fold with_file (undeleted_files deleted files) added) else None

-- the pointers after a new one, which replaces that of its level
abbrev pub with_pointer : List (ℕ × List ℕ) → CompactPointer → List (ℕ × List ℕ)
with_pointer pointers pointer = insert_entry nat_cmp pointers pointer.level pointer.key

-- The version after an edit: files are deleted, new files are put in, and numbers and pointers that
-- the edit sets are replaced. None if the edit doesn't fit.
abbrev pub applied : State → Edit → Option State
applied v e =
    option_map (λ files. record {
      log_number = option_or e.log_number v.log_number;
      previous_log = option_or e.previous_log v.previous_log;
      next_file = option_or e.next_file v.next_file;
      last_sequence = option_or e.last_sequence v.last_sequence;
      pointers = fold with_pointer v.pointers e.pointers;
      files = files;
    }) (files_after v.files e.deleted e.added)

-- whether an edit names another comparator than the one of this name
abbrev pub names_another : List ℕ → Edit → Bool
names_another name e = option_map_or (λ other. not (bytes_eq other name)) e.comparator false

-- the version after an edit, by the comparator of this name: Comparator if it names another, else
-- Apply if it doesn't fit
abbrev pub applied_by : List ℕ → State → Edit → Result State Fault
applied_by name v e = if names_another name e then Err (fault Comparator) else ok_or (applied v e)
    (fault Apply)

-- the levels of files and pointers are from 0 to 6
pub record AreLevelled (pointers : List (ℕ × List ℕ)) (files : List NewFile) : Type 0 where
  pub file_levels : All (λ (f : NewFile). f.level ≤ LAST_LEVEL) files
  pub pointer_levels : All (λ (level : ℕ). level ≤ LAST_LEVEL) (keys_of pointers)

-- What holds of each version. Files rise by number, so no two have one number. Pointers rise by
-- level, so a level has at most one. Levels are from 0 to 6.
pub record IsState (pointers : List (ℕ × List ℕ)) (files : List NewFile) : Type 0 where
  pub files_rise : IsStrictlySortedBy number_cmp files
  pub apart : are_apart files ≡ true
  pub pointers_rise : IsStrictlySortedBy nat_cmp (keys_of pointers)
  pub levels : AreLevelled pointers files
