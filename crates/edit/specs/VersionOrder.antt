-- Version order, and the edit that makes a version of an empty one.
use Rattle.std.specs.Prelude.{ℕ, zero, suc, ◌+◌, nat_eq, List, [], ◌++◌, map, filter, fold, Some}
use Rattle.std.specs.Prelude.{None}
use Rattle.std.specs.Ordering.{nat_cmp, ordering_then}
use Rattle.std.specs.BTreeSet.{insert_key}
use Rattle.std.specs.declared.cmp.Ordering.{Ordering}
use Rattle.ikey.specs.Order.{internal_cmp}
use Rattle.ikey.specs.Comparator.{KeyOrder}
use Rattle.edit.specs.Edit.{Edit}
use Rattle.edit.specs.Version.{State}
use Rattle.edit.specs.declared.meta.FileMeta.{FileMeta}
use Rattle.edit.specs.declared.meta.NewFile.{NewFile}
use Rattle.edit.specs.declared.meta.CompactPointer.{CompactPointer}
use Rattle.edit.specs.declared.meta.TheConstants.{LEVELS}

-- version order: by smallest internal key, then number
abbrev pub file_cmp : KeyOrder → FileMeta → FileMeta → Ordering
file_cmp cmp a b = ordering_then (internal_cmp cmp a.smallest b.smallest)
    (nat_cmp a.number b.number)

-- files in version order
abbrev pub in_version_order : KeyOrder → List FileMeta → List FileMeta
in_version_order cmp files = fold (insert_key (file_cmp cmp)) [] files

-- the files at a level
abbrev pub files_at : List NewFile → ℕ → List FileMeta
files_at files level =
    map (λ (f : NewFile). f.meta) (filter (λ (f : NewFile). nat_eq f.level level) files)

-- the files of a level of a version, in version order
abbrev pub level_files : KeyOrder → State → ℕ → List FileMeta
level_files cmp v level = in_version_order cmp (files_at v.files level)

-- a file as a new file of a level
abbrev pub at_level : ℕ → FileMeta → NewFile
at_level level f = record { level = level; meta = f }

-- all files of the n levels from this one on as new files, by level and in version order
unfoldable pub added_from : KeyOrder → List NewFile → ℕ → ℕ → List NewFile
added_from cmp files level zero = []
added_from cmp files level (suc n) =
    map (at_level level) (in_version_order cmp (files_at files level))
    ++ added_from cmp files (level + 1) n

-- a level and its key as a compact pointer
abbrev pub pointer_entry : ℕ × List ℕ → CompactPointer
pointer_entry p = record { level = p.0; key = p.1 }

-- The edit that makes a version of an empty one, but without its numbers. It has the comparator's
-- name, the compact pointers by level, and all files as new files, by level and in version order.
abbrev pub snapshot_of : List ℕ → KeyOrder → State → Edit
snapshot_of name cmp v = record {
  comparator = Some name;
  log_number = None;
  previous_log = None;
  next_file = None;
  last_sequence = None;
  pointers = map pointer_entry v.pointers;
  deleted = [];
  added = added_from cmp v.files 0 LEVELS;
}

-- a version without its numbers
abbrev pub unnumbered_version : State → State
unnumbered_version v = record {
  log_number = None;
  previous_log = None;
  next_file = None;
  last_sequence = None;
  pointers = v.pointers;
  files = v.files;
}
