-- Version edits: what their fields set, their bytes, and which bytes are refused.
use Rattle.std.specs.Prelude.{◌≡◌, ◌≢◌, ◌^◌, ℕ, ◌<◌, ◌≤◌, length, List, [], ◌∷◌, ◌++◌, map, fold}
use Rattle.std.specs.Prelude.{Option, Some, None, if◌then◌else◌}
use Rattle.std.specs.List.{flat_map, AllByRecursion, All}
use Rattle.std.specs.Option.{option_map, option_to_list, option_map_or, is_none, ForSome}
use Rattle.std.specs.Ordering.{nat_cmp, ordering_then}
use Rattle.std.specs.String.{string_bytes}
use Rattle.std.specs.BTreeSet.{insert_key}
use Rattle.std.specs.declared.cmp.Ordering.{Ordering}
use Rattle.coding.specs.Answers.{fault}
use Rattle.coding.specs.Varint.{varint_reading}
use Rattle.coding.specs.declared.fault.Fault.{Fault}
use Rattle.coding.specs.declared.fault.FaultName.TheVariants.{EditTag, EditField}
use Rattle.edit.specs.Field.{Field, SetComparator, SetLogNumber, SetPreviousLog, SetNextFile}
use Rattle.edit.specs.Field.{SetLastSequence, SetPointer, DeleteFile, AddFile, spelling, IsField}
use Rattle.edit.specs.Tag.{listed_tag}
use Rattle.edit.specs.declared.meta.NewFile.{NewFile}
use Rattle.edit.specs.declared.meta.CompactPointer.{CompactPointer}
use Rattle.edit.specs.declared.meta.DeletedFile.{DeletedFile}
use Rattle.edit.specs.declared.version_edit.VersionEdit.{VersionEdit}
use Rattle.edit.specs.declared.meta.TheConstants.{LAST_LEVEL}

-- an edit as contracts see it
pub record Edit : Type 0 where
  pub comparator : Option (List ℕ)
  pub log_number : Option ℕ
  pub previous_log : Option ℕ
  pub next_file : Option ℕ
  pub last_sequence : Option ℕ
  pub pointers : List CompactPointer
  -- by level and number, each once
  pub deleted : List DeletedFile
  pub added : List NewFile

-- deleted files by level, then number
abbrev pub deleted_cmp : DeletedFile → DeletedFile → Ordering
deleted_cmp a b = ordering_then (nat_cmp a.level b.level) (nat_cmp a.number b.number)

-- the edit that changes nothing
abbrev pub empty_edit : Edit
empty_edit = record {
  comparator = None;
  log_number = None;
  previous_log = None;
  next_file = None;
  last_sequence = None;
  pointers = [];
  deleted = [];
  added = [];
}

-- An edit after one more field: a name or a number replaces the earlier one, and deleted files are
-- a set.
abbrev pub with_field : Edit → Field → Edit
with_field e (SetComparator name) = record e { comparator = Some name }
with_field e (SetLogNumber number) = record e { log_number = Some number }
with_field e (SetPreviousLog number) = record e { previous_log = Some number }
with_field e (SetNextFile number) = record e { next_file = Some number }
with_field e (SetLastSequence number) = record e { last_sequence = Some number }
with_field e (SetPointer pointer) = record e { pointers = e.pointers ++ pointer ∷ [] }
with_field e (DeleteFile file) = record e { deleted = insert_key deleted_cmp e.deleted file }
with_field e (AddFile file) = record e { added = e.added ++ file ∷ [] }

-- the edit that a list of fields sets
abbrev pub edit_from : List Field → Edit
edit_from fields = fold with_field empty_edit fields

-- The bytes read as this edit: they are the spellings of some fields, one after the other, and
-- these fields set the edit.
pub record IsEdit (bytes : List ℕ) (e : Edit) : Type 0 where
  pub fields : List Field
  pub lawful : AllByRecursion IsField fields
  pub spelled : bytes ≡ flat_map spelling fields
  pub sets : edit_from fields ≡ e

-- a field that may be missing
abbrev pub optional_field : {A : Type 0} → (A → Field) → Option A → List Field
optional_field field o = map field (option_to_list o)

-- the comparator and the numbers
abbrev pub settings_of : Edit → List Field
settings_of e =
    optional_field SetComparator e.comparator
    ++ optional_field SetLogNumber e.log_number
    ++ optional_field SetPreviousLog e.previous_log
    ++ optional_field SetNextFile e.next_file
    ++ optional_field SetLastSequence e.last_sequence

-- the fields of an edit in the order in which they are written
abbrev pub fields_of : Edit → List Field
fields_of e = settings_of e ++ map SetPointer e.pointers ++ map DeleteFile e.deleted
    ++ map AddFile e.added

-- the bytes of an edit: the spellings of its fields
abbrev pub edit_bytes : Edit → List ℕ
edit_bytes e = flat_map spelling (fields_of e)

-- The fault if no field is at the front of the bytes: EditTag if a number that is no tag is there,
-- else EditField.
abbrev pub field_fault : List ℕ → Fault
field_fault bytes =
    option_map_or (λ tag. if is_none (listed_tag tag.0) then fault EditTag else fault EditField)
    (varint_reading (2 ^ 32) bytes) (fault EditField)

-- The bytes are refused with this fault: after some fields there are bytes left that begin with no
-- field.
pub record IsEditRefused (bytes : List ℕ) (e : Fault) : Type 0 where
  pub read : List Field
  pub rest : List ℕ
  pub lawful : AllByRecursion IsField read
  pub parts : bytes ≡ flat_map spelling read ++ rest
  pub some : rest ≢ []
  pub no_field : (field : Field) (behind : List ℕ) → IsField field →
      rest ≡ spelling field ++ behind → ⊥
  pub named : e ≡ field_fault rest

-- the edit of the code
abbrev pub edit_in : VersionEdit → Edit
edit_in e = record {
  comparator = option_map string_bytes e.comparator;
  log_number = e.log_number;
  previous_log = e.previous_log;
  next_file = e.next_file;
  last_sequence = e.last_sequence;
  pointers = e.pointers.items;
  deleted = e.deleted.keys;
  added = e.added.items;
}

-- each level is from 0 to 6
pub record HasValidLevels (e : Edit) : Type 0 where
  pub pointers : All (λ (pointer : CompactPointer). pointer.level ≤ LAST_LEVEL) e.pointers
  pub deleted : All (λ (file : DeletedFile). file.level ≤ LAST_LEVEL) e.deleted
  pub added : All (λ (file : NewFile). file.level ≤ LAST_LEVEL) e.added

-- the comparator's name, if there is one, has fewer than 2 ^ 32 bytes
abbrev pub HasShortName : Edit → Type 0
HasShortName e = ForSome e.comparator (λ name. length name < 2 ^ 32)
