-- The fields of a version edit, and their spelling: a tag, and then the field's content.
use Rattle.std.specs.Prelude.{ℕ, ◌<◌, ◌≤◌, ◌^◌, List, ◌++◌, length, IsUtf8}
use Rattle.coding.specs.Varint.{varint, length_prefixed}
use Rattle.ikey.specs.Key.{IsInternalKey}
use Rattle.edit.specs.Tag.{tag_number}
use Rattle.edit.specs.declared.meta.NewFile.{NewFile}
use Rattle.edit.specs.declared.meta.CompactPointer.{CompactPointer}
use Rattle.edit.specs.declared.meta.DeletedFile.{DeletedFile}
use Rattle.edit.specs.declared.tag.Tag.{Tag}
use Rattle.edit.specs.declared.tag.Tag.TheVariants.{Comparator, LogNumber, NextFile, LastSequence}
use Rattle.edit.specs.declared.tag.Tag.TheVariants.{Pointer, Deleted, Added, PreviousLog}
use Rattle.edit.specs.declared.meta.TheConstants.{LAST_LEVEL}

-- a field, by what it changes in an edit
pub data Field : Type 0 where
  SetComparator : List ℕ → Field
  SetLogNumber : ℕ → Field
  SetPreviousLog : ℕ → Field
  SetNextFile : ℕ → Field
  SetLastSequence : ℕ → Field
  SetPointer : CompactPointer → Field
  DeleteFile : DeletedFile → Field
  AddFile : NewFile → Field

-- the tag of a field
abbrev pub field_tag : Field → Tag
field_tag (SetComparator name) = Comparator
field_tag (SetLogNumber number) = LogNumber
field_tag (SetPreviousLog number) = PreviousLog
field_tag (SetNextFile number) = NextFile
field_tag (SetLastSequence number) = LastSequence
field_tag (SetPointer pointer) = Pointer
field_tag (DeleteFile file) = Deleted
field_tag (AddFile file) = Added

-- the content of a field: levels and numbers are varints, names and keys are length-prefixed
abbrev pub content : Field → List ℕ
content (SetComparator name) = length_prefixed name
content (SetLogNumber number) = varint number
content (SetPreviousLog number) = varint number
content (SetNextFile number) = varint number
content (SetLastSequence number) = varint number
content (SetPointer pointer) = varint pointer.level ++ length_prefixed pointer.key
content (DeleteFile file) = varint file.level ++ varint file.number
content (AddFile file) =
    varint file.level
    ++ (varint file.meta.number
    ++ (varint file.meta.size
    ++ (length_prefixed file.meta.smallest ++ length_prefixed file.meta.largest)))

-- a field's bytes: its tag, and then its content
abbrev pub spelling : Field → List ℕ
spelling field = varint (tag_number (field_tag field)) ++ content field

-- a field is within its limits: a name is UTF-8, a level is at most 6, and a key is an internal key
abbrev pub IsField : Field → Type 0
IsField (SetComparator name) = IsUtf8 name × (length name < 2 ^ 32)
IsField (SetLogNumber number) = number < 2 ^ 64
IsField (SetPreviousLog number) = number < 2 ^ 64
IsField (SetNextFile number) = number < 2 ^ 64
IsField (SetLastSequence number) = number < 2 ^ 64
IsField (SetPointer pointer) = (pointer.level ≤ LAST_LEVEL) × IsInternalKey pointer.key
IsField (DeleteFile file) = (file.level ≤ LAST_LEVEL) × (file.number < 2 ^ 64)
IsField (AddFile file) =
    (file.level ≤ LAST_LEVEL) × (file.meta.number < 2 ^ 64) × (file.meta.size < 2 ^ 64)
    × IsInternalKey file.meta.smallest × IsInternalKey file.meta.largest
