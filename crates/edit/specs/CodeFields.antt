-- A field of the code as contracts see it.
use Rattle.edit.specs.Field.{Field, SetComparator, SetLogNumber, SetPreviousLog, SetNextFile}
use Rattle.edit.specs.Field.{SetLastSequence, SetPointer, DeleteFile, AddFile}
use Rattle.edit.specs.declared.field.Field as lent
use Rattle.edit.specs.declared.field.Field.TheVariants as lent_field
use Rattle.edit.specs.declared.meta.NewFile.{NewFile}
use Rattle.edit.specs.declared.meta.CompactPointer.{CompactPointer}
use Rattle.edit.specs.declared.field.PointerContent.{PointerContent}
use Rattle.edit.specs.declared.field.FileContent.{FileContent}

abbrev pub pointer_in : PointerContent → CompactPointer
pointer_in p = record { level = p.level; key = p.key.bytes.now }

abbrev pub file_in : FileContent → NewFile
file_in f = record {
  level = f.level;
  meta = record {
    number = f.number;
    size = f.size;
    smallest = f.smallest.bytes.now;
    largest =
        f.largest.bytes.now;
  };
}

-- the field that a field of the code stands for
abbrev pub field_in : lent.Field → Field
field_in (lent_field.Comparator name) = SetComparator name.now
field_in (lent_field.LogNumber number) = SetLogNumber number
field_in (lent_field.NextFile number) = SetNextFile number
field_in (lent_field.LastSequence number) = SetLastSequence number
field_in (lent_field.Pointer pointer) = SetPointer (pointer_in pointer)
field_in (lent_field.Deleted file) = DeleteFile file
field_in (lent_field.Added file) = AddFile (file_in file)
field_in (lent_field.PreviousLog number) = SetPreviousLog number
