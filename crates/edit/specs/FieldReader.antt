-- Reading one field at the front of bytes, and the bytes after it.
use Rattle.std.specs.Prelude.{ℕ, ◌^◌, nat_lt, List, length, take, drop, Option, Some, None, Result}
use Rattle.std.specs.Prelude.{Err, if◌then◌else◌}
use Rattle.std.specs.Option.{option_map, option_map_or, ok_or}
use Rattle.std.specs.Result.{is_ok}
use Rattle.std.specs.Str.{is_utf8}
use Rattle.coding.specs.Answers.{fault}
use Rattle.coding.specs.Varint.{varint_reading}
use Rattle.coding.specs.declared.fault.Fault.{Fault}
use Rattle.coding.specs.declared.fault.FaultName.TheVariants.{EditTag, EditField}
use Rattle.ikey.specs.Key.{internal_key_reading}
use Rattle.edit.specs.Field.{Field, SetComparator, SetLogNumber, SetPreviousLog, SetNextFile}
use Rattle.edit.specs.Field.{SetLastSequence, SetPointer, DeleteFile, AddFile}
use Rattle.edit.specs.Tag.{listed_tag}
use Rattle.edit.specs.declared.tag.Tag.{Tag}
use Rattle.edit.specs.declared.tag.Tag.TheVariants.{Comparator, LogNumber, NextFile, LastSequence}
use Rattle.edit.specs.declared.tag.Tag.TheVariants.{Pointer, Deleted, Added, PreviousLog}
use Rattle.edit.specs.declared.meta.TheConstants.{LAST_LEVEL}

infixl 10 ◌>>=◌
-- the ? of the logic
abbrev pub ◌>>=◌ : {A B : Type 0} → Option A → (A → Option B) → Option B
None >>= f = None
(Some x) >>= f = f x

-- a varint below the limit, and the bytes after it
unfoldable pub varint_at : ℕ → List ℕ → Option (ℕ × List ℕ)
varint_at limit bytes = option_map (λ x. (x.0, drop x.1 bytes)) (varint_reading limit bytes)

-- a length-prefixed slice
unfoldable pub slice_at : List ℕ → Option (List ℕ × List ℕ)
slice_at bytes = do
  len ← varint_at (2 ^ 32) bytes
  if nat_lt (length len.1) len.0 then None else Some (take len.0 len.1, drop len.0 len.1)

-- a level, from 0 to 6
unfoldable pub level_at : List ℕ → Option (ℕ × List ℕ)
level_at bytes = do
  level ← varint_at (2 ^ 32) bytes
  if nat_lt LAST_LEVEL level.0 then None else Some level

-- a length-prefixed text
unfoldable pub text_at : List ℕ → Option (List ℕ × List ℕ)
text_at bytes = do
  text ← slice_at bytes
  if is_utf8 text.0 then Some text else None

-- a length-prefixed internal key
unfoldable pub key_at : List ℕ → Option (List ℕ × List ℕ)
key_at bytes = do
  key ← slice_at bytes
  if is_ok (internal_key_reading key.0) then Some key else None

unfoldable pub pointer_at : List ℕ → Option (Field × List ℕ)
pointer_at bytes = do
  level ← level_at bytes
  key ← key_at level.1
  Some (SetPointer (record { level = level.0; key = key.0 }), key.1)

unfoldable pub deleted_at : List ℕ → Option (Field × List ℕ)
deleted_at bytes = do
  level ← level_at bytes
  number ← varint_at (2 ^ 64) level.1
  Some (DeleteFile (record { level = level.0; number = number.0 }), number.1)

unfoldable pub added_at : List ℕ → Option (Field × List ℕ)
added_at bytes = do
  level ← level_at bytes
  number ← varint_at (2 ^ 64) level.1
  size ← varint_at (2 ^ 64) number.1
  smallest ← key_at size.1
  largest ← key_at smallest.1
  Some (
    AddFile (record {
      level = level.0;
      meta = record {
        number = number.0;
        size = size.0;
        smallest = smallest.0;
        largest =
            largest.0;
      };
    }),
    largest.1,
  )

-- a field of one number
abbrev pub number_field : (ℕ → Field) → List ℕ → Option (Field × List ℕ)
number_field field bytes = option_map (λ x. (field x.0, x.1)) (varint_at (2 ^ 64) bytes)

-- the content of a field of this tag
abbrev pub content_at : Tag → List ℕ → Option (Field × List ℕ)
content_at Comparator bytes = option_map (λ x. (SetComparator x.0, x.1)) (text_at bytes)
content_at LogNumber bytes = number_field SetLogNumber bytes
content_at NextFile bytes = number_field SetNextFile bytes
content_at LastSequence bytes = number_field SetLastSequence bytes
content_at Pointer bytes = pointer_at bytes
content_at Deleted bytes = deleted_at bytes
content_at Added bytes = added_at bytes
content_at PreviousLog bytes = number_field SetPreviousLog bytes

-- the content after a tag's number: EditTag if the number is no tag, EditField if the content isn't
-- there
abbrev pub tagged_at : ℕ × List ℕ → Result (Field × List ℕ) Fault
tagged_at number = option_map_or (λ tag. ok_or (content_at tag number.1) (fault EditField))
    (listed_tag number.0) (Err (fault EditTag))

-- the field at the front, and the bytes after it; else EditTag or EditField
unfoldable pub field_at : List ℕ → Result (Field × List ℕ) Fault
field_at bytes = option_map_or tagged_at (varint_at (2 ^ 32) bytes) (Err (fault EditField))
