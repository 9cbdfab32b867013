-- Reading a log from the front, with the first test that fails.
use Rattle.std.specs.Prelude.{ℕ, zero, suc, ◌+◌, ◌-◌, nat_eq, nat_lt, Bool, true, false, ◌==◌, ◌||◌}
use Rattle.std.specs.Prelude.{◌&&◌, if◌then◌else◌, List, [], ◌∷◌, ◌++◌, length, map, take, drop}
use Rattle.std.specs.Prelude.{slice_index, Result, Ok, Err}
use Rattle.std.specs.Global.{Vec}
use Rattle.std.specs.List.{starts_with}
use Rattle.byteorder.specs.Endian.{little_number}
use Rattle.coding.specs.Answers.{fault, ◌>>=◌}
use Rattle.coding.specs.declared.fault.Fault.{Fault}
use Rattle.coding.specs.declared.fault.FaultName.TheVariants.{LogChecksum, LogShape}
use Rattle.logrec.specs.Log.{zeros_due, room_at, fragment_type, checksum}
use Rattle.logrec.specs.declared.format.TheConstants.{HEADER_LEN, MAX_CONTENT_LEN}

-- a fragment that was read, and the bytes after it
pub record FragmentReading : Type 0 where
  pub kind : ℕ
  pub content : List ℕ
  pub rest : List ℕ

-- the length that a header states
abbrev pub content_len : List ℕ → ℕ
content_len bytes = little_number 2 (drop 4 bytes)

-- The fragment at the front, by three tests: its header is whole; its content lies within the block
-- and the bytes; its checksum is right.
unfoldable pub fragment_reading : ℕ → List ℕ → Result FragmentReading Fault
fragment_reading room bytes =
    if nat_lt (length bytes) HEADER_LEN then Err (fault LogShape)
    else if nat_lt room (content_len bytes) then Err (fault LogShape)
    else if nat_lt (length (drop HEADER_LEN bytes)) (content_len bytes) then Err (fault LogShape)
    else if little_number 4 bytes ==
    checksum (slice_index bytes 6) (take (content_len bytes) (drop HEADER_LEN bytes))
    then Ok (record {
      kind = slice_index bytes 6;
      content = take (content_len bytes) (drop HEADER_LEN bytes);
      rest = drop (content_len bytes) (drop HEADER_LEN bytes);
    })
    else Err (fault LogChecksum)

-- whether a fragment ends its record; LogShape if a writer with this room would not have written it
-- there
unfoldable pub ends_record : Bool → ℕ → ℕ → ℕ → Result Bool Fault
ends_record begins room kind len =
    if kind == fragment_type begins true && (begins || nat_lt 0 len) then Ok true
    else if kind == fragment_type begins false && len == room then Ok false
    else Err (fault LogShape)

-- the rest of a record, in at most n fragments, and the bytes after it
unfoldable pub left_at : ℕ → Bool → ℕ → List ℕ → Result (List ℕ × List ℕ) Fault
left_at zero begins room bytes = Err (fault LogShape)
left_at (suc n) begins room bytes = do
  first ← fragment_reading room bytes
  ends ← ends_record begins room first.kind (length first.content)
  if ends then Ok (first.content, first.rest) else (left_at n false MAX_CONTENT_LEN first.rest >>=
      λ others. Ok (first.content ++ others.0, others.1))

-- the bytes after the zeros that are due
unfoldable pub after_zeros : ℕ → List ℕ → Result (List ℕ) Fault
after_zeros offset bytes =
    if starts_with nat_eq bytes (zeros_due offset) then Ok (drop (length (zeros_due offset)) bytes)
    else Err (fault LogShape)

-- the record at an offset, and the bytes after it
unfoldable pub record_at : ℕ → List ℕ → Result (List ℕ × List ℕ) Fault
record_at offset bytes = do
  body ← after_zeros offset bytes
  left_at (length body) true (room_at offset) body

-- at most n records from an offset on, up to the end of the bytes
unfoldable pub records_in : ℕ → ℕ → List ℕ → Result (List (List ℕ)) Fault
records_in n offset [] = Ok []
records_in zero offset (b ∷ bytes) = Ok []
records_in (suc n) offset (b ∷ bytes) = do
  first ← record_at offset (b ∷ bytes)
  others ← records_in n (offset + (length (b ∷ bytes) - length first.1)) first.1
  Ok (first.0 ∷ others)

-- the records of which the bytes are the log, or the first test that fails
unfoldable pub records_of : List ℕ → Result (List (List ℕ)) Fault
records_of bytes = records_in (length bytes) 0 bytes

-- what is still to be read of a log: what its records answer, and how many bytes there are
pub record LogRest : Type 0 where
  pub ahead : Result (List (List ℕ)) Fault
  pub left : ℕ

-- a record, and then what those after it answer
abbrev pub with_first : List ℕ → Result (List (List ℕ)) Fault → Result (List (List ℕ)) Fault
with_first r ahead = ahead >>= λ others. Ok (r ∷ others)

-- the records of the code, by their bytes
abbrev pub lists : List (Vec ℕ) → List (List ℕ)
lists records = map (λ (r : Vec ℕ). r.items) records
