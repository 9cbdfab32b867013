-- The run of a range, in arrays.
use Rattle.std.specs.Prelude.{◌≡◌, ◌⊎◌, ℕ, nat_le, Bool, ◌&&◌, MatchBool, List, ◌++◌, drop, length}
use Rattle.std.specs.Prelude.{map, flat_map, Result, Ok, Err}
use Rattle.reads.specs.EncodedEntry.{Entry}
use Rattle.keep.specs.Runs.{Run}
use Rattle.keep.specs.declared.mark.Mark.{Mark}
use Rattle.c_api.specs.Rooms.{IsRefused}
use Rattle.c_api.specs.declared.code.TheConstants.{MEMORY, ROOM}
use Rattle.c_api.specs.declared.run_arrays.EntryLengths.{EntryLengths}
use Rattle.c_api.specs.declared.run_arrays.RunMark.{RunMark}
use Rattle.c_api.specs.declared.run_arrays.RunSize.{RunSize}

-- three arrays: of bytes, of lengths, and of marks
pub record Arrays : Type 0 where
  pub bytes : List ℕ
  pub lengths : List EntryLengths
  pub marks : List RunMark

-- arrays with these items
abbrev pub rooms : List ℕ → List EntryLengths → List RunMark → Arrays
rooms bytes lengths marks = record { bytes = bytes; lengths = lengths; marks = marks }

-- the bytes of entries: each key, and its value after it
abbrev pub bytes_of : List Entry → List ℕ
bytes_of entries = flat_map (λ (e : Entry). e.key ++ e.value) entries

-- how long the key and the value of an entry are
abbrev pub lengths_of : Entry → EntryLengths
lengths_of e = record { key = length e.key; value = length e.value }

-- a mark, as it is told
abbrev pub mark_of : Mark → RunMark
mark_of m = record { below = m.below; kept = m.kept }

-- the arrays of a run
abbrev pub arrays_of : Run → Arrays
arrays_of run = rooms (bytes_of run.kept) (map lengths_of run.kept) (map mark_of run.marks)

-- how much room arrays take
abbrev pub size_of : Arrays → RunSize
size_of a =
    record { bytes = length a.bytes; entries = length a.lengths; marks = length a.marks }

-- whether rooms are large enough for arrays
abbrev pub has_room : Arrays → Arrays → Bool
has_room rooms a = nat_le (length a.bytes) (length rooms.bytes)
    && nat_le (length a.lengths) (length rooms.lengths)
    && nat_le (length a.marks) (length rooms.marks)

-- rooms that begin with these arrays
abbrev pub rooms_with : Arrays → Arrays → Arrays
rooms_with old a = rooms (a.bytes ++ drop (length a.bytes) old.bytes)
    (a.lengths ++ drop (length a.lengths) old.lengths)
    (a.marks ++ drop (length a.marks) old.marks)

-- the call's number, the rooms and the size say these arrays: 0, and each room begins with its
-- array; or ROOM if a room is too small, and all are unchanged
abbrev pub IsRunPut : ℕ → Arrays → Arrays → RunSize → Arrays → Type 0
IsRunPut code old new size a = (size ≡ size_of a)
    × MatchBool (has_room old a) ((code ≡ 0) × (new ≡ rooms_with old a))
    ((code ≡ ROOM) × (new ≡ old))

-- they say this answer: the arrays of its run, or the refusal's number, and nothing is changed
abbrev pub IsRunWritten : ℕ → Arrays → Arrays → RunSize → RunSize → Result Run ℕ → Type 0
IsRunWritten code old new size_old size_new (Ok run) =
    IsRunPut code old new size_new (arrays_of run)
IsRunWritten code old new size_old size_new (Err n) = IsRefused code old new size_old size_new n

-- the same, or 99 for want of memory, and nothing is changed
abbrev pub IsRunWrittenOrMemory : ℕ → Arrays → Arrays → RunSize → RunSize → Result Run ℕ → Type 0
IsRunWrittenOrMemory code old new size_old size_new answer =
    IsRunWritten code old new size_old size_new answer
    ⊎ IsRefused code old new size_old size_new MEMORY
