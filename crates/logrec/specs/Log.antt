-- The log of a list of records: blocks of 32,768 bytes, and each record in one or more fragments.
use Rattle.std.specs.Prelude.{◌≡◌, ℕ, zero, suc, ◌+◌, ◌-◌, ◌%◌, nat_lt, nat_le, Bool, true, false}
use Rattle.std.specs.Prelude.{if◌then◌else◌, List, [], ◌∷◌, ◌++◌, length, take, drop, replicate}
use Rattle.byteorder.specs.Endian.{little_bytes}
use Rattle.coding.specs.Crc.{crc32c, masked}
use Rattle.logrec.specs.declared.format.TheConstants.{BLOCK_LEN, HEADER_LEN, MAX_CONTENT_LEN}

-- how many bytes are left in the block that an offset is in
abbrev pub block_left : ℕ → ℕ
block_left offset = BLOCK_LEN - offset % BLOCK_LEN

-- the zeros that fill a block if a header of 7 bytes has no room in it
abbrev pub zeros_due : ℕ → List ℕ
zeros_due offset =
    if nat_lt (block_left offset) HEADER_LEN then replicate (block_left offset) 0 else []

-- how much of a record fits into its first fragment, after the zeros and the header
abbrev pub room_at : ℕ → ℕ
room_at offset =
    if nat_lt (block_left offset) HEADER_LEN then MAX_CONTENT_LEN
    else block_left offset - HEADER_LEN

-- the type of a fragment, by whether it begins and whether it ends its record: FULL 1, FIRST 2,
-- LAST 4, MIDDLE 3
abbrev pub fragment_type : Bool → Bool → ℕ
fragment_type true true = 1
fragment_type true false = 2
fragment_type false true = 4
fragment_type false false = 3

-- the masked CRC of a fragment's type and content
unfoldable pub checksum : ℕ → List ℕ → ℕ
checksum kind content = masked (crc32c (kind ∷ content))

-- a fragment: the checksum in 4 bytes, the length in 2, the type, and the content
unfoldable pub fragment : ℕ → List ℕ → List ℕ
fragment kind content = little_bytes 4 (checksum kind content)
    ++ (little_bytes 2 (length content) ++ kind ∷ content)

-- The rest of a record in at most n + 1 fragments. The first has this room, each later one that of
-- a whole block less the header. Each but the last fills its block.
abbrev pub fragments : ℕ → Bool → ℕ → List ℕ → List ℕ
fragments zero begins room left = fragment (fragment_type begins true) left
fragments (suc n) begins room left =
    if nat_le (length left) room
    then fragment (fragment_type begins true) left
    else fragment (fragment_type begins false) (take room left)
    ++ fragments n false MAX_CONTENT_LEN (drop room left)

-- what is written for a record at an offset, of which only its place in the block counts
unfoldable pub written_record : ℕ → List ℕ → List ℕ
written_record offset r = zeros_due offset ++ fragments (length r) true (room_at offset) r

-- what is written for records one after the other, from an offset on
abbrev pub written_records : ℕ → List (List ℕ) → List ℕ
written_records offset [] = []
written_records offset (r ∷ rs) = written_record offset r
    ++ written_records (offset + length (written_record offset r)) rs

-- the log of records, each written at the length so far
abbrev pub log : List (List ℕ) → List ℕ
log rs = written_records 0 rs

-- the log of one record more is the log, and then what is written at its length
abbrev pub AppendLaw : Type 0
AppendLaw = (rs : List (List ℕ)) (r : List ℕ) → log (rs ++ r ∷ []) ≡ log rs
    ++ written_record (length (log rs)) r

-- bytes are the log of at most one list of records
abbrev pub OneListLaw : Type 0
OneListLaw = (rs ss : List (List ℕ)) → log rs ≡ log ss → rs ≡ ss
