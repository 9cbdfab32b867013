-- A stored block: its contents, and after them a trailer of 5 bytes. That is the type of the
-- contents, 0 as they are or 1 compressed by Snappy, and the masked CRC of contents and type, 4
-- bytes, lowest first.
use Rattle.std.specs.Prelude.{◌≡◌, ℕ, ◌-◌, ◌<◌, ◌≤◌, ◌==◌, not, if◌then◌else◌, List, [], ◌∷◌, ◌++◌}
use Rattle.std.specs.Prelude.{length, take, drop, slice_index, Result, Ok, Err}
use Rattle.byteorder.specs.Endian.{little_bytes, little_number}
use Rattle.coding.specs.Answers.{fault}
use Rattle.coding.specs.Crc.{crc32c, masked}
use Rattle.coding.specs.declared.fault.Fault.{Fault}
use Rattle.coding.specs.declared.fault.FaultName.TheVariants.{Trailer, Compressed, BlockType}
use Rattle.table.specs.declared.trailer.TheConstants.{TRAILER_LEN}

-- the trailer of contents that are stored as they are
unfoldable pub trailer_bytes : List ℕ → List ℕ
trailer_bytes contents = 0 ∷ little_bytes 4 (masked (crc32c (contents ++ 0 ∷ [])))

-- contents as they are stored
abbrev pub stored_block : List ℕ → List ℕ
stored_block contents = contents ++ trailer_bytes contents

-- The contents of a stored block, of at least 5 bytes, or the first test that fails. The tests are:
-- the checksum is that of the contents and the type, the type is not 1, and it is 0.
unfoldable pub stored_reading : List ℕ → Result (List ℕ) Fault
stored_reading bytes =
    let size = length bytes - TRAILER_LEN in
    let kind = slice_index bytes size in
    if not (little_number 4 (drop (length bytes - 4) bytes) ==
    masked (crc32c (take (length bytes - 4) bytes)))
    then Err (fault Trailer)
    else if kind == 1 then Err (fault Compressed)
    else if not (kind == 0) then Err (fault BlockType)
    else Ok (take size bytes)

-- contents that were stored are read
abbrev pub StoredLaw : Type 0
StoredLaw = (contents : List ℕ) → stored_reading (stored_block contents) ≡ Ok contents

-- contents are read only of the bytes that they are stored as
abbrev pub OnlyStoredLaw : Type 0
OnlyStoredLaw = (bytes contents : List ℕ) → TRAILER_LEN ≤ length bytes →
    ((i : ℕ) → slice_index bytes i < 256) →
    stored_reading bytes ≡ Ok contents → bytes ≡ stored_block contents
