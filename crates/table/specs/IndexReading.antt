-- The index of a table: for each data block a key, and where the block is.
use Rattle.std.specs.Prelude.{ℕ, ◌+◌, nat_le, if◌then◌else◌, List, [], ◌∷◌, length, take, drop}
use Rattle.std.specs.Prelude.{Option, Some, None, Result, Ok, Err}
use Rattle.coding.specs.Answers.{fault, ◌>>=◌}
use Rattle.coding.specs.declared.fault.Fault.{Fault}
use Rattle.coding.specs.declared.fault.FaultName.TheVariants.{Handle, Range}
use Rattle.block.specs.EncodedEntry.{Entry}
use Rattle.ikey.specs.Key.{internal_key_reading}
use Rattle.table.specs.declared.handle.BlockHandle.{BlockHandle}
use Rattle.table.specs.Handle.{HandleBehind, handle_reading}
use Rattle.table.specs.Trailer.{stored_reading}
use Rattle.block.specs.BlockReading.{block_reading}
use Rattle.table.specs.declared.footer.TheConstants.{FOOTER_LEN}
use Rattle.table.specs.declared.trailer.TheConstants.{TRAILER_LEN}

-- a key of the index, and the bytes of its data block as they are stored
pub record IndexEntry : Type 0 where
  pub key : List ℕ
  pub stored : List ℕ

-- the handle, if nothing comes after it
abbrev pub handle_alone : BlockHandle → List ℕ → Result BlockHandle Fault
handle_alone handle [] = Ok handle
handle_alone handle (b ∷ bytes) = Err (fault Handle)

-- the one handle that bytes are
abbrev pub one_handle : Option HandleBehind → Result BlockHandle Fault
one_handle None = Err (fault Handle)
one_handle (Some found) = handle_alone found.handle found.rest

-- The stored block that a handle points at: contents and the 5 bytes of a trailer, before the 48
-- bytes of the footer; else Range.
abbrev pub stored_at : List ℕ → BlockHandle → Result (List ℕ) Fault
stored_at bytes handle =
    if nat_le (handle.offset + handle.size + TRAILER_LEN + FOOTER_LEN) (length bytes)
    then Ok (take (handle.size + TRAILER_LEN) (drop handle.offset bytes)) else Err (fault Range)

-- the entries of a stored block, or the first test that it fails: its checksum, its type, its
-- contents
abbrev pub block_in : List ℕ → Result (List Entry) Fault
block_in stored = do
  contents ← stored_reading stored
  block_reading contents

-- an entry of the index: an internal key within its limit, and one handle of a block in the table
abbrev pub index_entry : List ℕ → Entry → Result IndexEntry Fault
index_entry bytes e = do
  key ← internal_key_reading e.key
  handle ← one_handle (handle_reading e.value)
  stored ← stored_at bytes handle
  Ok (record { key = key; stored = stored })

-- each entry of the index
abbrev pub index_reading : List ℕ → List Entry → Result (List IndexEntry) Fault
index_reading bytes [] = Ok []
index_reading bytes (e ∷ es) = do
  first ← index_entry bytes e
  others ← index_reading bytes es
  Ok (first ∷ others)
