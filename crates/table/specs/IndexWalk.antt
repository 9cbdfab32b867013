-- What is left of a table that is being walked: entries of a data block, and then the other entries
-- of the index.
use Rattle.std.specs.Prelude.{◌≡◌, ℕ, ◌<◌, true, List, [], ◌++◌, length, drop, Result, Ok}
use Rattle.std.specs.List.{flat_map, AllByRecursion}
use Rattle.std.specs.Ordering.{is_le}
use Rattle.std.specs.Result.{result_unwrap_or}
use Rattle.coding.specs.Answers.{◌>>=◌}
use Rattle.coding.specs.declared.fault.Fault.{Fault}
use Rattle.block.specs.EncodedEntry.{Entry}
use Rattle.ikey.specs.Key.{internal_key_reading}
use Rattle.ikey.specs.Order.{internal_cmp}
use Rattle.ikey.specs.Comparator.{KeyOrder}
use Rattle.table.specs.Handle.{handle_reading}
use Rattle.table.specs.IndexReading.{one_handle, stored_at, block_in}
use Rattle.table.specs.EntriesFrom.{EntriesRise}
use Rattle.table.specs.EntryTests.{HaveKeys}

-- the entries of the data block whose handle these bytes are, or the first test that it fails
unfoldable pub block_named : List ℕ → List ℕ → Result (List Entry) Fault
block_named bytes value = do
  handle ← one_handle (handle_reading value)
  stored ← stored_at bytes handle
  block_in stored

-- the entries of the data block that an entry of the index names; none if it names none
unfoldable pub entries_named : List ℕ → Entry → List Entry
entries_named bytes i = result_unwrap_or (block_named bytes i.value) []

-- the entries of the data blocks that entries of the index name, one block after the other
abbrev pub all_named : List ℕ → List Entry → List Entry
all_named bytes index = flat_map (entries_named bytes) index

-- An entry of the index names a data block. The block has an entry, its internal keys rise
-- strictly, and none of them is above the index key.
pub record NamesBlock (cmp : KeyOrder) (bytes : List ℕ) (i : Entry) : Type 0 where
  pub key : internal_key_reading i.key ≡ Ok i.key
  pub block : block_named bytes i.value ≡ Ok (entries_named bytes i)
  pub some : 0 < length (entries_named bytes i)
  pub keys : HaveKeys (entries_named bytes i)
  pub rising : EntriesRise cmp (entries_named bytes i)
  pub within : AllByRecursion (λ e. is_le (internal_cmp cmp e.key i.key) ≡ true)
      (entries_named bytes i)

-- These entries of the index name the data blocks of the table of these entries. The index keys
-- rise strictly, and so do the entries' keys.
pub record Indexes (cmp : KeyOrder) (bytes : List ℕ) (index entries : List Entry) : Type 0 where
  pub some : 0 < length index
  pub named : AllByRecursion (NamesBlock cmp bytes) index
  pub keys_rise : EntriesRise cmp index
  pub whole : all_named bytes index ≡ entries
  pub rising : EntriesRise cmp entries

-- What is left of a table whose index is known: all its entries but the first `passed`. If nothing
-- is left of the data block, no other block is left.
pub record IsWalkLeft (cmp : KeyOrder) (bytes : List ℕ) (names block index : List Entry)
    : Type 0 where
  pub all : Indexes cmp bytes names (all_named bytes names)
  pub keys : HaveKeys block
  pub named : AllByRecursion (NamesBlock cmp bytes) index
  pub passed : ℕ
  pub behind : block ++ all_named bytes index ≡ drop passed (all_named bytes names)
  pub ended : block ≡ [] → index ≡ []
