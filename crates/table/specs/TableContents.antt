-- What is in a table's bytes, and the first test that other bytes fail.
use Rattle.std.specs.Prelude.{ℕ, ◌-◌, nat_le, Bool, true, ◌&&◌, not, List, [], ◌∷◌, length}
use Rattle.std.specs.Prelude.{map, drop, Option, Some, None, Result, Ok}
use Rattle.std.specs.List.{flat_map}
use Rattle.std.specs.Ordering.{is_gt}
use Rattle.coding.specs.Answers.{◌>>=◌}
use Rattle.coding.specs.declared.fault.Fault.{Fault}
use Rattle.coding.specs.declared.fault.FaultName.TheVariants.{Size, Short, Empty, Index}
use Rattle.block.specs.EncodedEntry.{Entry}
use Rattle.block.specs.BuilderView.{last_key}
use Rattle.ikey.specs.Key.{user_of}
use Rattle.ikey.specs.Order.{internal_cmp}
use Rattle.ikey.specs.Comparator.{KeyOrder}
use Rattle.table.specs.Footer.{footer_reading}
use Rattle.table.specs.TestResult.{test_result}
use Rattle.table.specs.EntryTests.{first_key, last_key_after, is_above, is_some_list, data_test}
use Rattle.table.specs.IndexReading.{IndexEntry, stored_at, block_in, index_reading}
use Rattle.table.specs.declared.table_check.TheConstants.{MAX_TABLE_LEN}
use Rattle.table.specs.declared.footer.TheConstants.{FOOTER_LEN}

-- the entries of a data block, and its index key
pub record DataBlock : Type 0 where
  pub index_key : List ℕ
  pub entries : List Entry

-- The data blocks in the order of the index, the first of them after the key `before`. Each is a
-- block with an entry, and each entry passes its test after the key before it in the table.
abbrev pub blocks_reading : KeyOrder → Option (List ℕ) → List IndexEntry →
    Result (List DataBlock) Fault
blocks_reading cmp before [] = Ok []
blocks_reading cmp before (i ∷ is) = do
  entries ← block_in i.stored
  _ ← data_test cmp before entries
  others ← blocks_reading cmp (last_key_after before entries) is
  Ok (record { index_key = i.key; entries = entries } ∷ others)

-- whether a block is above the index key before it, if there is one, and none of its keys is above
-- its own index key
abbrev pub is_between_index_keys : KeyOrder → Option (List ℕ) → DataBlock → Bool
is_between_index_keys cmp below b = is_above cmp below (first_key b.entries)
    && not (is_gt (internal_cmp cmp (last_key [] b.entries) b.index_key))

-- Whether each index key is at or above its block's last key and below the next block's first key.
-- The first block is above the index key `below`, if there is one.
abbrev pub index_fits : KeyOrder → Option (List ℕ) → List DataBlock → Bool
index_fits cmp below [] = true
index_fits cmp below (b ∷ bs) = is_between_index_keys cmp below b
    && index_fits cmp (Some b.index_key) bs

-- the data blocks that the index names; Empty if there is none, Index if an index key doesn't fit
abbrev pub data_reading : KeyOrder → List IndexEntry → Result (List DataBlock) Fault
data_reading cmp index = do
  _ ← test_result (is_some_list index) Empty
  blocks ← blocks_reading cmp None index
  _ ← test_result (index_fits cmp None blocks) Index
  Ok blocks

-- The index of the bytes. They end with a footer of 48 bytes: two handles and the magic. The
-- metaindex and the index are before it, and both are blocks.
abbrev pub index_in : List ℕ → Result (List Entry) Fault
index_in bytes = do
  _ ← test_result (nat_le (length bytes) MAX_TABLE_LEN) Size
  _ ← test_result (nat_le FOOTER_LEN (length bytes)) Short
  footer ← footer_reading (drop (length bytes - FOOTER_LEN) bytes)
  metaindex ← stored_at bytes footer.metaindex
  index ← stored_at bytes footer.index
  _ ← block_in metaindex
  block_in index

-- the data blocks of the bytes
unfoldable pub blocks_of : KeyOrder → List ℕ → Result (List DataBlock) Fault
blocks_of cmp bytes = do
  entries ← index_in bytes
  index ← index_reading bytes entries
  data_reading cmp index

-- the entries of data blocks
abbrev pub entries_of : List DataBlock → List Entry
entries_of blocks = flat_map (λ b. b.entries) blocks

-- what a table holds: its bytes, its one list of entries, and the user keys of its index in order
pub record Contents : Type 0 where
  pub bytes : List ℕ
  pub entries : List Entry
  pub index_users : List (List ℕ)

-- what the bytes hold, if these are their data blocks
abbrev pub contents_of : List ℕ → List DataBlock → Contents
contents_of bytes blocks = record {
  bytes = bytes;
  entries = entries_of blocks;
  index_users = map (λ b. user_of b.index_key) blocks;
}

-- what the bytes hold as a table, or the first test that they fail
abbrev pub contents_reading : KeyOrder → List ℕ → Result Contents Fault
contents_reading cmp bytes = blocks_of cmp bytes >>= λ blocks. Ok (contents_of bytes blocks)

-- the entries of the bytes as a table, or the first test that they fail
abbrev pub table_reading : KeyOrder → List ℕ → Result (List Entry) Fault
table_reading cmp bytes = blocks_of cmp bytes >>= λ blocks. Ok (entries_of blocks)
