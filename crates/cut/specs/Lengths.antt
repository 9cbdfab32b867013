-- The lengths of blocks and tables, as sums of lengths.
use Rattle.std.specs.Prelude.{◌≡◌, ℕ, zero, suc, ◌+◌, ◌%◌, ◌==◌, if◌then◌else◌, List, [], ◌∷◌, ◌++◌}
use Rattle.std.specs.Prelude.{length}
use Rattle.block.specs.EncodedEntry.{Entry, encoded_entry_bytes}
use Rattle.block.specs.BlockFormat.{block, encoded_entry_of}
use Rattle.block.specs.BuilderView.{last_key}
use Rattle.table.specs.declared.trailer.TheConstants.{TRAILER_LEN}
use Rattle.table.specs.Table.{closing_bytes, stored_blocks}
use Rattle.cut.specs.declared.table_len.TheConstants.{CLOSING_LEN}

-- the bytes of the restart of the entry at a place, if it has one; the first entry's is counted in
-- the empty block
abbrev pub restart_len : ℕ → ℕ → ℕ
restart_len interval zero = 0
restart_len interval (suc n) = if suc n % interval == 0 then 4 else 0

-- what one more entry adds to the block of entries: its own bytes, and its restart
abbrev pub added_len : ℕ → List Entry → Entry → ℕ
added_len interval q e =
    length (encoded_entry_bytes (encoded_entry_of interval (length q) (last_key [] q) e)) +
    restart_len interval (length q)

-- A block of no entries has 8 bytes, and each entry adds `added_len`. Each data block adds its
-- bytes and the 5 of its trailer to a table. What closes a table has the bytes of the index and 66
-- more: the metaindex, both trailers, and the footer.
pub record LengthsLaw : Type 0 where
  pub none : (interval : ℕ) → length (block interval []) ≡ 8
  pub more : (interval : ℕ) (q : List Entry) (e : Entry) → length (block interval (q ++ e ∷ []))
      ≡ length (block interval q) + added_len interval q e
  pub stored : (interval : ℕ) (parts : List (List Entry)) (p : List Entry) →
      length (stored_blocks interval (parts ++ p ∷ []))
      ≡ length (stored_blocks interval parts) + (length (block interval p) + TRAILER_LEN)
  pub closed : (at : ℕ) (index : List Entry) → length (closing_bytes at index)
      ≡ length (block 1 index) + CLOSING_LEN
