-- The one table that is written of a list: its data blocks, the metaindex block, which has no
-- entry, the index block and the footer. Each block has its trailer.
use Rattle.std.specs.Prelude.{ℕ, ◌+◌, nat_le, if◌then◌else◌, List, [], ◌∷◌, ◌++◌, length}
use Rattle.std.specs.Prelude.{Result, Ok, Err}
use Rattle.std.specs.List.{flat_map}
use Rattle.coding.specs.Answers.{fault}
use Rattle.coding.specs.declared.fault.Fault.{Fault}
use Rattle.coding.specs.declared.fault.FaultName.TheVariants.{TooLarge}
use Rattle.ikey.specs.ShortenedKeys.{internal_separator_of, internal_successor_of}
use Rattle.block.specs.EncodedEntry.{Entry}
use Rattle.block.specs.BlockFormat.{block}
use Rattle.block.specs.BuilderView.{last_key}
use Rattle.table.specs.Handle.{handle_bytes}
use Rattle.table.specs.Trailer.{stored_block}
use Rattle.table.specs.Footer.{footer_bytes}
use Rattle.table.specs.declared.footer.Footer.{Footer}
use Rattle.table.specs.declared.trailer.TheConstants.{TRAILER_LEN}
use Rattle.table.specs.declared.options.Options.{Options}
use Rattle.table.specs.DataBlocks.{data_blocks}
use Rattle.table.specs.EntryTests.{first_key}
use Rattle.ikey.specs.Comparator.{KeyOrder, ShortKeys}
use Rattle.table.specs.declared.table_check.TheConstants.{MAX_TABLE_LEN}

-- how index keys are made: between two keys, and at or above a key
pub record IndexKeys : Type 0 where
  pub between : List ℕ → List ℕ → List ℕ
  pub above : List ℕ → List ℕ

-- the internal separator and the internal successor of a comparator
unfoldable pub index_keys : KeyOrder → ShortKeys → IndexKeys
index_keys cmp short_keys = record {
  between = internal_separator_of cmp short_keys.separator;
  above = internal_successor_of cmp short_keys.successor;
}

-- the index key of a data block: the separator of its last key and the next block's first, or for
-- the last block the successor of its last key
abbrev pub index_key : IndexKeys → List Entry → List (List Entry) → List ℕ
index_key keys p [] = keys.above (last_key [] p)
index_key keys p (n ∷ ns) = keys.between (last_key [] p) (first_key n)

-- an entry of the index: a key, and the handle of a block
abbrev pub handle_entry : List ℕ → ℕ → ℕ → Entry
handle_entry key offset size = record { key = key; value = handle_bytes offset size }

-- the entries of the index, the first data block being at offset `at`
abbrev pub index_from : IndexKeys → ℕ → ℕ → List (List Entry) → List Entry
index_from keys interval at [] = []
index_from keys interval at (p ∷ ps) =
    handle_entry (index_key keys p ps) at (length (block interval p)) ∷ index_from keys interval
    (at + length (block interval p) + TRAILER_LEN) ps

-- data blocks, each with its trailer
abbrev pub stored_blocks : ℕ → List (List Entry) → List ℕ
stored_blocks interval parts = flat_map (λ p. stored_block (block interval p)) parts

-- the metaindex: the block without entries
abbrev pub metaindex : List ℕ
metaindex = block 1 []

-- the footer after data blocks of `at` bytes, the metaindex, and an index of this size
abbrev pub footer_at : ℕ → ℕ → Footer
footer_at at size = record {
  metaindex = record { offset = at; size = length metaindex };
  index = record { offset = at + length metaindex + TRAILER_LEN; size = size };
}

-- what comes after the data blocks: the metaindex, the index and the footer
unfoldable pub closing_bytes : ℕ → List Entry → List ℕ
closing_bytes at index = stored_block metaindex
    ++ (stored_block (block 1 index) ++ footer_bytes (footer_at at (length (block 1 index))))

-- the table of these data blocks
abbrev pub table_of_blocks : IndexKeys → ℕ → List (List Entry) → List ℕ
table_of_blocks keys interval parts =
    stored_blocks interval parts
    ++ closing_bytes (length (stored_blocks interval parts)) (index_from keys interval 0 parts)

-- the table of a list
unfoldable pub table : KeyOrder → ShortKeys → Options → List Entry → List ℕ
table cmp short_keys o q =
    table_of_blocks (index_keys cmp short_keys) o.restart_interval (data_blocks o q)

-- the bytes; TooLarge if they are more than 2 ^ 30
abbrev pub within_limit : List ℕ → Result (List ℕ) Fault
within_limit bytes = if nat_le (length bytes) MAX_TABLE_LEN then Ok bytes else Err (fault TooLarge)
