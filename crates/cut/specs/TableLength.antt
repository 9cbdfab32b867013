-- The length of a table, by the lengths of its data blocks.
use Rattle.std.specs.Prelude.{ℕ, ◌+◌, nat_lt, if◌then◌else◌, List, [], ◌∷◌, length, min}
use Rattle.std.specs.List.{sum_by}
use Rattle.block.specs.EncodedEntry.{Entry}
use Rattle.block.specs.BlockFormat.{block}
use Rattle.table.specs.declared.trailer.TheConstants.{TRAILER_LEN}
use Rattle.table.specs.Table.{IndexKeys, index_key, handle_entry}
use Rattle.cut.specs.declared.planned_block.PlannedBlock.{PlannedBlock}
use Rattle.cut.specs.PlannedBlocks.{block_lists}
use Rattle.keep.specs.Sizes.{encoded_entry_size}
use Rattle.cut.specs.declared.table_len.TheConstants.{CLOSING_LEN}
use Rattle.table.specs.declared.table_check.TheConstants.{MAX_TABLE_LEN}

-- a length, or one more than MAX_TABLE_LEN if it is longer
abbrev pub capped_length : ℕ → ℕ
capped_length n = min n (MAX_TABLE_LEN + 1)

-- the length of planned data blocks, each with its trailer
abbrev pub lens_of : List PlannedBlock → ℕ
lens_of blocks = sum_by (λ (b : PlannedBlock). b.len + TRAILER_LEN) blocks

-- the index key of the first of these data blocks
abbrev pub planned_index_key : IndexKeys → List PlannedBlock → List ℕ
planned_index_key keys [] = []
planned_index_key keys (b ∷ bs) = index_key keys b.entries.entries (block_lists bs)

-- the index entries of planned data blocks, the first of which is at offset `at`
abbrev pub planned_index_entries : IndexKeys → ℕ → List PlannedBlock → List Entry
planned_index_entries keys at [] = []
planned_index_entries keys at (b ∷ bs) = handle_entry (planned_index_key keys (b ∷ bs)) at b.len ∷
    planned_index_entries keys (at + b.len + TRAILER_LEN) bs

-- the length of the table of planned data blocks, or one more than MAX_TABLE_LEN if it is longer
abbrev pub table_size : IndexKeys → List PlannedBlock → ℕ
table_size keys blocks =
    if nat_lt MAX_TABLE_LEN (lens_of blocks) then MAX_TABLE_LEN + 1 else capped_length
    (lens_of blocks + CLOSING_LEN + length (block 1 (planned_index_entries keys 0 blocks)))

-- the bytes that entries take in a block in which a restart points at each
abbrev pub index_sizes : List Entry → ℕ
index_sizes [] = 0
index_sizes (e ∷ es) = encoded_entry_size 0 (length e.key) (length e.value) + 4 + index_sizes es
