-- The data blocks that were flushed, and their index entries.
use Rattle.std.specs.Prelude.{ℕ, ◌+◌, List, [], ◌∷◌, map, length}
use Rattle.block.specs.EncodedEntry.{Entry}
use Rattle.block.specs.BlockFormat.{block}
use Rattle.block.specs.BuilderView.{last_key}
use Rattle.table.specs.declared.trailer.TheConstants.{TRAILER_LEN}
use Rattle.table.specs.declared.flushed_block.FlushedBlock.{FlushedBlock}
use Rattle.table.specs.Table.{IndexKeys, handle_entry}
use Rattle.table.specs.EntryTests.{first_key}

-- what the index has of a block at this offset and of this size
abbrev pub flushed_block_at : List ℕ → ℕ → ℕ → FlushedBlock
flushed_block_at key offset size =
    record { key = key; handle = record { offset = offset; size = size } }

-- the index entries as they are written
abbrev pub index_entries : List FlushedBlock → List Entry
index_entries index = map (λ i. handle_entry i.key i.handle.offset i.handle.size) index

-- the first key of the blocks; the key `behind` after them if there is no block
abbrev pub next_key : List (List Entry) → List ℕ → List ℕ
next_key [] behind = behind
next_key (p ∷ ps) behind = first_key p

-- The index entries of blocks that come before the key `behind`, the first block being at offset
-- `at`.
abbrev pub index_before : IndexKeys → ℕ → ℕ → List (List Entry) → List ℕ → List FlushedBlock
index_before keys interval at [] behind = []
index_before keys interval at (p ∷ ps) behind =
    flushed_block_at (keys.between (last_key [] p) (next_key ps behind)) at
    (length (block interval p))
    ∷ index_before keys interval (at + length (block interval p) + TRAILER_LEN) ps behind
