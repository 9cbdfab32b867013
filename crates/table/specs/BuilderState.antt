-- The state of a table that is being written: flushed blocks, and the open one.
use Rattle.std.specs.Prelude.{◌≡◌, ℕ, ◌+◌, ◌-◌, ◌*◌, ◌<◌, ◌≤◌, List, [], ◌∷◌, ◌++◌, map}
use Rattle.std.specs.Prelude.{length, take, drop}
use Rattle.std.specs.List.{flat_map, sum_by, AllByRecursion}
use Rattle.byteorder.specs.Endian.{little_number}
use Rattle.ikey.specs.Key.{IsInternalKey}
use Rattle.block.specs.EncodedEntry.{Entry}
use Rattle.block.specs.EntriesOfBytes.{entries_of_encoded}
use Rattle.block.specs.BlockFormat.{block}
use Rattle.block.specs.BuilderView.{BlockBuilding, last_key}
use Rattle.table.specs.declared.options.Options.{Options}
use Rattle.table.specs.declared.flushed_block.FlushedBlock.{FlushedBlock}
use Rattle.table.specs.Options.{AreInLimits}
use Rattle.table.specs.DataBlocks.{blocks_after, data_blocks, flushed_len}
use Rattle.table.specs.Table.{IndexKeys, stored_blocks}
use Rattle.table.specs.EntryTests.{first_key}
use Rattle.table.specs.FlushedBlocks.{index_before}
use Rattle.block.specs.declared.builder.TheConstants.{MAX_BLOCK_LEN}
use Rattle.table.specs.declared.trailer.TheConstants.{TRAILER_LEN}

-- the entries of a block, of its bytes before the restarts
unfoldable pub block_entries : List ℕ → List Entry
block_entries bytes =
    entries_of_encoded []
    (take (length bytes - (4 * little_number 4 (drop (length bytes - 4) bytes) + 4)) bytes)

-- the entries of blocks of these sizes, each of which has its trailer
abbrev pub blocks_in : List ℕ → List ℕ → List (List Entry)
blocks_in bytes [] = []
blocks_in bytes (size ∷ sizes) =
    block_entries (take size bytes) ∷ blocks_in (drop (size + TRAILER_LEN) bytes) sizes

-- the entries of parts, one part after the other
abbrev pub entries_of_parts : List (List Entry) → List Entry
entries_of_parts parts = flat_map (λ p. p) parts

-- the entries of the flushed blocks, and then those of the open one
unfoldable pub entries_so_far : List ℕ → List FlushedBlock → List Entry → List Entry
entries_so_far bytes index entries =
    entries_of_parts (blocks_in bytes (map (λ (i : FlushedBlock). i.handle.size) index)) ++ entries

-- The state of a table builder: the bytes of its flushed data blocks, their index entries, and the
-- entries of the open block after them. The open block isn't flushed, though it may be full.
pub record IsTableBuilder (keys : IndexKeys) (o : Options) (parts : List (List Entry))
    (bytes : List ℕ) (index : List FlushedBlock) (interval : ℕ) (entries : List Entry) : Type 0
  where
    pub limits : AreInLimits o
    pub interval_is : interval ≡ o.restart_interval
    pub bytes_are : bytes ≡ stored_blocks o.restart_interval parts
    pub index_is : index ≡ index_before keys o.restart_interval 0 parts (first_key entries)
    pub begun : length entries ≡ 0 → parts ≡ []
    pub cut : (more : List Entry) → data_blocks o ((entries_of_parts parts ++ entries) ++ more)
        ≡ parts ++ blocks_after o entries more
    pub flushed_is : sum_by (flushed_len o) parts ≡ length bytes
    pub parts_fit : AllByRecursion (λ p. length (block o.restart_interval p) ≤ MAX_BLOCK_LEN) parts
    pub entries_fit : length (block o.restart_interval entries) ≤ MAX_BLOCK_LEN
    pub last_lawful : 0 < length entries → IsInternalKey (last_key [] entries)

-- the same, of some flushed data blocks
abbrev pub IsAnyTableBuilder : IndexKeys → Options → List ℕ → List FlushedBlock → BlockBuilding →
    Type 0
IsAnyTableBuilder keys o bytes index latest = (parts : List (List Entry))
    × IsTableBuilder keys o parts bytes index latest.interval latest.entries

-- a block without entries at the restart interval
abbrev pub IsSpare : Options → BlockBuilding → Type 0
IsSpare o b = b ≡ record { interval = o.restart_interval; entries = [] }
