-- An open output of a plan.
use Rattle.std.specs.Prelude.{◌≡◌, ℕ, Bool, false, true, List, [], ◌∷◌, ◌++◌, length, Option}
use Rattle.std.specs.List.{AllByRecursion}
use Rattle.coding.specs.Saturated.{saturated}
use Rattle.block.specs.EncodedEntry.{Entry}
use Rattle.block.specs.BlockFormat.{block}
use Rattle.table.specs.declared.options.Options.{Options}
use Rattle.table.specs.Options.{AreInLimits}
use Rattle.table.specs.DataBlocks.{is_full, blocks_after, data_blocks}
use Rattle.table.specs.Table.{stored_blocks}
use Rattle.cut.specs.declared.planned_block.PlannedBlock.{PlannedBlock}
use Rattle.cut.specs.PlannedBlocks.{block_lists}
use Rattle.keep.specs.MergedLists.{entries_of_lists}
use Rattle.cut.specs.BlockInProgress.{BlockInProgress, last_entry_key}
use Rattle.cut.specs.Outputs.{ends_before}

-- the options of an output, its entries so far, and the entries still to come
pub record OutputInProgress : Type 0 where
  pub options : Options
  pub entries : List Entry
  pub behind : List Entry

-- the entries of planned data blocks, one block after the other
abbrev pub entries_in_blocks : List PlannedBlock → List Entry
entries_in_blocks blocks = entries_of_lists (block_lists blocks)

-- how many bytes data blocks have, each with its trailer
abbrev pub stored_len : ℕ → List (List Entry) → ℕ
stored_len interval parts = length (stored_blocks interval parts)

-- the length of a planned block is that of the block of its entries
abbrev pub HasLen : Options → PlannedBlock → Type 0
HasLen o b = b.len ≡ saturated (length (block o.restart_interval b.entries.entries))

-- a planned block is full
abbrev pub IsFlushed : Options → PlannedBlock → Type 0
IsFlushed o b = is_full o b.entries.entries ≡ true

-- the blocks are the data blocks of their entries
pub record ArePlanned (o : Options) (blocks : List PlannedBlock) : Type 0 where
  pub cut : block_lists blocks ≡ data_blocks o (entries_in_blocks blocks)
  pub lens : AllByRecursion (HasLen o) blocks

-- whether an output of entries q ends before the first of those to come
abbrev pub ends_by : Options → List Entry → List Entry → Bool
ends_by o q [] = false
ends_by o q (e ∷ es) = ends_before o q e

-- The state of an open output: its full data blocks, their bytes, its last key and the open block.
-- Whatever entries are still to come, its data blocks begin with the full ones.
pub record IsOpen (o : Options) (blocks : List PlannedBlock) (flushed : ℕ) (last : Option (List ℕ))
    (open_one : BlockInProgress) : Type 0 where
  pub limits : AreInLimits o
  pub interval : open_one.interval ≡ o.restart_interval
  pub part : is_full o open_one.entries ≡ false
  pub full : AllByRecursion (IsFlushed o) blocks
  pub lens : AllByRecursion (HasLen o) blocks
  pub cuts : (rest : List Entry) →
      blocks_after o [] ((entries_in_blocks blocks ++ open_one.entries) ++ rest)
      ≡ block_lists blocks
      ++ blocks_after o open_one.entries rest
  pub flushed_is : flushed ≡ saturated (stored_len o.restart_interval (block_lists blocks))
  pub last_is : last ≡ last_entry_key (entries_in_blocks blocks ++ open_one.entries)
