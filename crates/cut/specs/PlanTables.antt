-- The tables of a plan, joined of its encoded data blocks.
use Rattle.std.specs.Prelude.{ℕ, ◌≤◌, List, length, map}
use Rattle.std.specs.List.{AllByRecursion}
use Rattle.block.specs.BlockFormat.{block}
use Rattle.table.specs.Table.{IndexKeys, table_of_blocks}
use Rattle.table.specs.Trailer.{stored_block}
use Rattle.cut.specs.BlockNumbers.{planned_blocks}
use Rattle.cut.specs.PlannedBlocks.{IsPlanned, block_lists}
use Rattle.cut.specs.declared.planned_block.PlannedBlock.{PlannedBlock}
use Rattle.cut.specs.declared.planned_output.PlannedOutput.{PlannedOutput}
use Rattle.table.specs.declared.table_check.TheConstants.{MAX_TABLE_LEN}

-- an output whose table can be joined of its data blocks
pub record IsReady (keys : IndexKeys) (interval : ℕ) (p : PlannedOutput) : Type 0 where
  pub planned : AllByRecursion (IsPlanned interval) p.blocks.items
  pub fits : length (table_of_blocks keys interval (block_lists p.blocks.items)) ≤ MAX_TABLE_LEN

-- the bytes of a data block, with its trailer
abbrev pub stored_one : ℕ → PlannedBlock → List ℕ
stored_one interval b = stored_block (block interval b.entries.entries)

-- the bytes of each data block of outputs
abbrev pub stored_each : ℕ → List PlannedOutput → List (List ℕ)
stored_each interval outputs = map (stored_one interval) (planned_blocks outputs)

-- the number and the table of each output
abbrev pub tables_of : IndexKeys → ℕ → List PlannedOutput → List (ℕ × List ℕ)
tables_of keys interval outputs =
    map (λ (p : PlannedOutput).
    (p.number, table_of_blocks keys interval (block_lists p.blocks.items)))
    outputs
