-- What a plan keeps of its outputs, and what holds of it.
use Rattle.std.specs.Prelude.{◌≡◌, ◌≢◌, ℕ, ◌+◌, ◌≤◌, List, [], ◌∷◌, length}
use Rattle.std.specs.Global.{Vec}
use Rattle.std.specs.List.{AllByRecursion, sum_by}
use Rattle.block.specs.EncodedEntry.{Entry}
use Rattle.table.specs.declared.options.Options.{Options}
use Rattle.table.specs.Options.{AreInLimits}
use Rattle.cut.specs.declared.planned_block.PlannedBlock.{PlannedBlock}
use Rattle.cut.specs.declared.planned_output.PlannedOutput.{PlannedOutput}
use Rattle.cut.specs.BlockNumbers.{output_ends}
use Rattle.cut.specs.PlannedBlocks.{block_lists}
use Rattle.cut.specs.OutputInProgress.{entries_in_blocks, ArePlanned}
use Rattle.cut.specs.Plan.{OutputView, block_ends_from}
use Rattle.table.specs.declared.table_check.TheConstants.{MAX_TABLE_LEN}
use Rattle.cut.specs.declared.output_plan.TheConstants.{MAX_BLOCKS}

-- an output as contracts see it: its number, its entries, the place after the last entry of each
-- data block, and its length
abbrev pub planned_of : PlannedOutput → OutputView
planned_of p = record {
  number = p.number;
  entries = entries_in_blocks p.blocks.items;
  blocks = block_ends_from 0 (block_lists p.blocks.items);
  length = p.len;
}

-- there are blocks, and each has an entry
pub record HaveEntries (blocks : List PlannedBlock) : Type 0 where
  pub any : blocks ≢ []
  pub some : AllByRecursion (λ (b : PlannedBlock). b.entries.entries ≢ []) blocks

-- outputs of these data blocks, numbered from `number` on; `size_of` tells the length of a table
abbrev pub numbered_from : (List PlannedBlock → ℕ) → ℕ → List (Vec PlannedBlock) →
    List PlannedOutput
numbered_from size_of number [] = []
numbered_from size_of number (b ∷ bs) =
    record { number = number; blocks = b; len = size_of b.items } ∷ numbered_from size_of
    (number + 1) bs

-- how many data blocks all outputs have
abbrev pub block_count : List PlannedOutput → ℕ
block_count outputs = sum_by (λ (p : PlannedOutput). length p.blocks.items) outputs

-- an output of a plan: its blocks are the data blocks of their entries, and its length, at most
-- MAX_TABLE_LEN, is that of its table
pub record IsPlannedOutput (table_of : List Entry → List ℕ) (o : Options) (p : PlannedOutput) : Type
    0 where
  pub planned : ArePlanned o p.blocks.items
  pub some : HaveEntries p.blocks.items
  pub len_is : p.len ≡ length (table_of (entries_in_blocks p.blocks.items))
  pub len_le : p.len ≤ MAX_TABLE_LEN

-- what a plan keeps: outputs in their limits, and after how many data blocks each ends
pub record IsPlan (table_of : List Entry → List ℕ) (o : Options) (outputs : List PlannedOutput)
    (ends : List ℕ) : Type 0 where
  pub limits : AreInLimits o
  pub each : AllByRecursion (IsPlannedOutput table_of o) outputs
  pub few : block_count outputs ≤ MAX_BLOCKS
  pub ends_are : ends ≡ output_ends 0 outputs
