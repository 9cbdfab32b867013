-- Data blocks that are planned.
use Rattle.std.specs.Prelude.{◌≡◌, ◌≢◌, ℕ, List, [], length, map}
use Rattle.coding.specs.Saturated.{saturated}
use Rattle.block.specs.EncodedEntry.{Entry}
use Rattle.block.specs.BlockFormat.{block}
use Rattle.cut.specs.declared.planned_block.PlannedBlock.{PlannedBlock}

-- the entries of each data block
abbrev pub block_lists : List PlannedBlock → List (List Entry)
block_lists blocks = map (λ b. b.entries.entries) blocks

-- A data block is planned. It has an entry. Its length is that of its bytes at this restart
-- interval; it saturates at 2 ^ 64 - 1.
pub record IsPlanned (interval : ℕ) (b : PlannedBlock) : Type 0 where
  pub some : b.entries.entries ≢ []
  pub len_is : b.len ≡ saturated (length (block interval b.entries.entries))
