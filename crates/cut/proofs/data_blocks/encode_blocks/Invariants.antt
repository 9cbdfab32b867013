use Rattle.std.proofs.Common.{◌≡◌, take}
use Rattle.std.specs.Prelude.{flat_map}
use Rattle.block.specs.BlockFormat.{block}
use Rattle.table.specs.Trailer.{stored_block}
use Rattle.cut.specs.declared.planned_block.PlannedBlock.{PlannedBlock}
use Rattle.cut.proofs.data_blocks.encode_blocks.Given as goal

abbrev pub invariant-loop-block : goal.invariant-loop-block
invariant-loop-block l =
    l.out.items ≡ flat_map (λ (b : PlannedBlock). stored_block (block l.fn.interval b.entries.entries)) (take l.block-index l.blocks)
