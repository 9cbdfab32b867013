use Rattle.std.proofs.Common.{◌≡◌, ◌+◌, length, drop}
use Rattle.cut.specs.OutputInProgress.{entries_in_blocks}
use Rattle.cut.proofs.block_summary.count_entries.Given as goal

abbrev pub invariant-loop-block : goal.invariant-loop-block
invariant-loop-block l = l.count + length (entries_in_blocks (drop l.block-index l.blocks)) ≡ length (entries_in_blocks l.blocks)
