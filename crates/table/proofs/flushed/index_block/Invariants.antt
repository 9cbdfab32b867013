use Rattle.std.proofs.Common.{◌≡◌, take}
use Rattle.table.specs.FlushedBlocks.{index_entries}
use Rattle.table.proofs.flushed.index_block.Given as goal

abbrev pub invariant-loop-entry : goal.invariant-loop-entry
invariant-loop-entry l = l.entries ≡ record { interval = 1; entries = index_entries (take l.entry-index l.index) }
