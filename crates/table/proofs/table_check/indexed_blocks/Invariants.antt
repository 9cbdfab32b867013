use Rattle.std.proofs.Common.{◌≡◌, length}
use Rattle.table.specs.IndexReading.{index_reading}
use Rattle.table.specs.IndexEntries.{index_entries_of}
use Rattle.table.proofs.Steps.{with_front}
use Rattle.table.proofs.table_check.indexed_blocks.Given as goal

abbrev pub invariant-loop-alloc : goal.invariant-loop-alloc
invariant-loop-alloc l = with_front (index_entries_of l.all.items) (index_reading l.bytes l.cursor) ≡ index_reading l.bytes l.initial.cursor

abbrev pub decreases-loop-alloc : goal.decreases-loop-alloc
decreases-loop-alloc l = length l.cursor
