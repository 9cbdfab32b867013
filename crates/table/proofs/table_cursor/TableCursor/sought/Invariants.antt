use Rattle.std.proofs.Common.{length}
use Rattle.table.specs.EntriesFrom.{entries_from}
use Rattle.table.proofs.Walks.{Seeks}
use Rattle.table.proofs.table_cursor.TableCursor.sought.Given as goal

abbrev pub invariant-loop-index : goal.invariant-loop-index
invariant-loop-index g l = Seeks g.C.Comparator.cmp l.self-inside.bytes.now l.target.bytes.now l.block l.index (entries_from g.C.Comparator.cmp l.target.bytes.now l.self)

abbrev pub decreases-loop-index : goal.decreases-loop-index
decreases-loop-index g l = length l.index
