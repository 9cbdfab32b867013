use Rattle.std.proofs.Common.{take}
use Rattle.std.specs.List.{AllZip}
use Rattle.reads.specs.Ranges.{key_range}
use Rattle.faults.specs.RangeKeys.{IsCursorOf}
use Rattle.faults.proofs.range_faults.file_cursors.Given as goal

abbrev pub invariant-loop-table : goal.invariant-loop-table
invariant-loop-table g l = AllZip (IsCursorOf g.C.Comparator.cmp (key_range l.range)) (take l.table-index l.tables) l.cursors.items
