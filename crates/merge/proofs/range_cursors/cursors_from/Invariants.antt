use Rattle.std.proofs.Common.{◌≡◌, map, take}
use Rattle.merge.specs.MergedLists.{entries_of_lists}
use Rattle.split.specs.Ranges.{key_range}
use Rattle.merge.specs.InRange.{entries_in}
use Rattle.merge.proofs.range_cursors.cursors_from.Given as goal

abbrev pub invariant-loop-table : goal.invariant-loop-table
invariant-loop-table g l =
    entries_in g.C.Comparator.cmp (key_range l.range) (entries_of_lists l.cursors.items)
    ≡ entries_in g.C.Comparator.cmp (key_range l.range) (entries_of_lists (map (λ t. t.now.entries) (take l.table-index l.tables)))
