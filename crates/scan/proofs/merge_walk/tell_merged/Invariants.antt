use Rattle.std.proofs.Common.{length}
use Rattle.merge.specs.MergedLists.{merged}
use Rattle.reads.specs.Ranges.{key_range}
use Rattle.scan.specs.EntryRows.{sorted_rows}
use Rattle.scan.proofs.MergedRows.{IsWalkedTo}
use Rattle.scan.proofs.merge_walk.tell_merged.Given as goal

abbrev pub invariant-loop-merging : goal.invariant-loop-merging
invariant-loop-merging g l =
    let cmp = g.C.Comparator.cmp in
    IsWalkedTo g.T.RowTaker.tells cmp (key_range l.range) l.at (sorted_rows cmp (key_range l.range) l.at l.fn.merging) l.fn.taker l.fn.limit (merged cmp l.merging) l.decided l.taker l.left

abbrev pub decreases-loop-merging : goal.decreases-loop-merging
decreases-loop-merging g l = length (merged g.C.Comparator.cmp l.merging)
