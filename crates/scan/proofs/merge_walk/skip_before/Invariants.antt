use Rattle.std.proofs.Common.{◌≡◌, length}
use Rattle.merge.specs.MergedLists.{merged}
use Rattle.reads.specs.Ranges.{key_range}
use Rattle.merge.specs.InRange.{entries_in}
use Rattle.scan.proofs.merge_walk.skip_before.Given as goal

abbrev pub invariant-loop-merging : goal.invariant-loop-merging
invariant-loop-merging g l = entries_in g.C.Comparator.cmp (key_range l.range) (merged g.C.Comparator.cmp l.merging) ≡ entries_in g.C.Comparator.cmp (key_range l.range) (merged g.C.Comparator.cmp l.initial.merging)

abbrev pub decreases-loop-merging : goal.decreases-loop-merging
decreases-loop-merging g l = length (merged g.C.Comparator.cmp l.merging)
