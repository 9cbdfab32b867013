use Rattle.std.proofs.Common.{length}
use Rattle.merge.specs.MergedLists.{merged}
use Rattle.split.specs.Ranges.{key_range}
use Rattle.keep.proofs.RangeWalks.{IsWalking}
use Rattle.keep.proofs.range_merge.walk_range.Given as goal

abbrev pub invariant-loop-merging : goal.invariant-loop-merging
invariant-loop-merging g l = IsWalking g.C.Comparator.cmp l.rule (key_range l.range) l.initial.merging l.merging l.walk

abbrev pub decreases-loop-merging : goal.decreases-loop-merging
decreases-loop-merging g l = length (merged g.C.Comparator.cmp l.merging)
