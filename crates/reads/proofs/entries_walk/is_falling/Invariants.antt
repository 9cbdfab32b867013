use Rattle.std.proofs.Common.{length}
use Rattle.merge.specs.MergedLists.{merged}
use Rattle.split.specs.Ranges.{key_range, IsIn}
use Rattle.reads.proofs.EntriesInOrder.{IsLeft}
use Rattle.reads.proofs.entries_walk.is_falling.Given as goal

-- what is left falls in the range exactly if all entries do
abbrev pub invariant-loop-place : goal.invariant-loop-place
invariant-loop-place g l =
    IsLeft g.C.Comparator.cmp g.met.C.Comparator.total g.met.C.Comparator.exact (IsIn g.C.Comparator.cmp (key_range l.range)) l.merging l.initial.merging

abbrev pub decreases-loop-place : goal.decreases-loop-place
decreases-loop-place g l = length (merged g.C.Comparator.cmp l.merging)
