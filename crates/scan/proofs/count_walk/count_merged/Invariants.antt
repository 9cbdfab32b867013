use Rattle.std.proofs.Common.{◌≡◌, length}
use Rattle.merge.specs.MergedLists.{merged}
use Rattle.reads.specs.Ranges.{key_range}
use Rattle.scan.proofs.WalkCounts.{IsCountedSoFar}
use Rattle.scan.proofs.count_walk.count_merged.Given as goal

-- what was counted, and what is left, is all
abbrev pub invariant-loop-place : goal.invariant-loop-place
invariant-loop-place g l = record {
  number : length l.amounts ≡ length l.merging;
  same : length l.merging ≡ length l.fn.merging;
  counted : IsCountedSoFar g.C.Comparator.cmp g.met.C.Comparator.total g.met.C.Comparator.exact (key_range l.range) l.last l.fn.merging l.fn.amounts l.merging l.decided l.amounts;
}

abbrev pub decreases-loop-place : goal.decreases-loop-place
decreases-loop-place g l = length (merged g.C.Comparator.cmp l.merging)
