use Rattle.std.proofs.Common.{◌≡◌, drop}
use Rattle.pick.specs.FileRanges.{ending_from}
use Rattle.pick.proofs.Lists.{lent}
use Rattle.pick.proofs.file_ranges.ending_from.Given as goal

-- the rest has all of them
abbrev pub invariant-loop-place : goal.invariant-loop-place
invariant-loop-place g l =
    ending_from g.C.Comparator.cmp l.range.smallest.now (lent (drop l.place l.files)) ≡ ending_from g.C.Comparator.cmp l.range.smallest.now (lent l.files)
