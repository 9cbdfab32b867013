use Rattle.std.proofs.Common.{drop}
use Rattle.pick.proofs.Lists.{lent}
use Rattle.pick.proofs.Widened.{IsWidened}
use Rattle.pick.proofs.file_ranges.widened_ranges.Given as goal

-- the ranges that ended, the one so far, and the files that are left
abbrev pub invariant-loop-file : goal.invariant-loop-file
invariant-loop-file g l =
    IsWidened g.C.Comparator.cmp g.met.C.Comparator.total (lent l.files) l.ranges.items l.range.smallest.now l.range.largest.now (lent (drop l.file-index l.files))
