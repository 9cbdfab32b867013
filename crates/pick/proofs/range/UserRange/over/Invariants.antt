use Rattle.std.proofs.Common.{◌≡◌, drop}
use Rattle.pick.specs.Spans.{least_user, greatest_user}
use Rattle.pick.proofs.Lists.{lent}
use Rattle.pick.proofs.range.UserRange.over.Given as goal

-- the range so far, made so wide that the rest lies in it
abbrev pub invariant-loop-file : goal.invariant-loop-file
invariant-loop-file g l = record {
  smallest : least_user g.C.Comparator.cmp l.range.smallest.now (lent (drop l.file-index l.files)) ≡ least_user g.C.Comparator.cmp l.initial.range.smallest.now (lent l.files);
  largest : greatest_user g.C.Comparator.cmp l.range.largest.now (lent (drop l.file-index l.files)) ≡ greatest_user g.C.Comparator.cmp l.initial.range.largest.now (lent l.files);
}
