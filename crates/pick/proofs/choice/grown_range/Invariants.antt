use Rattle.std.proofs.Common.{not, length}
use Rattle.std.specs.List.{filter}
use Rattle.edit.specs.declared.meta.FileMeta.{FileMeta}
use Rattle.pick.specs.Spans.{is_covering}
use Rattle.pick.proofs.Lists.{lent}
use Rattle.pick.proofs.Grown.{IsGrowing}
use Rattle.pick.proofs.choice.grown_range.Given as goal

-- what holds of the range whenever it has grown
abbrev pub invariant-loop-file : goal.invariant-loop-file
invariant-loop-file g l = IsGrowing g.C.Comparator.cmp (lent l.files) l.first l.range.smallest.now l.range.largest.now

-- how many files don't lie in the range
abbrev pub decreases-loop-file : goal.decreases-loop-file
decreases-loop-file g l = length (filter (λ (f : FileMeta). not (is_covering g.C.Comparator.cmp l.range.smallest.now l.range.largest.now f)) (lent l.files))
