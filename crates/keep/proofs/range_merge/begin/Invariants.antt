use Rattle.std.proofs.Common.{false, length}
use Rattle.std.specs.Option.{option_map}
use Rattle.merge.specs.MergedLists.{merged}
use Rattle.merge.specs.CursorsLeft.{is_before, EachLosesFirst}
use Rattle.keep.proofs.range_merge.begin.Given as goal

abbrev pub invariant-loop-merging : goal.invariant-loop-merging
invariant-loop-merging g l = EachLosesFirst (is_before g.C.Comparator.cmp (option_map (λ limit. limit.now) l.lower) false) l.initial.merging l.merging

abbrev pub decreases-loop-merging : goal.decreases-loop-merging
decreases-loop-merging g l = length (merged g.C.Comparator.cmp l.merging)
