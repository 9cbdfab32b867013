use Rattle.std.proofs.Common.{map, take}
use Rattle.merge.specs.LeastList.{IsMerging}
use Rattle.merge.proofs.least.least_place.Given as goal

abbrev pub invariant-loop-place : goal.invariant-loop-place
invariant-loop-place g l = IsMerging g.C.Comparator.cmp (take l.place (map g.S.Entries.remaining l.cursors)) l.least
