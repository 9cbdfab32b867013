use Rattle.std.proofs.Common.{◌≡◌, ◌++◌, drop, map}
use Rattle.pick.specs.PickedInputs.{picked_in}
use Rattle.pick.proofs.Lists.{lent}
use Rattle.pick.proofs.PartRanges.{parts_of_ranges}
use Rattle.pick.proofs.Starts.{AreLeft}
use Rattle.pick.proofs.level_parts.parts_of.Given as goal

-- what is left of the files for the ranges ahead, and the parts so far, and then those of the ranges ahead
abbrev pub invariant-loop-range : goal.invariant-loop-range
invariant-loop-range g l = record {
  upper : AreLeft g.C.Comparator.cmp g.met.C.Comparator.total (drop l.range-index l.range-items) (lent l.initial.ahead.upper.now) (lent l.ahead.upper.now);
  lower : AreLeft g.C.Comparator.cmp g.met.C.Comparator.total (drop l.range-index l.range-items) (lent l.initial.ahead.lower.now) (lent l.ahead.lower.now);
  near : AreLeft g.C.Comparator.cmp g.met.C.Comparator.total (drop l.range-index l.range-items) (lent l.initial.ahead.near.now) (lent l.ahead.near.now);
  parts : map picked_in l.parts.items ++ parts_of_ranges g.C.Comparator.cmp g.met.C.Comparator.total l.sides.version.now l.sides.level l.sides.key.now (lent l.sides.upper.now) (drop l.range-index l.range-items)
      ≡ parts_of_ranges g.C.Comparator.cmp g.met.C.Comparator.total l.sides.version.now l.sides.level l.sides.key.now (lent l.sides.upper.now) l.range-items;
}
