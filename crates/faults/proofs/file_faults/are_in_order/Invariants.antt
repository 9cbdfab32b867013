use Rattle.std.proofs.Common.{◌≡◌, ◌-◌, ◌≤◌, map, drop}
use Rattle.faults.specs.FileOrder.{are_in_order}
use Rattle.faults.proofs.OverlapLemmas.{own}
use Rattle.faults.proofs.file_faults.are_in_order.Given as goal

-- whether all are in order is whether those from the last one on are that was compared
abbrev pub invariant-loop-place : goal.invariant-loop-place
invariant-loop-place g l = record {
  some : 1 ≤ l.place;
  same : are_in_order g.C.Comparator.cmp (map own (drop (l.place - 1) l.tested)) ≡ are_in_order g.C.Comparator.cmp (map own l.tested);
}
