use Rattle.std.proofs.Common.{◌≡◌, true, map, drop}
use Rattle.faults.specs.VersionFault.{OfKey}
use Rattle.faults.specs.KeyWalk.{misplaced_in}
use Rattle.faults.specs.ToldFaults.{IsPart}
use Rattle.faults.proofs.fault_count.tell_keys.Given as goal

-- those so far were told
abbrev pub invariant-loop-fault : goal.invariant-loop-fault
invariant-loop-fault g l = record {
  part : IsPart g.T.FaultTaker.tells (map (λ k. OfKey (misplaced_in k)) l.faults) l.fn.taker l.fn.told.count (map (λ k. OfKey (misplaced_in k)) (drop l.fault-index l.faults)) l.taker l.told;
  goes : l.told.goes ≡ true;
}
