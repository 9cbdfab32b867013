use Rattle.std.proofs.Common.{◌≡◌, true, map, drop}
use Rattle.faults.specs.VersionFault.{OfFile}
use Rattle.faults.specs.ToldFaults.{IsPart}
use Rattle.faults.proofs.fault_count.tell_file.Given as goal

-- those so far were told
abbrev pub invariant-loop-fault : goal.invariant-loop-fault
invariant-loop-fault g l = record {
  part : IsPart g.T.FaultTaker.tells (map (OfFile l.number) l.faults) l.fn.taker l.fn.told.count (map (OfFile l.number) (drop l.fault-index l.faults)) l.taker l.told;
  goes : l.told.goes ≡ true;
}
