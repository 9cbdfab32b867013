use Rattle.std.proofs.Common.{◌≡◌, true, map, drop}
use Rattle.faults.specs.Findings.{faults_of_found, found_in}
use Rattle.faults.specs.ToldFaults.{IsPart}
use Rattle.faults.proofs.file_faults.tell_files.Given as goal

-- the faults of the files so far were told
abbrev pub invariant-loop-place : goal.invariant-loop-place
invariant-loop-place g l =
    let cmp = g.C.Comparator.cmp in
    record {
      part : IsPart g.T.FaultTaker.tells (faults_of_found cmp l.next (map found_in l.tested)) l.fn.taker 0 (faults_of_found cmp l.next (map found_in (drop l.place l.tested))) l.taker l.told;
      goes : l.told.goes ≡ true;
    }
