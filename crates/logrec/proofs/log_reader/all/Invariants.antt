use Rattle.std.proofs.Common.{length}
use Rattle.logrec.specs.LogReader.{lists}
use Rattle.logrec.proofs.Loops.{ReadsRecords}
use Rattle.logrec.proofs.log_reader.all.Given as goal

abbrev pub invariant-loop-rest : goal.invariant-loop-rest
invariant-loop-rest l = ReadsRecords l.bytes (lists l.records.items) l.rest

abbrev pub decreases-loop-rest : goal.decreases-loop-rest
decreases-loop-rest l = length l.rest
