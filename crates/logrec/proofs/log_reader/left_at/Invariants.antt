use Rattle.std.proofs.Common.{true, length}
use Rattle.logrec.specs.LogReader.{left_at}
use Rattle.logrec.proofs.Loops.{Reads}
use Rattle.logrec.proofs.log_reader.left_at.Given as goal

abbrev pub invariant-loop-record : goal.invariant-loop-record
invariant-loop-record l = Reads (left_at (length l.bytes) true l.fn.room l.bytes) l.record.items l.begins l.room l.rest

abbrev pub decreases-loop-record : goal.decreases-loop-record
decreases-loop-record l = length l.rest
