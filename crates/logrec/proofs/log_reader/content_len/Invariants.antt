use Rattle.std.proofs.Common.{◌≤◌, ◌+◌, length}
use Rattle.logrec.proofs.log_reader.content_len.Given as goal

abbrev pub invariant-loop-rest : goal.invariant-loop-rest
invariant-loop-rest l = l.len + length l.rest ≤ length l.bytes

abbrev pub decreases-loop-rest : goal.decreases-loop-rest
decreases-loop-rest l = length l.rest
