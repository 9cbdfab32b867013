use Rattle.coding.proofs.Steps.{IsHalfWritten}
use Rattle.coding.proofs.varint.push_groups.Given as goal

abbrev pub invariant-loop-rest : goal.invariant-loop-rest
invariant-loop-rest l = IsHalfWritten l.number l.last l.rest l.buffer

abbrev pub decreases-loop-rest : goal.decreases-loop-rest
decreases-loop-rest l = l.rest
