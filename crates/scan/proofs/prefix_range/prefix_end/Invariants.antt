use Rattle.std.proofs.Common.{length}
use Rattle.scan.proofs.PrefixKeys.{IsFilled}
use Rattle.scan.proofs.prefix_range.prefix_end.Given as goal

abbrev pub invariant-loop-last : goal.invariant-loop-last
invariant-loop-last l = IsFilled l.prefix l.front

abbrev pub decreases-loop-last : goal.decreases-loop-last
decreases-loop-last l = length l.front
