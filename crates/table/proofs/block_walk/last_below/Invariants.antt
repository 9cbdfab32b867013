use Rattle.std.proofs.Common.{◌-◌}
use Rattle.table.proofs.Searches.{IsWithin}
use Rattle.table.proofs.block_walk.last_below.Given as goal

abbrev pub invariant-loop-end : goal.invariant-loop-end
invariant-loop-end g l = IsWithin g.C.Comparator.cmp l.target.bytes.now l.block l.restart l.end

abbrev pub decreases-loop-end : goal.decreases-loop-end
decreases-loop-end g l = l.end - l.restart
