use Rattle.std.proofs.Common.{length}
use Rattle.block.specs.BlockPass.{PassState}
use Rattle.block.proofs.sound_block.are_entries.Given as goal

abbrev pub invariant-loop-rest : goal.invariant-loop-rest
invariant-loop-rest l = PassState l.area l.restarts l.rest l.pending l.key_len

abbrev pub decreases-loop-rest : goal.decreases-loop-rest
decreases-loop-rest l = length l.rest
