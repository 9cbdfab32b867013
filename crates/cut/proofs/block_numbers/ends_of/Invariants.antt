use Rattle.cut.proofs.NumberedBlocks.{AreEnds}
use Rattle.cut.proofs.block_numbers.ends_of.Given as goal

abbrev pub invariant-loop-output : goal.invariant-loop-output
invariant-loop-output l = AreEnds l.outputs l.ends.items l.end l.output-index
