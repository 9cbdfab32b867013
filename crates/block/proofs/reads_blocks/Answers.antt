use Rattle.block.proofs.BlockReadings.{reads_blocks}
use Rattle.block.proofs.reads_blocks.Goals as goal

pub returns : goal.returns
returns c = reads_blocks
