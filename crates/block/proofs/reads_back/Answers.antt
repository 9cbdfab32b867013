use Rattle.block.proofs.Written.{block_reads_back}
use Rattle.block.proofs.reads_back.Goals as goal

pub returns : goal.returns
returns c = block_reads_back
