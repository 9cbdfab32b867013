use Rattle.table.proofs.Cuts.{data_blocks_law}
use Rattle.table.proofs.table_laws.data_blocks_law.Goals as goal

pub returns : goal.returns
returns c = data_blocks_law
