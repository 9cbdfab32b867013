use Rattle.cut.proofs.MeteredLengths.{lengths_law as law}
use Rattle.cut.proofs.output_laws.lengths_law.Goals as goal

pub returns : goal.returns
returns c = law
