use Rattle.cut.proofs.RepeatedMarks.{stops_law as law}
use Rattle.cut.proofs.output_laws.stops_law.Goals as goal

pub returns : goal.returns
returns c = law
