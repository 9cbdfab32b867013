use Rattle.std.proofs.Common.{rules}
use Rattle.table.specs.Trailer.{stored_reading}
use Rattle.table.proofs.trailer.contents.Goals as goal

pub returns-in-1 : goal.returns-in-1
unfolding stored_reading
returns-in-1 c = search rules
