use Rattle.std.proofs.Common.{rules}
use Rattle.table.specs.Trailer.{trailer_bytes}
use Rattle.table.proofs.trailer.Trailer.of.Goals as goal

pub returns : goal.returns
unfolding trailer_bytes
returns c = search rules
