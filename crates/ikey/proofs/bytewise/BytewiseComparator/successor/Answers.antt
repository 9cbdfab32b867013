use Rattle.std.proofs.Common.{rules}
use Rattle.ikey.specs.Bytewise.{bytewise_successor}
use Rattle.ikey.proofs.bytewise.BytewiseComparator.successor.Goals as goal

pub raised-requires-clause-fits : goal.raised-requires-clause-fits
unfolding bytewise_successor
raised-requires-clause-fits c = search rules

pub returns-then-place-key : goal.returns-then-place-key
unfolding bytewise_successor
returns-then-place-key c = search rules
