use Rattle.std.proofs.Common.{arith}
use Rattle.keep.proofs.VarintLengths.{counted_first, counted_more, counted_last}
use Rattle.keep.proofs.lengths.varint_len.Goals as goal

pub loop-rest-init : goal.loop-rest-init
loop-rest-init c = counted_first c.args.number (omega arith)

pub loop-rest-preserved : goal.loop-rest-preserved
loop-rest-preserved c = counted_more c.args.number c.loop-rest.len c.loop-rest.rest c.loop-rest.invariant c.loop-rest-test.true

pub returns-clause-value : goal.returns-clause-value
returns-clause-value c = counted_last c.args.number c.loop-rest.len c.loop-rest.rest c.loop-rest.invariant c.loop-rest-test.false
