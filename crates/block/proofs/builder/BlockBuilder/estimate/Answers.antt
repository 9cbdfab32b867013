use Rattle.std.proofs.Common.{arith}
use Rattle.block.proofs.Built.{length-built}
use Rattle.block.proofs.builder.BlockBuilder.estimate.Goals as goal

pub overflow_mul-result : goal.overflow_mul-result
overflow_mul-result c = omega (arith, length-built c.self.invariant, c.self.invariant.fits)

pub overflow_add-result : goal.overflow_add-result
overflow_add-result c = omega (arith, length-built c.self.invariant, c.self.invariant.fits)

pub overflow_add-result-2 : goal.overflow_add-result-2
overflow_add-result-2 c = omega (arith, length-built c.self.invariant, c.self.invariant.fits)

pub returns : goal.returns
returns c = rw (← c.self.view_is) (omega (arith, length-built c.self.invariant))
