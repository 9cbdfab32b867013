use Rattle.std.proofs.Common.{arith}
use Rattle.coding.proofs.CrcKernel.{past_sixteen_is}
use Rattle.coding.proofs.crc.past_sixteen.Goals as goal

pub returns : goal.returns
returns c = rw c.to_le_bytes.ensures (past_sixteen_is c.args.register (omega arith))
