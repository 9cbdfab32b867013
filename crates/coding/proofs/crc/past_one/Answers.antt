use Rattle.coding.proofs.CrcKernel.{past_one_is}
use Rattle.coding.proofs.crc.past_one.Goals as goal

pub returns : goal.returns
returns c = past_one_is c.args.register
