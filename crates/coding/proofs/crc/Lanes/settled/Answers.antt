use Rattle.std.proofs.Common.{rules}
use Rattle.coding.specs.CrcRegister.{register_of_lanes}
use Rattle.coding.proofs.crc.Lanes.settled.Goals as goal

pub returns : goal.returns
unfolding register_of_lanes
returns c = search rules
