use Rattle.coding.proofs.CrcDivision.{remainder_law}
use Rattle.coding.proofs.crc.remainder_law.Goals as goal

pub returns : goal.returns
returns c = remainder_law
