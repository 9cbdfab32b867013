use Rattle.std.proofs.Common.{sym}
use Rattle.coding.proofs.crc.Lanes.begun.Goals as goal

pub returns : goal.returns
returns c = sym (c.of-words.ensures c.args.register)
