use Rattle.coding.specs.Crc.{bits_of}
use Rattle.coding.proofs.CrcKernel.{with_is}
use Rattle.coding.proofs.crc.Lanes.with.Goals as goal

pub returns : goal.returns
returns c =
    rw (c.past_sixteen.ensures, c.past_sixteen-2.ensures, c.past_sixteen-3.ensures, c.past_sixteen-4.ensures)
    (with_is c.args.self c.of-words.result (bits_of c.args.chunk.now) c.of-words.ensures)
