use Rattle.coding.proofs.CrcKernel.{chunk_fed}
use Rattle.coding.proofs.crc.Lanes.of.Goals as goal

pub returns : goal.returns
returns c register =
    rw (c.from_le_bytes.ensures, c.from_le_bytes-2.ensures, c.from_le_bytes-3.ensures, c.from_le_bytes-4.ensures)
    (chunk_fed register c.args.chunk.now c.told-chunk c.fits-chunk)
