use Rattle.std.proofs.Common.{ap, ◌∙◌}
use Rattle.coding.specs.Crc.{bits_of}
use Rattle.coding.specs.CrcRegister.{register_after_bits}
use Rattle.coding.proofs.CrcKernel.{chunks_fed}
use Rattle.coding.proofs.crc.advanced.Goals as goal

pub returns : goal.returns
returns c =
    c.advanced_by_bytes.ensures
    ∙ ap (λ r. register_after_bits r (bits_of c.as_chunks.result.1.now)) c.advanced_by_chunks.ensures
    ∙ chunks_fed c.args.register c.args.bytes.now c.as_chunks.result.0.now c.as_chunks.result.1.now c.as_chunks.ensures.front c.as_chunks.ensures.back
