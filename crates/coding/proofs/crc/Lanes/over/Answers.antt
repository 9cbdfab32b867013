use Rattle.std.proofs.Common.{◌≡◌, [], get_or, sym, ap, ◌∙◌}
use Rattle.coding.specs.Crc.{bits_of}
use Rattle.coding.specs.CrcRegister.{register_after_bits, register_of_lanes}
use Rattle.coding.proofs.CrcKernel.{fed_none, chunks_next, chunks_all}
use Rattle.coding.proofs.crc.Lanes.over.Goals as goal

pub loop-chunk-init : goal.loop-chunk-init
loop-chunk-init c = sym (fed_none (register_of_lanes c.args.self))

pub loop-chunk-preserved : goal.loop-chunk-preserved
loop-chunk-preserved c =
    let e : register_of_lanes c.with-self.result ≡ register_after_bits (register_of_lanes c.loop-chunk.self) (bits_of (get_or c.args.chunks.now c.loop-chunk.chunk-index [])) = c.with-self.ensures in
    e ∙ ap (λ s. register_after_bits s (bits_of (get_or c.args.chunks.now c.loop-chunk.chunk-index []))) c.loop-chunk.invariant
    ∙ chunks_next (register_of_lanes c.args.self) c.args.chunks.now c.loop-chunk.chunk-index [] c.loop-chunk-test.true

pub returns : goal.returns
returns c = c.loop-chunk.invariant ∙ chunks_all (register_of_lanes c.args.self) c.args.chunks.now c.loop-chunk.chunk-index c.loop-chunk-test.false
