use Rattle.std.proofs.Common.{◌≡◌, [], refl, ◌∙◌, arith}
use Rattle.coding.specs.Crc.{bits_of}
use Rattle.coding.specs.CrcRegister.{register_after_bits, register_of_lanes}
use Rattle.coding.proofs.CrcWindows.{left_done, left_first, left_more, lanes_fit, no_lanes}
use Rattle.coding.proofs.crc.window.drained.Goals as goal

pub loop-chunk-init : goal.loop-chunk-init
loop-chunk-init c = record {
  place = refl;
  fits = omega (arith, no_lanes);
  stand = left_first c.args.taken.now;
}

pub loop-chunk-preserved : goal.loop-chunk-preserved
loop-chunk-preserved c =
    let fed_in : register_of_lanes c.with-lanes.result ≡ register_after_bits (register_of_lanes c.loop-chunk.lanes) (bits_of c.with_taken.result) = c.with-lanes.ensures in
    record {
      place = omega (arith, c.loop-chunk.invariant.place);
      fits = lanes_fit (register_of_lanes c.loop-chunk.lanes) (register_of_lanes c.with-lanes.result) c.with_taken.result c.loop-chunk.invariant.fits fed_in;
      stand =
          left_more c.args.taken.now c.fill.new.self c.args.chunks.now c.loop-chunk.chunk-index c.loop-chunk.place
          (register_of_lanes c.loop-chunk.lanes) (register_of_lanes c.with-lanes.result) [] c.with_taken.result
          c.told-taken c.loop-chunk.invariant.place c.loop-chunk-test.true c.requires c.with_taken.ensures.len
          (c.fill.ensures.after (λ y h. h)) c.with_taken.ensures.sum fed_in c.loop-chunk.invariant.stand;
    }

pub returns : goal.returns
returns c register fits first =
    c.settled.ensures
    ∙ left_done c.args.taken.now c.args.chunks.now c.loop-chunk.chunk-index (register_of_lanes c.loop-chunk.lanes) register
    (omega (arith, c.requires, c.loop-chunk-test.false, c.loop-chunk.auto.chunk-index-end)) c.loop-chunk-test.false fits c.loop-chunk.invariant.fits
    (c.loop-chunk.invariant.stand register first)
