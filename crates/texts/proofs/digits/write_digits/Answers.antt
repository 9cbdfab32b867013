use Rattle.std.proofs.Common.{◌-◌, length, arith}
use Rattle.texts.proofs.DigitChunks.{digits_less, digits_none}
use Rattle.texts.proofs.digits.write_digits.Goals as goal

pub loop-place-init : goal.loop-place-init
loop-place-init c = record {
  inside = omega arith;
  len = c.requires;
  front = digits_none;
}

pub write_chunk-requires-2-clause-front : goal.write_chunk-requires-2-clause-front
write_chunk-requires-2-clause-front c =
    digits_less c.loop-place.room c.args.bytes.now (length c.args.bytes.now - 16) c.loop-place.place c.loop-place-test.false c.loop-place.invariant.front
