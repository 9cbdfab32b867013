use Rattle.std.proofs.Common.{◌≡◌, ◌/◌, ◌%◌, ◌<◌, ◌++◌, map, take, drop, length, slice_index, refl, sym, subst, ap, ◌∙◌, arith}
use Rattle.std.specs.List.{All}
use lib.Lanes.{pick_l}
use Rattle.hex.specs.Hex.{lower_digits}
use Rattle.texts.proofs.DigitChunks.{chunk_small, length-chunk, high_halves, low_halves, lanes_below, front_lanes, back_lanes, interleaved, digits_more}
use Rattle.texts.proofs.digits.write_chunk.Goals as goal

pub digits_of-high-requires : goal.digits_of-high-requires
digits_of-high-requires c =
    let chunk = take 16 (drop c.args.place c.args.bytes.now) in
    let small : All (λ b. b < 256) chunk = chunk_small c.args.place 16 c.args.bytes.now c.type_inv.bytes in
    let len : length chunk ≡ 16 = length-chunk c.args.place c.args.bytes.now c.requires.fits in
    subst (All (λ n. n < 16)) (sym (high_halves chunk small len)) (lanes_below (λ b. b / 16) 16 256 chunk (λ b lt. omega arith) small)

pub digits_of-low-requires : goal.digits_of-low-requires
digits_of-low-requires c =
    let chunk = take 16 (drop c.args.place c.args.bytes.now) in
    let small : All (λ b. b < 256) chunk = chunk_small c.args.place 16 c.args.bytes.now c.type_inv.bytes in
    let len : length chunk ≡ 16 = length-chunk c.args.place c.args.bytes.now c.requires.fits in
    subst (All (λ n. n < 16)) (sym (low_halves chunk small len)) (lanes_below (λ b. b % 16) 16 256 chunk (λ b lt. omega arith) small)

pub returns-clause-front : goal.returns-clause-front
returns-clause-front c =
    let chunk = take 16 (drop c.args.place c.args.bytes.now) in
    let small : All (λ b. b < 256) chunk = chunk_small c.args.place 16 c.args.bytes.now c.type_inv.bytes in
    let len : length chunk ≡ 16 = length-chunk c.args.place c.args.bytes.now c.requires.fits in
    let high = c.digits_of-high.result in
    let low = c.digits_of-low.result in
    digits_more c.args.room.now c.args.bytes.now (pick_l 0 (high ++ low) front_lanes) (pick_l 0 (high ++ low) back_lanes) c.args.place
    c.requires.fits c.requires.room refl refl c.requires.front
    (interleaved chunk high low len
    (c.digits_of-high.ensures ∙ ap (map (slice_index lower_digits)) (high_halves chunk small len))
    (c.digits_of-low.ensures ∙ ap (map (slice_index lower_digits)) (low_halves chunk small len)))
