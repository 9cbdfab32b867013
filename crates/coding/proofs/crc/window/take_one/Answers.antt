use Rattle.std.proofs.Common.{◌-◌, refl}
use borrow.Rule.Slice.PartMut.{mid_of, put_mid}
use lib.Lanes.{put_chunk}
use Rattle.coding.proofs.CrcWindows.{out_more}
use Rattle.coding.proofs.crc.window.take_one.Goals as goal

pub returns : goal.returns
returns c =
    let place = c.args.place in
    let old = c.args.taken.now in
    out_more old (put_mid place (1290 - place) old (put_chunk 0 (mid_of place (1290 - place) old) c.with_taken.result))
    c.args.chunk.now place c.with_taken.result c.requires.from c.requires.to c.told-taken c.with_taken.ensures.len c.with_taken.ensures.sum refl
