use Rattle.std.proofs.Common.{◌+◌, length, refl, arith}
use Rattle.c_api.specs.Runs.{bytes_of}
use Rattle.c_api.proofs.RunWrites.{bytes_join, fit_next, items_more, part_within, write_first, write_on}
use Rattle.c_api.proofs.run_entries.put_bytes.Goals as goal

pub loop-place-init : goal.loop-place-init
loop-place-init c = write_first bytes_of c.args.run.now.kept 0 c.args.room.now refl

pub put_slice-end-requires : goal.put_slice-end-requires
put_slice-end-requires c =
    let part = c.slice_from-slice.result in
    let so = c.loop-place.invariant in
    fit_next bytes_of c.args.run.now.kept 0 c.args.room.now c.loop-place.room c.loop-place.place c.loop-place.end so bytes_join (omega (arith, c.requires)) (bytes_of part) (c.loop-place.place + length part)
    (items_more bytes_of bytes_join c.args.run.now.kept part c.loop-place.place (length part) so.within c.slice_from-slice.ensures.front refl)

pub loop-place-preserved : goal.loop-place-preserved
loop-place-preserved c =
    let part = c.slice_from-slice.result in
    let so = c.loop-place.invariant in
    let within = part_within c.args.run.now.kept part c.loop-place.place so.within c.slice_from-slice.ensures.front in
    write_on bytes_of c.args.run.now.kept 0 c.args.room.now c.loop-place.room c.loop-place.place c.loop-place.end so
    (bytes_of part) (c.loop-place.place + c.len-place.result) c.put_slice-end.new.room c.put_slice-end.result (omega (arith, within, c.len-place.ensures))
    (items_more bytes_of bytes_join c.args.run.now.kept part c.loop-place.place c.len-place.result so.within c.slice_from-slice.ensures.front c.len-place.ensures)
    c.put_slice-end.ensures.written c.put_slice-end.ensures.end
