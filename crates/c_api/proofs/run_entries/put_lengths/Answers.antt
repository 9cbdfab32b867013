use Rattle.std.proofs.Common.{◌+◌, map, refl, arith}
use Rattle.std.proofs.lemmas.List.{length-map}
use Rattle.c_api.specs.Runs.{lengths_of}
use Rattle.c_api.proofs.RunWrites.{items_more, lengths_join, part_within, write_first, write_on}
use Rattle.c_api.proofs.run_entries.put_lengths.Goals as goal

pub loop-place-init : goal.loop-place-init
loop-place-init c = write_first (map lengths_of) c.args.run.now.kept 0 c.args.room.now refl

pub loop-place-preserved : goal.loop-place-preserved
loop-place-preserved c =
    let part = c.slice_from-slice.result in
    let so = c.loop-place.invariant in
    let within = part_within c.args.run.now.kept part c.loop-place.place so.within c.slice_from-slice.ensures.front in
    let count = length-map part lengths_of in
    write_on (map lengths_of) c.args.run.now.kept 0 c.args.room.now c.loop-place.room c.loop-place.place c.loop-place.place so
    (map lengths_of part) (c.loop-place.place + c.len-place.result) c.put_lengths_of.new.room (c.loop-place.place + c.len-place.result) (omega (arith, within, c.len-place.ensures))
    (items_more (map lengths_of) lengths_join c.args.run.now.kept part c.loop-place.place c.len-place.result so.within c.slice_from-slice.ensures.front c.len-place.ensures)
    c.put_lengths_of.ensures (omega (arith, count, c.len-place.ensures))
