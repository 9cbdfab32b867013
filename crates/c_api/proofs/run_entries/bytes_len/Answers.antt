use Rattle.c_api.proofs.RunWrites.{bytes_on}
use Rattle.c_api.proofs.run_entries.bytes_len.Goals as goal

pub loop-place-preserved : goal.loop-place-preserved
loop-place-preserved c =
    bytes_on c.args.run.now.kept c.slice_from-slice.result c.loop-place.place c.len-place.result c.loop-place.len c.in_ok-len.len c.loop-place.invariant c.slice_from-slice.ensures.front c.len-place.ensures c.in_ok-len.ensures
