use Rattle.std.proofs.Common.{arith}
use Rattle.c_api.proofs.RunWrites.{len_more}
use Rattle.c_api.proofs.run_entries.len_with.Goals as goal

pub loop-place-preserved : goal.loop-place-preserved
loop-place-preserved c =
    let more = len_more c.args.entries.now c.loop-place.place c.lengths_at-both.result (omega (arith, c.loop-place-test.true, c.len-place-end.ensures)) c.lengths_at-both.ensures in
    omega (arith, more, c.loop-place.invariant, c.in_ok-checked_add.ensures, c.in_ok-sum.ensures)
