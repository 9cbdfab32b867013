use Rattle.std.proofs.Common.{arith}
use Rattle.c_api.proofs.ToldRuns.{few, front, next, read_on}
use Rattle.c_api.proofs.told_run.told_run.Goals as goal

pub overflow_sub-count : goal.overflow_sub-count
overflow_sub-count c =
    let n = next c.args.bytes.now c.args.lengths.now c.args.marks.now c.loop-mark.run c.loop-mark.rest.now c.loop-mark.left.now c.loop-mark.mark-index c.loop-mark.invariant c.loop-mark-test.true in
    omega (arith, n.low, c.len.ensures.number)

pub split_at-requires : goal.split_at-requires
split_at-requires c =
    let f = few c.args.bytes.now c.args.lengths.now c.args.marks.now c.loop-mark.run c.loop-mark.rest.now c.loop-mark.left.now c.loop-mark.mark-index c.loop-mark.invariant c.loop-mark-test.true in
    omega (arith, f, c.len.ensures.number)

pub push_entries-requires : goal.push_entries-requires
push_entries-requires c =
    front c.args.bytes.now c.args.lengths.now c.args.marks.now c.loop-mark.run c.loop-mark.rest.now c.loop-mark.left.now c.loop-mark.mark-index c.loop-mark.invariant c.loop-mark-test.true
    c.split_at.result.0.now c.split_at.result.1.now c.split_at.ensures.by_index.0

pub loop-mark-preserved : goal.loop-mark-preserved
loop-mark-preserved c =
    read_on c.args.bytes.now c.args.lengths.now c.args.marks.now c.loop-mark.run c.loop-mark.rest.now c.loop-mark.left.now c.loop-mark.mark-index c.loop-mark.invariant c.loop-mark-test.true
    c.split_at.result.0.now c.split_at.result.1.now c.in_ok-passed.passed.now c.push_entries.new.run c.push_mark.new.self
    c.split_at.ensures.by_index.0 (omega (arith, c.split_at.ensures.front_len, c.len.ensures.number)) c.in_ok-passed.ensures.rest c.in_ok-passed.ensures.ok c.in_ok-push_mark.ensures.ok
