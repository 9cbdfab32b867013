use Rattle.c_api.proofs.ToldRuns.{behind_all, pushed_all, pushed_on}
use Rattle.std.proofs.Common.{arith}
use Rattle.c_api.proofs.told_run.push_entries.Goals as goal

pub loop-both-preserved : goal.loop-both-preserved
loop-both-preserved c =
    pushed_on c.args.bytes.now c.args.lengths.now c.args.run.now c.loop-both.run c.loop-both.rest.now c.loop-both.both-index c.loop-both.invariant c.loop-both-test.true c.push_first.new.run c.after-rest.result.now c.in_ok-push_first.ensures.ok c.after-rest.ensures

pub returns-clause-ok : goal.returns-clause-ok
returns-clause-ok c =
    pushed_all c.args.bytes.now c.args.lengths.now c.args.run.now c.loop-both.run c.loop-both.rest.now c.loop-both.both-index c.loop-both.invariant (omega (arith, c.loop-both-test.false))

pub returns-clause-rest : goal.returns-clause-rest
returns-clause-rest c =
    behind_all c.args.bytes.now c.args.lengths.now c.args.run.now c.loop-both.run c.loop-both.rest.now c.loop-both.both-index c.loop-both.invariant (omega (arith, c.loop-both-test.false))
