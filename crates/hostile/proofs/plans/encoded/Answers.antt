use Rattle.std.proofs.Common.{arith}
use Rattle.cut.specs.OutputPlan.{lists_in}
use Rattle.cut.proofs.Collected.{one_collected, all_collected}
use Rattle.hostile.proofs.plans.encoded.Goals as goal

pub loop-job-preserved : goal.loop-job-preserved
loop-job-preserved c =
    let o = c.args.plan.now.options in
    let qs = lists_in c.args.plan.now.outputs in (
      one_collected o qs c.loop-job.blocks.items c.push.new.self.items c.in_ok-block.block c.loop-job.job c.loop-job.invariant.0 c.in_ok-block.ensures.ok c.in_ok-push.ensures.items,
      c.loop-job.invariant.1,
    )

pub returns : goal.returns
returns c =
    let o = c.args.plan.now.options in
    let qs = lists_in c.args.plan.now.outputs in
    all_collected o qs c.loop-job.blocks.items c.loop-job.job c.loop-job.invariant.0 (omega (arith, c.loop-job.invariant.1, c.loop-job-test.false))
