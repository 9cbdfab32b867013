use Rattle.std.proofs.Common.{arith}
use Rattle.cut.proofs.PlanBlocks.{outputs_few}
use Rattle.cut.proofs.whole_plan.Plan.len.Goals as goal

pub returns-clause-few : goal.returns-clause-few
returns-clause-few g c =
    let was = c.self.inside in
    let kept = c.self.invariant in
    omega (arith, c.len.ensures, outputs_few g.C.Comparator.cmp g.C.Comparator.short_keys was.options was.outputs.items kept.each, kept.few)
