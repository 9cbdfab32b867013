use Rattle.std.proofs.Common.{◌≡◌, map, take}
use Rattle.cut.specs.Plan.{jobs, encoded_blocks}
use Rattle.cut.specs.OutputPlan.{lists_in}
use Rattle.hostile.proofs.plans.encoded.Given as goal

abbrev pub invariant-loop-job : goal.invariant-loop-job
invariant-loop-job l =
    (map (λ p. p.items) l.blocks.items ≡ take l.job (encoded_blocks l.plan.options (lists_in l.plan.outputs)))
    × (l.job-end ≡ jobs l.plan.options (lists_in l.plan.outputs))
