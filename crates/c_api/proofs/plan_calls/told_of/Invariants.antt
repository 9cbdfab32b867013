use Rattle.std.proofs.Common.{◌≡◌, ◌++◌, drop}
use Rattle.c_api.specs.Plans.{outputs_told}
use Rattle.c_api.proofs.plan_calls.told_of.Given as goal

-- the outputs so far, and then those that are left
abbrev pub invariant-loop-place : goal.invariant-loop-place
invariant-loop-place g l = l.outputs.items ++ outputs_told l.first (drop l.place l.plan.outputs) ≡ outputs_told 0 l.plan.outputs
