use Rattle.std.proofs.Common.{◌<◌, ◌+◌, ◌++◌, ◌∷◌, [], ℕ, List, drop, length, sym, ap, ◌∙◌, arith, append_assoc}
use Rattle.cut.specs.Plan.{OutputView}
use Rattle.cut.specs.declared.output_meta.OutputMeta.{OutputMeta}
use Rattle.c_api.specs.Plans.{outputs_told}
use Rattle.c_api.specs.declared.plan_calls.PlannedOutput.{PlannedOutput}
use Rattle.c_api.proofs.Planned.{told, told_more}
use Rattle.c_api.proofs.plan_calls.told_of.Goals as goal

pub loop-place-preserved : goal.loop-place-preserved
loop-place-preserved g c =
    let ps : List OutputView = c.args.plan.now.outputs in
    let m : OutputMeta = c.output-output.result in
    let i = c.loop-place.place in
    let first : ℕ = c.loop-place.first in
    let sofar : List PlannedOutput = c.loop-place.outputs.items in
    let x : PlannedOutput = told first m.entries m.len in
    let left : List OutputView = drop (i + 1) ps in
    let within : i < length ps = omega (arith, c.loop-place-test.true, c.len-place-end.ensures.number) in
    ap (λ (os : List PlannedOutput). os ++ outputs_told c.saturating_add-first.result left) c.in_ok-push.ensures.items
    ∙ append_assoc sofar (x ∷ []) (outputs_told c.saturating_add-first.result left)
    ∙ ap (λ (n : ℕ). sofar ++ x ∷ outputs_told n left) c.saturating_add-first.ensures
    ∙ ap (λ (os : List PlannedOutput). sofar ++ os) (sym (told_more first ps i m within c.output-output.ensures.meta))
    ∙ c.loop-place.invariant
