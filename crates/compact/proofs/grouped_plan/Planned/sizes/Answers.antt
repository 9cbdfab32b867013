use Rattle.std.proofs.Common.{◌<◌, ◌≤◌, List, Ok, length, sym, ap, ◌∙◌, arith}
use Rattle.cut.specs.OutputPlan.{PlanSeen}
use Rattle.compact.specs.GroupedAnswer.{GroupedAnswer, joined_answer, table_sizes}
use Rattle.compact.proofs.GroupedAnswers.{plan_more, plans_done, sizes_in}
use Rattle.compact.proofs.grouped_plan.Planned.sizes.Goals as goal

pub loop-place-preserved : goal.loop-place-preserved
loop-place-preserved g c =
    let cmp = g.C.Comparator.cmp in
    let short_keys = g.C.Comparator.short_keys in
    let plans : List PlanSeen = c.self.inside.groups.items in
    let p : PlanSeen = c.index-plan.result.now in
    let within : c.loop-place.place < length plans = omega (arith, c.loop-place-test.true, c.len-place-end.ensures) in
    plan_more cmp short_keys plans c.loop-place.place p c.loop-place.sizes.items c.push_sizes.new.sizes.items (sizes_in cmp short_keys plans) within (sym c.index-plan.ensures) c.in_ok-push_sizes.ensures.ok c.loop-place.invariant

pub returns : goal.returns
returns g c =
    let cmp = g.C.Comparator.cmp in
    let short_keys = g.C.Comparator.short_keys in
    let plans : List PlanSeen = c.self.inside.groups.items in
    let past : length plans ≤ c.loop-place.place = omega (arith, c.loop-place-test.false, c.len-place-end.ensures) in
    ap (λ (s : GroupedAnswer). Ok (table_sizes (joined_answer s).tables)) (sym c.self.view_is)
    ∙ sym (ap Ok (plans_done cmp short_keys plans c.loop-place.place c.loop-place.sizes.items (sizes_in cmp short_keys plans) past c.loop-place.invariant))
