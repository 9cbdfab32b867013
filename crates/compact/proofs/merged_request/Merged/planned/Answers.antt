use Rattle.std.proofs.Common.{◌≡◌, List, Ok, sym, subst, ◌∙◌}
use Rattle.table.specs.Table.{table}
use Rattle.keep.proofs.OnAnswers.{same_ok}
use Rattle.keep.specs.Runs.{Run, joined_run}
use Rattle.cut.specs.OutputPlan.{PlanSeen}
use Rattle.cut.specs.Outputs.{outputs_of}
use Rattle.cut.specs.Plan.{plan_of}
use Rattle.compact.specs.Request.{RequestView, request_in}
use Rattle.compact.specs.declared.grouped_plan.TheConstants.{MAX_TABLES}
use Rattle.compact.proofs.GroupedAnswers.{groups_dealt, groups_joined}
use Rattle.compact.proofs.merged_request.Merged.planned.Goals as goal

pub returns-clause-answer : goal.returns-clause-answer
returns-clause-answer g c =
    let cmp = g.C.Comparator.cmp in
    let short_keys = g.C.Comparator.short_keys in
    let r : RequestView = request_in c.self.inside.request.now in
    let runs : List Run = c.self.inside.runs.items in
    let p : PlanSeen = c.in_ok-plan.plan in
    let is : plan_of (table cmp short_keys r.options) r.options r.first_number (outputs_of r.picked.grandparents r.options (joined_run runs)) ≡ Ok p.outputs =
    subst (λ (rs : List Run). plan_of (table cmp short_keys r.options) r.options r.first_number (outputs_of r.picked.grandparents r.options (joined_run rs)) ≡ Ok p.outputs) c.deref.ensures.value c.in_ok-plan.ensures.outputs in
    sym c.self.view_is
    ∙ groups_joined cmp short_keys r runs p c.in_ok-plan.ensures.options is MAX_TABLES c.in_ok-groups.groups.items c.in_ok-edit.edit.items (same_ok _ _ c.in_ok-groups.ensures) (same_ok _ _ c.in_ok-edit.ensures)

pub returns-clause-groups : goal.returns-clause-groups
returns-clause-groups g c =
    let cmp = g.C.Comparator.cmp in
    let short_keys = g.C.Comparator.short_keys in
    let r : RequestView = request_in c.self.inside.request.now in
    let runs : List Run = c.self.inside.runs.items in
    let p : PlanSeen = c.in_ok-plan.plan in
    let is : plan_of (table cmp short_keys r.options) r.options r.first_number (outputs_of r.picked.grandparents r.options (joined_run runs)) ≡ Ok p.outputs =
    subst (λ (rs : List Run). plan_of (table cmp short_keys r.options) r.options r.first_number (outputs_of r.picked.grandparents r.options (joined_run rs)) ≡ Ok p.outputs) c.deref.ensures.value c.in_ok-plan.ensures.outputs in
    groups_dealt cmp short_keys r runs p c.in_ok-plan.ensures.options is MAX_TABLES c.in_ok-groups.groups.items c.in_ok-edit.edit.items (same_ok _ _ c.in_ok-groups.ensures) (same_ok _ _ c.in_ok-edit.ensures)
