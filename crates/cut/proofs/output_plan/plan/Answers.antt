use Rattle.std.proofs.Common.{◌≡◌, ◌≢◌, ◌+◌, ◌^◌, ◌<◌, ◌≤◌, List, [], true, false, length, map, Ok, Err, sym, ap, subst, ◌∙◌, arith}
use Rattle.std.specs.List.{AllByRecursion}
use Rattle.coding.proofs.Refusals.{FailsOrMemory-from}
use Rattle.block.specs.EncodedEntry.{Entry}
use Rattle.table.specs.Table.{index_keys, table}
use Rattle.keep.specs.Runs.{Run, joined_run}
use Rattle.cut.specs.declared.planned_output.PlannedOutput.{PlannedOutput}
use Rattle.cut.specs.Outputs.{outputs_of}
use Rattle.cut.specs.PlanInvariant.{IsPlannedOutput, block_count, numbered_from, planned_of}
use Rattle.cut.specs.Stops.{stops}
use Rattle.cut.specs.TableLength.{table_size}
use Rattle.cut.proofs.Grouped.{seen_options, seen_outputs}
use Rattle.cut.proofs.Planned.{IsMade, are_small, have_entries, plan_each, plan_few, plan_large, plan_made}
use Rattle.cut.proofs.Whole.{some_segments}
use Rattle.cut.proofs.output_plan.plan.Goals as goal

pub numbered-requires-clause-some : goal.numbered-requires-clause-some
numbered-requires-clause-some g c =
    let o = c.args.options in
    let run : Run = joined_run c.args.runs.now in
    let some : AllByRecursion (λ q. q ≢ []) (outputs_of c.args.grandparents.now o run) = some_segments o 0 (stops c.args.grandparents.now o.file_size run.marks) run.kept in
    have_entries o c.in_ok-ended.ended.items c.in_ok-ended.ensures.planned (subst (AllByRecursion (λ (q : List Entry). q ≢ [])) (sym c.in_ok-ended.ensures.entries) some)

pub returns-then-not-are_small : goal.returns-then-not-are_small
returns-then-not-are_small g c =
    let o = c.args.options in
    let cmp = g.C.Comparator.cmp in
    let short_keys = g.C.Comparator.short_keys in
    let lists : List (List Entry) = outputs_of c.args.grandparents.now o (joined_run c.args.runs.now) in
    let made : IsMade o c.in_ok-ended.ended.items lists = record { entries = c.in_ok-ended.ensures.entries; planned = c.in_ok-ended.ensures.planned } in
    let fits : c.args.first_number + length c.in_ok-ended.ended.items < 2 ^ 64 = omega arith in
    let large : are_small (numbered_from (table_size (index_keys cmp short_keys)) c.args.first_number c.in_ok-ended.ended.items) ≡ false =
    sym (ap are_small (c.deref.ensures.value ∙ c.in_ok-outputs.ensures.ok)) ∙ sym c.are_small.ensures ∙ c.if-not-are_small.true in
    record {
      outputs = FailsOrMemory-from c.of-then-not-are_small.result _
          (plan_large cmp short_keys o c.args.first_number c.in_ok-ended.ended.items lists made fits large ∙ ap Err (sym c.of-then-not-are_small.ensures));
      options = tt;
    }

pub plan_with-requires-clause-each : goal.plan_with-requires-clause-each
plan_with-requires-clause-each g c =
    let o = c.args.options in
    let cmp = g.C.Comparator.cmp in
    let short_keys = g.C.Comparator.short_keys in
    let run : Run = joined_run c.args.runs.now in
    let lists : List (List Entry) = outputs_of c.args.grandparents.now o run in
    let some : AllByRecursion (λ q. q ≢ []) lists = some_segments o 0 (stops c.args.grandparents.now o.file_size run.marks) run.kept in
    let made : IsMade o c.in_ok-ended.ended.items lists = record { entries = c.in_ok-ended.ensures.entries; planned = c.in_ok-ended.ensures.planned } in
    let small : are_small (numbered_from (table_size (index_keys cmp short_keys)) c.args.first_number c.in_ok-ended.ended.items) ≡ true =
    sym (ap are_small (c.deref.ensures.value ∙ c.in_ok-outputs.ensures.ok)) ∙ sym c.are_small.ensures ∙ c.if-not-are_small.false in
    subst (AllByRecursion (IsPlannedOutput (table cmp short_keys o) o)) (sym c.in_ok-outputs.ensures.ok)
    (plan_each cmp short_keys o c.args.first_number c.in_ok-ended.ended.items lists made some small)

pub plan_with-requires-clause-few : goal.plan_with-requires-clause-few
plan_with-requires-clause-few g c =
    let o = c.args.options in
    let cmp = g.C.Comparator.cmp in
    let short_keys = g.C.Comparator.short_keys in
    let small : are_small (numbered_from (table_size (index_keys cmp short_keys)) c.args.first_number c.in_ok-ended.ended.items) ≡ true =
    sym (ap are_small (c.deref.ensures.value ∙ c.in_ok-outputs.ensures.ok)) ∙ sym c.are_small.ensures ∙ c.if-not-are_small.false in
    subst (λ (ps : List PlannedOutput). block_count ps ≤ 2 ^ 40) (sym c.in_ok-outputs.ensures.ok)
    (plan_few cmp short_keys o c.args.first_number c.in_ok-ended.ended.items small)

pub returns : goal.returns
returns g c =
    let o = c.args.options in
    let cmp = g.C.Comparator.cmp in
    let short_keys = g.C.Comparator.short_keys in
    let lists : List (List Entry) = outputs_of c.args.grandparents.now o (joined_run c.args.runs.now) in
    let made : IsMade o c.in_ok-ended.ended.items lists = record { entries = c.in_ok-ended.ensures.entries; planned = c.in_ok-ended.ensures.planned } in
    let fits : c.args.first_number + length c.in_ok-ended.ended.items < 2 ^ 64 = omega arith in
    let small : are_small (numbered_from (table_size (index_keys cmp short_keys)) c.args.first_number c.in_ok-ended.ended.items) ≡ true =
    sym (ap are_small (c.deref.ensures.value ∙ c.in_ok-outputs.ensures.ok)) ∙ sym c.are_small.ensures ∙ c.if-not-are_small.false in
    let all = plan_made cmp short_keys o c.args.first_number c.in_ok-ended.ended.items lists made fits small
    ∙ ap (λ (ps : List PlannedOutput). Ok (map planned_of ps)) (sym c.in_ok-outputs.ensures.ok) in
    record {
      outputs = seen_outputs o c.in_ok-outputs.outputs.items c.plan_with.result _ c.plan_with.ensures all;
      options = seen_options o c.in_ok-outputs.outputs.items c.plan_with.result c.plan_with.ensures;
    }
