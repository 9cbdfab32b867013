use Rattle.std.proofs.Common.{◌≡◌, ◌++◌, ◌∷◌, [], List, Ok, length, map, sym, ap, subst, ◌∙◌, arith}
use Rattle.std.proofs.lemmas.Bool.{eqb-true, eqb-false}
use Rattle.std.proofs.lemmas.List.{nil_from_length}
use Rattle.std.specs.List.{AllByRecursion}
use Rattle.std.specs.Vec.Iter.{into_iter_items}
use Rattle.table.specs.Table.{table}
use Rattle.cut.specs.declared.planned_output.PlannedOutput.{PlannedOutput}
use Rattle.cut.specs.Groups.{groups_after}
use Rattle.cut.specs.OutputPlan.{PlanSeen}
use Rattle.cut.specs.PlanInvariant.{IsPlannedOutput, block_count}
use Rattle.cut.proofs.Grouped.{all_more, count_more, count_ahead, dealt_open, dealt_full, dealt_end, dealt_rest, plan_seen, seen_groups}
use Rattle.cut.proofs.plan_groups.dealt_out.Goals as goal
use Rattle.cut.proofs.plan_groups.dealt_out.Goals.{then-not-is_empty+in_ok-push_group-2, else-not-is_empty}

pub loop-output-init : goal.loop-output-init
loop-output-init g c =
    let P = IsPlannedOutput (table g.C.Comparator.cmp g.C.Comparator.short_keys c.args.options) c.args.options in
    let f : List PlannedOutput → PlanSeen = plan_seen c.args.options in
    let n = c.args.most in
    let began : into_iter_items c.into_iter-output-iterator.result ≡ c.args.outputs.items = c.into_iter-output-iterator.ensures.into_iter_gives.0 in
    let none : c.new-latest.result.items ≡ [] = c.new-latest.ensures.items in
    let zero : block_count c.new-latest.result.items ≡ 0 = ap block_count none in
    let count : block_count (into_iter_items c.into_iter-output-iterator.result) ≡ block_count c.args.outputs.items = ap block_count began in
    record {
      dealt =
          ap (λ (gs : List PlanSeen). gs ++ map f (groups_after n c.new-latest.result.items (into_iter_items c.into_iter-output-iterator.result))) c.new-groups.ensures.items
          ∙ ap (λ (xs : List PlannedOutput). map f (groups_after n xs (into_iter_items c.into_iter-output-iterator.result))) none
          ∙ ap (λ (xs : List PlannedOutput). map f (groups_after n [] xs)) began;
      each = subst (AllByRecursion P) (sym none) tt;
      coming = subst (AllByRecursion P) (sym began) c.requires.each;
      few = omega (arith, c.requires.few, zero, count);
    }

pub push_group-requires-then-not-is_empty-clause-each : goal.push_group-requires-then-not-is_empty-clause-each
push_group-requires-then-not-is_empty-clause-each g c = c.loop-output.invariant.each

pub push_group-requires-then-not-is_empty-clause-few : goal.push_group-requires-then-not-is_empty-clause-few
push_group-requires-then-not-is_empty-clause-few g c = omega (arith, c.loop-output.invariant.few)

pub push_group-requires-clause-each : goal.push_group-requires-clause-each
push_group-requires-clause-each g c =
    let P = IsPlannedOutput (table g.C.Comparator.cmp g.C.Comparator.short_keys c.args.options) c.args.options in
    let x : PlannedOutput = c.in-Some.output in
    let ahead = subst (AllByRecursion P) c.in-Some.ensures.steps.0 c.loop-output.invariant.coming in
    subst (AllByRecursion P) (sym (ap (λ v. v.items) c.replace-full.ensures.value ∙ c.in_ok-push.ensures.items))
    (all_more P c.loop-output.latest.items x c.loop-output.invariant.each ahead.0)

pub push_group-requires-clause-few : goal.push_group-requires-clause-few
push_group-requires-clause-few g c =
    let x : PlannedOutput = c.in-Some.output in
    let rest = into_iter_items c.next.new.self in
    let more = count_more c.loop-output.latest.items c.push.new.self.items x c.in_ok-push.ensures.items in
    let ahead = count_ahead (into_iter_items c.loop-output.output-iterator) rest x c.in-Some.ensures.steps.0 in
    let full = ap (λ v. block_count v.items) c.replace-full.ensures.value in
    omega (arith, c.loop-output.invariant.few, more, ahead, full)

pub loop-output-preserved-in-Continue-branch-2 : goal.loop-output-preserved-in-Continue-branch-2
loop-output-preserved-in-Continue-branch-2 g c =
    let P = IsPlannedOutput (table g.C.Comparator.cmp g.C.Comparator.short_keys c.args.options) c.args.options in
    let x : PlannedOutput = c.in-Some.output in
    let latest = c.loop-output.latest.items in
    let rest = into_iter_items c.next.new.self in
    let next = c.in-Some.ensures.steps.0 in
    let ahead = subst (AllByRecursion P) next c.loop-output.invariant.coming in
    let count = count_ahead (into_iter_items c.loop-output.output-iterator) rest x next in
    let none : c.replace-full.new.dest.items ≡ [] = ap (λ v. v.items) c.replace-full.ensures.after ∙ c.new.ensures.items in
    let full : c.replace-full.result.items ≡ c.push.new.self.items = ap (λ v. v.items) c.replace-full.ensures.value in
    let pushed : c.push_group.new.groups.items ≡ c.loop-output.groups.items ++ plan_seen c.args.options c.push.new.self.items ∷ [] =
    c.in_ok-push_group.ensures.ok ∙ ap (λ (ps : List PlannedOutput). c.loop-output.groups.items ++ plan_seen c.args.options ps ∷ []) full in
    let dealt = dealt_full (plan_seen c.args.options) c.args.most c.args.outputs.items c.loop-output.groups.items latest c.push.new.self.items (into_iter_items c.loop-output.output-iterator) rest x next c.in_ok-push.ensures.items
    (omega (arith, c.len.ensures, c.if-len-most.true)) c.loop-output.invariant.dealt in
    let zero : block_count c.replace-full.new.dest.items ≡ 0 = ap block_count none in
    let f : List PlannedOutput → PlanSeen = plan_seen c.args.options in
    record {
      dealt =
          ap (λ (gs : List PlanSeen). gs ++ map f (groups_after c.args.most c.replace-full.new.dest.items rest)) pushed
          ∙ ap (λ (xs : List PlannedOutput). (c.loop-output.groups.items ++ f c.push.new.self.items ∷ []) ++ map f (groups_after c.args.most xs rest)) none
          ∙ dealt;
      each = subst (AllByRecursion P) (sym none) tt;
      coming = ahead.1;
      few = omega (arith, c.loop-output.invariant.few, count, zero);
    }

pub loop-output-preserved : goal.loop-output-preserved
loop-output-preserved g c =
    let P = IsPlannedOutput (table g.C.Comparator.cmp g.C.Comparator.short_keys c.args.options) c.args.options in
    let x : PlannedOutput = c.in-Some.output in
    let latest = c.loop-output.latest.items in
    let rest = into_iter_items c.next.new.self in
    let next = c.in-Some.ensures.steps.0 in
    let ahead = subst (AllByRecursion P) next c.loop-output.invariant.coming in
    let count = count_ahead (into_iter_items c.loop-output.output-iterator) rest x next in
    let more = count_more latest c.push.new.self.items x c.in_ok-push.ensures.items in
    record {
      dealt = dealt_open (plan_seen c.args.options) c.args.most c.args.outputs.items c.loop-output.groups.items latest c.push.new.self.items (into_iter_items c.loop-output.output-iterator) rest x next c.in_ok-push.ensures.items
          (omega (arith, c.len.ensures, c.if-len-most.false)) c.loop-output.invariant.dealt;
      each = subst (AllByRecursion P) (sym c.in_ok-push.ensures.items) (all_more P latest x c.loop-output.invariant.each ahead.0);
      coming = ahead.1;
      few = omega (arith, c.loop-output.invariant.few, count, more);
    }

pub returns : goal.returns
returns g c =
    let o = c.args.options in
    let end : length (into_iter_items c.loop-output.output-iterator) ≡ 0 = omega (arith, c.in-None.ensures.steps.0, c.loop-output.output-iterator.rest.ok.0) in
    let dealt = c.loop-output.invariant.dealt in
    let all = seen_groups c.args.most o c.args.outputs.items in
    elim c.if-not-is_empty.branch [
      | then-not-is_empty+in_ok-push_group-2 w ↦
          ap (λ (ps : List PlanSeen). Ok ps)
          (sym (ap (λ v. v.items) w.groups-is ∙ w.in_ok-push_group-2.ensures.ok
          ∙ dealt_rest (plan_seen o) c.args.most c.args.outputs.items c.loop-output.groups.items c.loop-output.latest.items (into_iter_items c.loop-output.output-iterator) (λ none. eqb-false _ _ (sym c.is_empty.ensures ∙ w.if-not-is_empty.true) (omega (arith, ap length none, c.loop-output.latest.ok.0))) end dealt ∙ all))
      | else-not-is_empty w ↦
          ap (λ (ps : List PlanSeen). Ok ps)
          (sym (ap (λ v. v.items) w.groups-is
          ∙ dealt_end (plan_seen o) c.args.most c.args.outputs.items c.loop-output.groups.items c.loop-output.latest.items (into_iter_items c.loop-output.output-iterator)
          (nil_from_length c.loop-output.latest.items (omega (arith, eqb-true _ _ (sym c.is_empty.ensures ∙ w.if-not-is_empty.false), c.loop-output.latest.ok.0))) end dealt ∙ all))
    ]
