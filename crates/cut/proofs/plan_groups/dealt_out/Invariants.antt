use Rattle.std.proofs.Common.{◌+◌, ◌≤◌, ◌^◌}
use Rattle.std.specs.List.{AllByRecursion}
use Rattle.std.specs.Vec.Iter.{into_iter_items}
use Rattle.table.specs.Table.{table}
use Rattle.cut.specs.PlanInvariant.{IsPlannedOutput, block_count}
use Rattle.cut.proofs.Grouped.{AreDealt, plan_seen}
use Rattle.cut.proofs.plan_groups.dealt_out.Given as goal

abbrev pub invariant-loop-output : goal.invariant-loop-output
invariant-loop-output g l =
    let ahead = into_iter_items l.output-iterator in
    record {
      dealt : AreDealt (plan_seen l.options) l.most l.fn.outputs.items l.groups.items l.latest.items ahead;
      each : AllByRecursion (IsPlannedOutput (table g.C.Comparator.cmp g.C.Comparator.short_keys l.options) l.options) l.latest.items;
      coming : AllByRecursion (IsPlannedOutput (table g.C.Comparator.cmp g.C.Comparator.short_keys l.options) l.options) ahead;
      few : block_count l.latest.items + block_count ahead ≤ 2 ^ 40;
    }
