use Rattle.std.proofs.Common.{◌≡◌, ◌++◌, take}
use Rattle.table.specs.Table.{table}
use Rattle.cut.specs.Plan.{plan_tables}
use Rattle.compact.specs.GroupedAnswer.{table_sizes}
use Rattle.compact.proofs.grouped_plan.push_sizes.Given as goal

-- the sizes so far are those of the tables so far
abbrev pub invariant-loop-place : goal.invariant-loop-place
invariant-loop-place g l = l.sizes.items
    ≡ l.fn.sizes.items ++ table_sizes (plan_tables (table g.C.Comparator.cmp g.C.Comparator.short_keys l.plan.options) (take l.place l.plan.outputs))
