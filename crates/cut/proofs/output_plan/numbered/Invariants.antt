use Rattle.std.proofs.Common.{◌≡◌, ◌+◌, length}
use Rattle.table.specs.Table.{index_keys}
use Rattle.cut.specs.PlanInvariant.{numbered_from}
use Rattle.cut.specs.TableLength.{table_size}
use Rattle.cut.proofs.output_plan.numbered.Given as goal

abbrev pub invariant-loop-blocks : goal.invariant-loop-blocks
invariant-loop-blocks g l = record {
  outputs : l.outputs.items ≡ numbered_from (table_size (index_keys g.C.Comparator.cmp g.C.Comparator.short_keys)) l.first_number l.yielded;
  number : l.number ≡ l.first_number + length l.yielded;
}
