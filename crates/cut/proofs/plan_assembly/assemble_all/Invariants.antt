use Rattle.std.proofs.Common.{◌≡◌, map, take, drop}
use Rattle.std.specs.Vec.Iter.{into_iter_items}
use Rattle.table.specs.Table.{index_keys}
use Rattle.cut.specs.PlanTables.{stored_each, tables_of}
use Rattle.cut.proofs.plan_assembly.assemble_all.Given as goal

abbrev pub invariant-loop-output : goal.invariant-loop-output
invariant-loop-output g l = record {
  left : map (λ p. p.items) (into_iter_items l.rest) ≡ stored_each l.interval (drop l.output-index l.outputs);
  tables : map (λ t. (t.0, t.1.items)) l.tables.items ≡ tables_of (index_keys g.C.Comparator.cmp g.C.Comparator.short_keys) l.interval (take l.output-index l.outputs);
}
