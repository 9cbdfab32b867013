use Rattle.std.proofs.Common.{length}
use Rattle.std.specs.Prelude.{Contains}
use Rattle.std.specs.List.{All}
use Rattle.checks.proofs.table_places.kept_tables.Given as goal

abbrev pub invariant-loop-table : goal.invariant-loop-table
invariant-loop-table g l = record {
  rest : All (Contains l.fn.held.items) l.rest.items;
  kept : All (Contains l.fn.held.items) l.kept.items;
}

abbrev pub decreases-loop-table : goal.decreases-loop-table
decreases-loop-table g l = length l.rest.items
