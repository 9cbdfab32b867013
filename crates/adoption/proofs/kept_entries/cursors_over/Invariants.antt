use Rattle.std.proofs.Common.{◌≡◌, map, take}
use Rattle.adoption.proofs.kept_entries.cursors_over.Given as goal

abbrev pub invariant-loop-table : goal.invariant-loop-table
invariant-loop-table g l = l.cursors.items ≡ map (λ t. t.entries) (take l.table-index l.tables)
