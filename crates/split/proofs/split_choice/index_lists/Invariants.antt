use Rattle.std.proofs.Common.{◌≡◌, map, take}
use Rattle.split.proofs.split_choice.index_lists.Given as goal

abbrev pub invariant-loop-table : goal.invariant-loop-table
invariant-loop-table g l = l.lists.items ≡ map (λ table. table.index_users) (take l.table-index l.tables)
