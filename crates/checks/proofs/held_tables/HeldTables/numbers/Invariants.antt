use Rattle.std.proofs.Common.{◌≡◌, take}
use Rattle.checks.specs.HeldTables.{held_numbers}
use Rattle.checks.proofs.held_tables.HeldTables.numbers.Given as goal

abbrev pub invariant-loop-table : goal.invariant-loop-table
invariant-loop-table g l = l.numbers.items ≡ held_numbers (take l.table-index l.tables)
