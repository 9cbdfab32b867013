use Rattle.std.proofs.Common.{◌≡◌, take}
use Rattle.checks.specs.HeldTables.{AreReadAs}
use Rattle.checks.proofs.held_tables.HeldTables.lend.Given as goal

-- these were lent, and the bytes of each read as what it holds
abbrev pub invariant-loop-table : goal.invariant-loop-table
invariant-loop-table g l = record {
  lent : l.lent.items ≡ take l.table-index l.tables;
  read : AreReadAs g.C.Comparator.cmp (take l.table-index l.tables);
}
