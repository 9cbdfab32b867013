use Rattle.std.proofs.Common.{map, ◌≡◌}
use Rattle.std.specs.Vec.Iter.{into_iter_items}
use Rattle.checks.specs.TableReadings.{tables_reading}
use Rattle.checks.proofs.Lent.{lent_table}
use Rattle.checks.proofs.TableRounds.{tables_after}
use Rattle.checks.proofs.found_tables.owned_tables.Given as goal

abbrev pub invariant-loop-pair : goal.invariant-loop-pair
invariant-loop-pair g l =
    tables_after l.tables.items (tables_reading g.C.Comparator.cmp (map lent_table (into_iter_items l.pair-iterator))) ≡ tables_reading g.C.Comparator.cmp (map lent_table l.fn.loaded.items)
