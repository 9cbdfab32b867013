use Rattle.std.proofs.Common.{map, ◌≡◌, length}
use Rattle.checks.specs.TableReadings.{tables_reading}
use Rattle.checks.proofs.Lent.{lent_table}
use Rattle.checks.proofs.TableRounds.{tables_after}
use Rattle.checks.proofs.rounds.check_rounds.Given as goal

abbrev pub invariant-loop-rest : goal.invariant-loop-rest
invariant-loop-rest g l =
    tables_after l.tables.items (tables_reading g.C.Comparator.cmp (map lent_table l.rest)) ≡ tables_reading g.C.Comparator.cmp (map lent_table l.loaded)

abbrev pub decreases-loop-rest : goal.decreases-loop-rest
decreases-loop-rest g l = length l.rest
