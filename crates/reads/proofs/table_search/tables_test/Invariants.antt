use Rattle.reads.proofs.Levels.{HaveTables}
use Rattle.reads.proofs.table_search.tables_test.Given as goal

abbrev pub invariant-loop-level : goal.invariant-loop-level
invariant-loop-level g l = HaveTables l.tables l.version.files l.level
