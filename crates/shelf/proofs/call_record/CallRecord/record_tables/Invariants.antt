use Rattle.std.proofs.Common.{◌≡◌, take}
use Rattle.shelf.specs.Alters.{with_files}
use Rattle.folder.specs.Calls.{Files}
use Rattle.shelf.specs.Shelf.{files_after_steps}
use Rattle.folder.specs.TableFiles.{table_files}
use Rattle.shelf.proofs.call_record.CallRecord.record_tables.Given as goal

-- the tables so far were made and synced
abbrev pub invariant-loop-table : goal.invariant-loop-table
invariant-loop-table l = record {
  change : (files : Files) → files_after_steps l.self.steps files ≡ with_files (files_after_steps l.fn.self.steps files) (table_files (take l.table-index l.tables));
  failures : l.self.failures ≡ l.fn.self.failures;
  trail : l.self.trail ≡ l.fn.self.trail;
  readings : l.self.readings ≡ l.fn.self.readings;
}
