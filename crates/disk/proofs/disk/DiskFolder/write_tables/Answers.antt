use Rattle.folder.specs.Calls.{Written, step_of}
use Rattle.folder.specs.TableFiles.{table_files}
use Rattle.folder.proofs.TellsLemmas.{tells_nothing}
use Rattle.disk.proofs.disk.DiskFolder.write_tables.Goals as goal

pub returns-clause-change : goal.returns-clause-change
returns-clause-change g c = tells_nothing (step_of (Written (table_files c.args.tables.now)) c.wrote.result) (λ name held. Unit {0})
