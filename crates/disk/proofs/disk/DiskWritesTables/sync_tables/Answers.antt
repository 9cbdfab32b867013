use Rattle.folder.specs.Calls.{Written, step_of}
use Rattle.folder.specs.TableFiles.{named_tables}
use Rattle.folder.proofs.TellsLemmas.{tells_nothing}
use Rattle.disk.proofs.disk.DiskWritesTables.sync_tables.Goals as goal

pub returns-clause-change : goal.returns-clause-change
returns-clause-change g c = tells_nothing (step_of (Written (named_tables c.args.tables.now.tables)) c.wrote.result) (λ name held. Unit {0})
