use Rattle.folder.specs.Calls.{Synced, step_of}
use Rattle.folder.proofs.TellsLemmas.{tells_nothing}
use Rattle.folder_tests.proofs.silent_shelf.SilentShelfFolder.sync.Goals as goal

pub returns-clause-change : goal.returns-clause-change
returns-clause-change c = tells_nothing (step_of (Synced c.args.name.now) c.sync.result) (λ name held. Unit {0})
