use Rattle.folder.specs.Calls.{FolderSynced, step_of}
use Rattle.folder.proofs.TellsLemmas.{tells_nothing}
use Rattle.folder_tests.proofs.silent_shelf.SilentShelfFolder.sync_folder.Goals as goal

pub returns-clause-change : goal.returns-clause-change
returns-clause-change c = tells_nothing (step_of (FolderSynced) c.sync_folder.result) (λ name held. Unit {0})
