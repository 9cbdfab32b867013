use Rattle.folder.specs.Calls.{Removed, step_of}
use Rattle.folder.proofs.TellsLemmas.{tells_nothing}
use Rattle.folder_tests.proofs.silent_shelf.SilentShelfFolder.remove.Goals as goal

pub returns-clause-change : goal.returns-clause-change
returns-clause-change c = tells_nothing (step_of (Removed c.args.name.now) c.remove.result) (λ name held. Unit {0})
