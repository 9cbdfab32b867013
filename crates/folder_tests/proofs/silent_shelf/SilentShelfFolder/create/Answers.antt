use Rattle.folder.specs.Calls.{Created, step_of}
use Rattle.folder.proofs.TellsLemmas.{tells_nothing}
use Rattle.folder_tests.proofs.silent_shelf.SilentShelfFolder.create.Goals as goal

pub returns-clause-change : goal.returns-clause-change
returns-clause-change c = tells_nothing (step_of (Created c.args.name.now c.args.bytes.now) c.create.result) (λ name held. Unit {0})
