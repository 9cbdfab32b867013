use Rattle.folder.specs.Calls.{Removed, step_of}
use Rattle.folder.proofs.TellsLemmas.{tells_nothing}
use Rattle.disk.proofs.disk.DiskFolder.remove.Goals as goal

pub returns-clause-change : goal.returns-clause-change
returns-clause-change g c = tells_nothing (step_of (Removed c.args.name.now) c.write.result) (λ name held. Unit {0})
