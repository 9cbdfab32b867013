use Rattle.folder.specs.Calls.{Created, step_of}
use Rattle.folder.proofs.TellsLemmas.{tells_nothing}
use Rattle.disk.proofs.disk.DiskFolder.create.Goals as goal

pub returns-clause-change : goal.returns-clause-change
returns-clause-change g c = tells_nothing (step_of (Created c.args.name.now c.args.bytes.now) c.write.result) (λ name held. Unit {0})
