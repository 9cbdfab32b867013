use Rattle.folder.specs.Calls.{Renamed, step_of}
use Rattle.folder.proofs.TellsLemmas.{tells_nothing}
use Rattle.disk.proofs.disk.DiskFolder.rename.Goals as goal

pub returns-clause-change : goal.returns-clause-change
returns-clause-change g c = tells_nothing (step_of (Renamed c.args.from.now c.args.to.now) c.write.result) (λ name held. Unit {0})
