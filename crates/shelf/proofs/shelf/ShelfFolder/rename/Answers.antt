use Rattle.folder.specs.Calls.{Renamed, step_of}
use Rattle.shelf.proofs.ShelfLemmas.{lent, wrote}
use Rattle.shelf.proofs.shelf.ShelfFolder.rename.Goals as goal

pub returns-clause-change : goal.returns-clause-change
returns-clause-change c = wrote (step_of (Renamed c.args.from.now c.args.to.now) c.write.result) (lent c.self.inside.start.now) c.self.inside.history c.write.new.self c.args.self.now c.self.view_is c.write.ensures.change
