use Rattle.folder.specs.Calls.{Created, step_of}
use Rattle.shelf.proofs.ShelfLemmas.{lent, wrote}
use Rattle.shelf.proofs.shelf.ShelfFolder.create.Goals as goal

pub returns-clause-change : goal.returns-clause-change
returns-clause-change c = wrote (step_of (Created c.args.name.now c.args.bytes.now) c.write.result) (lent c.self.inside.start.now) c.self.inside.history c.write.new.self c.args.self.now c.self.view_is c.write.ensures.change
