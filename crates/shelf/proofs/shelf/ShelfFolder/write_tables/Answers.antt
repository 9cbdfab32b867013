use Rattle.folder.specs.Calls.{Written, step_of}
use Rattle.folder.specs.TableFiles.{table_files}
use Rattle.shelf.specs.Shelf.{held_by}
use Rattle.shelf.proofs.ShelfLemmas.{handed_on, lent, told, wrote}
use Rattle.shelf.proofs.shelf.ShelfFolder.write_tables.Goals as goal

pub returns-clause-change : goal.returns-clause-change
returns-clause-change g c =
    let made = c.record_tables-answer in
    let call = Written (table_files c.args.tables.now) in
    let files = lent c.self.inside.start.now in
    handed_on call c.wrote.result made.result (told (held_by c.args.self.now)) files made.new.self c.wrote.new.self c.wrote.ensures.answer c.wrote.ensures.steps
    (wrote (step_of call made.result) files c.self.inside.history made.new.self c.args.self.now c.self.view_is made.ensures.change)
