use Rattle.std.proofs.Common.{refl}
use Rattle.shelf.specs.Shelf.{files_after_steps}
use Rattle.folder.specs.TableFiles.{named_tables}
use Rattle.shelf.proofs.ShelfLemmas.{unaltered}
use Rattle.shelf.proofs.call_record.CallRecord.record_made.Goals as goal

pub returns-in-None-clause-change : goal.returns-in-None-clause-change
returns-in-None-clause-change c = λ tables given files.
    let now = files_after_steps c.args.self.now.steps files in
    unaltered (named_tables tables) now now refl
