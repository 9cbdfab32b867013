use Rattle.std.proofs.Common.{[], ◌∷◌, sym, subst}
use Rattle.shelf.specs.Alters.{Alters}
use Rattle.folder.specs.Calls.{Step, Written}
use Rattle.shelf.specs.Shelf.{files_after_steps}
use Rattle.shelf.proofs.ShelfLemmas.{then_synced, tried_of}
use Rattle.shelf.proofs.call_record.CallRecord.record_file.Goals as goal

pub returns-in_err-record-clause-change : goal.returns-in_err-record-clause-change
returns-in_err-record-clause-change c = λ files.
    let old = c.args.self.now in
    let new = c.record.new.self in
    subst (λ (s : Step). Alters s (files_after_steps old.steps files) (files_after_steps new.steps files)) (sym (tried_of _ (Written ((c.args.name.now, c.args.bytes.now) ∷ [])) c.from_residual.result c.from_residual.ensures.1)) (c.in_err-record.ensures.change files)

pub returns-clause-change : goal.returns-clause-change
returns-clause-change c = λ files.
    let old = c.args.self.now in
    let made = c.record.new.self in
    let new = c.record-2.new.self in
    then_synced c.args.name.now c.args.bytes.now c.record-2.result (files_after_steps old.steps files) (files_after_steps made.steps files) (files_after_steps new.steps files) (c.in_ok-record.ensures.change files) (c.record-2.ensures.change files)
