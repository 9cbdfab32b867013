use Rattle.std.proofs.Common.{List, ℕ, Result, Ok, Err, IfOk, IfErr, sym, subst, arith, codes}
use Rattle.edit.specs.Answers.{HoldsOrMemory, UnlessMemory}
use Rattle.edit.specs.fault.Fault.{Fault}
use Rattle.edit.specs.Edit.{IsEdit, IsEditRefused, edit_in}
use Rattle.edit.specs.declared.version_edit.VersionEdit.{VersionEdit}
use Rattle.folder.proofs.OpeningLemmas.{answers_alone, hands_on}
use Rattle.folder.specs.OpenAnswer.{IsFileReading}
use Rattle.store.specs.OpenedAfter.{IsEditAnswer}
use Rattle.store.proofs.Flow.{first_passed, first_refused}
use Rattle.adoption.specs.Adoption.{IsEditGiven}
use Rattle.adoption.proofs.given_outcome.given_edit.Goals as goal

edit_answers : (bytes : List ℕ) (r : Result VersionEdit Fault) → IfOk r (λ e. IsEdit bytes (edit_in e)) → IfErr r (λ e. UnlessMemory e (IsEditRefused bytes e)) → HoldsOrMemory edit_in r (IsEditAnswer bytes)
edit_answers bytes (Ok e) found refused = found
edit_answers bytes (Err e) found refused = refused

pub returns-in_err-bytes-clause-answer : goal.returns-in_err-bytes-clause-answer
returns-in_err-bytes-clause-answer g c =
    let failed = g.G.Folder.failed in
    let tells = g.G.Folder.tells c.args.source.now in
    let e = c.in_err-bytes.field-0.0 in
    hands_on edit_in (failed c.args.source.now) (failed c.args.source.now) (failed c.held_edit.new.source) c.from_residual.result e (IsFileReading tells (codes "EDIT")) (IsEditGiven tells)
    c.from_residual.ensures.1 (omega arith) c.held_edit.ensures.device.later c.in_err-bytes.ensures.answer (λ h. first_refused (IsFileReading tells (codes "EDIT")) IsEditAnswer e h)

pub returns-clause-answer : goal.returns-clause-answer
returns-clause-answer g c =
    let failed = g.G.Folder.failed in
    let tells = g.G.Folder.tells c.args.source.now in
    let bytes = c.deref.result.now in
    let held = subst (λ (b : List ℕ). IsFileReading tells (codes "EDIT") (Ok b)) (sym c.deref.ensures.value) c.in_ok-bytes.ensures.answer in
    answers_alone edit_in (failed c.args.source.now) (failed c.held_edit.new.source) c.decode.result (IsEditAnswer bytes) (IsEditGiven tells)
    (λ a h. first_passed (IsFileReading tells (codes "EDIT")) IsEditAnswer bytes a held h) (edit_answers bytes c.decode.result c.decode.ensures.found c.decode.ensures.refused)
