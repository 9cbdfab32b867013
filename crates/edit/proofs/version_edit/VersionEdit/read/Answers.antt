use Rattle.std.proofs.Common.{◌≢◌, [], length, sym, ap, ◌∙◌, arith}
use Rattle.std.proofs.lemmas.Result.{err_from_is_err_and}
use Rattle.std.proofs.lemmas.Bool.{eqb-false}
use Rattle.edit.specs.Edit.{IsEditRefused, edit_in}
use Rattle.edit.specs.CodeFields.{field_in}
use Rattle.edit.proofs.Edits.{reads_begin, reads_on, reads_refused, field_shorter}
use Rattle.coding.proofs.Refusals.{unless}
use Rattle.edit.proofs.version_edit.VersionEdit.read.Goals as goal

pub loop-rest-init : goal.loop-rest-init
loop-rest-init c = rw c.empty-edit.ensures (reads_begin c.args.bytes.now (λ i. omega (arith, c.type_inv.bytes i)))

pub returns-in_err-field-clause-refused : goal.returns-in_err-field-clause-refused
returns-in_err-field-clause-refused c =
    let p = err_from_is_err_and c.from_residual.result c.from_residual.ensures.1 in
    let some : c.loop-rest.rest.now ≢ [] = λ e. eqb-false _ _ (sym c.is_empty.ensures ∙ c.loop-rest-test.true) (ap length e) in
    rw (p.1, p.2) (unless c.in_err-field.field-0.0 (IsEditRefused c.args.bytes.now c.in_err-field.field-0.0)
    (reads_refused c.args.bytes.now (edit_in c.loop-rest.edit) c.loop-rest.rest.now c.in_err-field.field-0.0 c.loop-rest.invariant some (sym c.in_err-field.ensures)))

pub loop-rest-smaller : goal.loop-rest-smaller
loop-rest-smaller c =
    field_shorter c.args.bytes.now (edit_in c.loop-rest.edit) c.loop-rest.rest.now (field_in c.in_ok-field.field, c.in_ok-field.behind.now) c.loop-rest.invariant (sym c.in_ok-field.ensures)

pub loop-rest-preserved : goal.loop-rest-preserved
loop-rest-preserved c =
    rw c.in_ok-set.ensures.ok (reads_on c.args.bytes.now (edit_in c.loop-rest.edit) c.loop-rest.rest.now (field_in c.in_ok-field.field, c.in_ok-field.behind.now) c.loop-rest.invariant (sym c.in_ok-field.ensures))
