use Rattle.std.proofs.Common.{◌≡◌, Ok, Err, refl}
use Rattle.checks.proofs.LawfulLemmas.{handed_on}
use Rattle.edit.specs.Edit.{edit_in}
use Rattle.pick.specs.PickedInputs.{picked_in}
use Rattle.store.specs.InputsCompaction.{IsOrderlyAnswer}
use Rattle.adoption.specs.Adoption.{IsAdoption, adoption_by}
use Rattle.adoption.specs.AdoptionIn.{adoption_in}
use Rattle.adoption.specs.EditFit.{IsFitting}
use Rattle.adoption.proofs.adopted_edit.adopted_edit.Goals as goal

pub returns-in_err-test_files-clause-answer : goal.returns-in_err-test_files-clause-answer
returns-in_err-test_files-clause-answer g c =
    let cmp = g.C.Comparator.cmp in
    let v = c.args.version.now in
    let e = c.in_err-test_files.field-0.0 in
    handed_on adoption_in c.from_residual.result e (IsOrderlyAnswer cmp v) (IsAdoption cmp v (edit_in c.args.edit)) c.from_residual.ensures.1 c.in_err-test_files.ensures (λ h. (Err e, (h, refl)))

pub returns-in_err-picked-clause-answer : goal.returns-in_err-picked-clause-answer
returns-in_err-picked-clause-answer g c =
    let cmp = g.C.Comparator.cmp in
    let v = c.args.version.now in
    let edit = edit_in c.args.edit in
    let e = c.in_err-picked.field-0.0 in
    handed_on adoption_in c.from_residual-in_err-picked.result e (IsFitting cmp v edit) (IsAdoption cmp v edit) c.from_residual-in_err-picked.ensures.1 c.in_err-picked.ensures.picked
    (λ h. (Ok tt, (c.in_ok-test_files.ensures, (Err e, (h, refl)))))

pub returns-in_err-adopted-clause-answer : goal.returns-in_err-adopted-clause-answer
returns-in_err-adopted-clause-answer g c =
    let cmp = g.C.Comparator.cmp in
    let v = c.args.version.now in
    let edit = edit_in c.args.edit in
    let p = picked_in c.in_ok-picked.picked in
    let e = c.in_err-adopted.field-0.0 in
    handed_on adoption_in c.from_residual-in_err-adopted.result e (λ made. adoption_by v p edit ≡ made) (IsAdoption cmp v edit) c.from_residual-in_err-adopted.ensures.1 c.in_err-adopted.ensures.answer
    (λ h. (Ok tt, (c.in_ok-test_files.ensures, (Ok p, (c.in_ok-picked.ensures.picked, (Err e, (h, refl)))))))

pub returns-in_err-test_files-2-clause-answer : goal.returns-in_err-test_files-2-clause-answer
returns-in_err-test_files-2-clause-answer g c =
    let cmp = g.C.Comparator.cmp in
    let v = c.args.version.now in
    let edit = edit_in c.args.edit in
    let p = picked_in c.in_ok-picked.picked in
    let a = adoption_in c.in_ok-adopted.adopted in
    let e = c.in_err-test_files-2.field-0.0 in
    handed_on adoption_in c.from_residual-in_err-test_files-2.result e (IsOrderlyAnswer cmp a.next) (IsAdoption cmp v edit) c.from_residual-in_err-test_files-2.ensures.1 c.in_err-test_files-2.ensures
    (λ h. (Ok tt, (c.in_ok-test_files.ensures, (Ok p, (c.in_ok-picked.ensures.picked, (Ok a, (c.in_ok-adopted.ensures.answer, (Err e, (h, refl)))))))))

pub returns-clause-answer : goal.returns-clause-answer
returns-clause-answer g c =
    let p = picked_in c.in_ok-picked.picked in
    let a = adoption_in c.in_ok-adopted.adopted in
    (Ok tt, (c.in_ok-test_files.ensures, (Ok p, (c.in_ok-picked.ensures.picked, (Ok a, (c.in_ok-adopted.ensures.answer, (Ok tt, (c.in_ok-test_files-2.ensures, refl))))))))
