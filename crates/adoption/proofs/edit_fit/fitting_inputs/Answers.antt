use Rattle.std.proofs.Common.{◌≡◌, ℕ, List, Some, Ok, Err, sym, ap, subst, ◌∙◌}
use Rattle.checks.proofs.LawfulLemmas.{handed_on}
use Rattle.edit.proofs.Binds.{ok_is}
use Rattle.edit.proofs.Refusals.{unless}
use Rattle.edit.specs.Answers.{UnlessMemory, fault}
use Rattle.edit.specs.fault.Fault.{Fault}
use Rattle.edit.specs.fault.FaultName.TheVariants.{Apply}
use Rattle.edit.specs.Edit.{edit_in}
use Rattle.pick.specs.PickedInputs.{picked_in}
use Rattle.adoption.specs.EditFit.{IsChoiceOf, IsFitting, deleted_numbers, only_pointer}
use Rattle.adoption.proofs.EditFitLemmas.{fits_so, no_choice, no_fit}
use Rattle.adoption.proofs.edit_fit.fitting_inputs.Goals as goal

pub returns-in_err-picked-clause-picked : goal.returns-in_err-picked-clause-picked
returns-in_err-picked-clause-picked g c =
    let cmp = g.C.Comparator.cmp in
    let v = c.args.version.now in
    let e = edit_in c.args.edit.now in
    let pointer = c.in-Some.pointer.now in
    let f = c.in_err-picked.field-0.0 in
    let only : Some pointer ≡ only_pointer e.pointers = c.in-Some.ensures ∙ ap only_pointer c.deref.ensures.value in
    let numbers : c.deref-2.result.now ≡ deleted_numbers e = c.deref-2.ensures.value ∙ sym (ok_is (deleted_numbers e) c.in_ok-numbers.numbers.items c.in_ok-numbers.ensures) in
    handed_on picked_in c.from_residual-in_err-picked.result f (IsChoiceOf cmp v pointer (deleted_numbers e)) (IsFitting cmp v e) c.from_residual-in_err-picked.ensures.1
    (subst (λ (ns : List ℕ). UnlessMemory f (IsChoiceOf cmp v pointer ns (Err f))) numbers c.in_err-picked.ensures.picked) (no_choice cmp v e pointer only f)

pub returns-then-not-branch-clause-picked : goal.returns-then-not-branch-clause-picked
returns-then-not-branch-clause-picked g c =
    let cmp = g.C.Comparator.cmp in
    let v = c.args.version.now in
    let e = edit_in c.args.edit.now in
    let pointer = c.in-Some.pointer.now in
    let p = picked_in c.in_ok-picked.picked in
    let only : Some pointer ≡ only_pointer e.pointers = c.in-Some.ensures ∙ ap only_pointer c.deref.ensures.value in
    let numbers : c.deref-2.result.now ≡ deleted_numbers e = c.deref-2.ensures.value ∙ sym (ok_is (deleted_numbers e) c.in_ok-numbers.numbers.items c.in_ok-numbers.ensures) in
    subst (λ (f : Fault). UnlessMemory f (IsFitting cmp v e (Err f))) (sym c.of-then-not-branch.ensures)
    (unless (fault Apply) (IsFitting cmp v e (Err (fault Apply)))
    (no_fit cmp v e pointer only p (subst (λ (ns : List ℕ). IsChoiceOf cmp v pointer ns (Ok p)) numbers c.in_ok-picked.ensures.picked)
    (λ fit. let both = sym (c.in_ok-is_edit_for.ensures.exact.1 fit) ∙ c.if-not-branch.true in cc both)))

pub returns-clause-picked : goal.returns-clause-picked
returns-clause-picked g c =
    let cmp = g.C.Comparator.cmp in
    let v = c.args.version.now in
    let e = edit_in c.args.edit.now in
    let pointer = c.in-Some.pointer.now in
    let p = picked_in c.in_ok-picked.picked in
    let only : Some pointer ≡ only_pointer e.pointers = c.in-Some.ensures ∙ ap only_pointer c.deref.ensures.value in
    let numbers : c.deref-2.result.now ≡ deleted_numbers e = c.deref-2.ensures.value ∙ sym (ok_is (deleted_numbers e) c.in_ok-numbers.numbers.items c.in_ok-numbers.ensures) in
    fits_so cmp v e pointer only p (subst (λ (ns : List ℕ). IsChoiceOf cmp v pointer ns (Ok p)) numbers c.in_ok-picked.ensures.picked) (c.in_ok-is_edit_for.ensures.exact.0 c.if-not-branch.false)
