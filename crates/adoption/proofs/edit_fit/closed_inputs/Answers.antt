use Rattle.std.proofs.Common.{◌≡◌, ◌+◌, nat_lt, Option, Some, None, Result, Ok, Err, sym, ap, subst, ◌∙◌}
use Rattle.checks.proofs.LawfulLemmas.{handed_on}
use Rattle.edit.proofs.Refusals.{unless}
use Rattle.edit.specs.Answers.{UnlessMemory, fault}
use Rattle.edit.specs.fault.Fault.{Fault}
use Rattle.edit.specs.fault.FaultName.TheVariants.{Apply}
use Rattle.pick.specs.ClosedChoice.{missing_answer}
use Rattle.pick.specs.PickedInputs.{picked_in}
use Rattle.pick.specs.declared.picked_inputs.InputFile.{InputFile}
use Rattle.adoption.specs.EditFit.{IsChoiceOf, IsNumbered}
use Rattle.adoption.proofs.EditFitLemmas.{closed_so, level_of, never_refused, none_closed, none_is, not_closed, some_is}
use Rattle.adoption.proofs.edit_fit.closed_inputs.Goals as goal

pub returns-in_err-picked-clause-picked : goal.returns-in_err-picked-clause-picked
returns-in_err-picked-clause-picked g c =
    let cmp = g.C.Comparator.cmp in
    let v = c.args.version.now in
    let pointer = c.args.pointer.now in
    let numbers = c.args.numbers.now in
    let f = c.in_err-picked.field-0.0 in
    handed_on picked_in c.from_residual.result f (IsNumbered cmp v pointer numbers) (IsChoiceOf cmp v pointer numbers) c.from_residual.ensures.1 c.in_err-picked.ensures.picked (none_closed cmp v pointer numbers f)

pub returns-in_err-missing-clause-picked : goal.returns-in_err-missing-clause-picked
returns-in_err-missing-clause-picked g c =
    let cmp = g.C.Comparator.cmp in
    let v = c.args.version.now in
    let pointer = c.args.pointer.now in
    let numbers = c.args.numbers.now in
    let p = picked_in c.in_ok-picked.picked in
    let f = c.in_err-missing.field-0.0 in
    handed_on picked_in c.from_residual-in_err-missing.result f (λ (o : Result (Option InputFile) Fault). missing_answer cmp v p.level numbers ≡ o) (IsChoiceOf cmp v pointer numbers) c.from_residual-in_err-missing.ensures.1 c.in_err-missing.ensures.answer
    (λ is. absurd (never_refused cmp v pointer numbers p c.in_ok-picked.ensures.picked f is))

pub returns-then-is_some-clause-picked : goal.returns-then-is_some-clause-picked
returns-then-is_some-clause-picked g c =
    let cmp = g.C.Comparator.cmp in
    let v = c.args.version.now in
    let pointer = c.args.pointer.now in
    let numbers = c.args.numbers.now in
    let p = picked_in c.in_ok-picked.picked in
    subst (λ (f : Fault). UnlessMemory f (IsChoiceOf cmp v pointer numbers (Err f))) (sym c.of.ensures)
    (unless (fault Apply) (IsChoiceOf cmp v pointer numbers (Err (fault Apply)))
    (not_closed cmp v pointer numbers p c.in_ok-picked.ensures.picked
    (λ closed. some_is c.in_ok-missing.missing (sym c.is_some.ensures ∙ c.if-is_some.true) (c.in_ok-missing.ensures.closed.1 closed))))

pub returns-clause-picked : goal.returns-clause-picked
returns-clause-picked g c =
    closed_so g.C.Comparator.cmp c.args.version.now c.args.pointer.now c.args.numbers.now (picked_in c.in_ok-picked.picked) c.in_ok-picked.ensures.picked
    (c.in_ok-missing.ensures.closed.0 (none_is c.in_ok-missing.missing (sym c.is_some.ensures ∙ c.if-is_some.false)))

pub returns-clause-level : goal.returns-clause-level
returns-clause-level g c = level_of g.C.Comparator.cmp c.args.version.now c.args.pointer.now c.args.numbers.now (picked_in c.in_ok-picked.picked) c.in_ok-picked.ensures.picked
