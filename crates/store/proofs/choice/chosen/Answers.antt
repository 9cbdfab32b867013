use Rattle.pick.specs.PickedInputs.{picked_in}
use Rattle.store.specs.Choice.{IsChosen}
use Rattle.store.specs.InputsCompaction.{IsChoiceAnswer, IsOrderlyAnswer}
use Rattle.store.proofs.Flow.{first_passed, first_refused}
use Rattle.store.proofs.PartAnswers.{handed_holds, holds_weaker}
use Rattle.store.proofs.choice.chosen.Goals as goal

pub returns-in_err-test_files : goal.returns-in_err-test_files
returns-in_err-test_files g c =
    let cmp = g.C.Comparator.cmp in
    let v = c.args.version.now in
    let e = c.in_err-test_files.field-0.0 in
    handed_holds picked_in c.from_residual.result e (IsOrderlyAnswer cmp v) (IsChoiceAnswer cmp v c.args.choice) c.from_residual.ensures.1 c.in_err-test_files.ensures
    (λ h. first_refused (IsOrderlyAnswer cmp v) (λ (passed : Unit {0}). IsChosen cmp v c.args.choice) e h)

pub returns : goal.returns
returns g c =
    let cmp = g.C.Comparator.cmp in
    let v = c.args.version.now in
    holds_weaker picked_in c.choice_inputs.result (IsChosen cmp v c.args.choice) (IsChoiceAnswer cmp v c.args.choice)
    (λ a h. first_passed (IsOrderlyAnswer cmp v) (λ (passed : Unit {0}). IsChosen cmp v c.args.choice) tt a c.in_ok-test_files.ensures h) c.choice_inputs.ensures
