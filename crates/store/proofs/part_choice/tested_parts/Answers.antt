use Rattle.std.proofs.Common.{List, map}
use Rattle.pick.specs.Parts.{IsPartsAnswer}
use Rattle.pick.specs.PickedInputs.{PickedInputs, picked_in}
use Rattle.store.specs.InputsCompaction.{ArePartsFound, IsOrderlyAnswer}
use Rattle.store.proofs.Flow.{first_passed, first_refused}
use Rattle.store.proofs.PartAnswers.{handed_holds, holds_weaker}
use Rattle.store.proofs.part_choice.tested_parts.Goals as goal

pub returns-in_err-test_files : goal.returns-in_err-test_files
returns-in_err-test_files g c =
    let cmp = g.C.Comparator.cmp in
    let v = c.args.version.now in
    let e = c.in_err-test_files.field-0.0 in
    handed_holds (λ w. map picked_in w.items) c.from_residual.result e (IsOrderlyAnswer cmp v) (ArePartsFound cmp v c.args.level) c.from_residual.ensures.1 c.in_err-test_files.ensures
    (λ h. first_refused (IsOrderlyAnswer cmp v) (λ (passed : Unit {0}). IsPartsAnswer cmp v c.args.level) e h)

pub returns : goal.returns
returns g c =
    let cmp = g.C.Comparator.cmp in
    let v = c.args.version.now in
    holds_weaker (λ w. map picked_in w.items) c.finest_parts.result (IsPartsAnswer cmp v c.args.level) (ArePartsFound cmp v c.args.level)
    (λ a h. first_passed (IsOrderlyAnswer cmp v) (λ (passed : Unit {0}). IsPartsAnswer cmp v c.args.level) tt a c.in_ok-test_files.ensures h) c.finest_parts.ensures
