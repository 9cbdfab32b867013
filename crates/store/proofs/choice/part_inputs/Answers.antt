use Rattle.std.proofs.Common.{◌≡◌, List, Result, refl, map}
use Rattle.folder.specs.fault.Fault.{Fault}
use Rattle.pick.specs.Parts.{IsPartsAnswer}
use Rattle.pick.specs.PickedInputs.{PickedInputs, picked_in}
use Rattle.store.specs.Choice.{IsChosen, part_of_number}
use Rattle.store.specs.declared.choice.Choice.TheVariants.{Part}
use Rattle.store.proofs.Flow.{first_passed, first_refused}
use Rattle.store.proofs.PartAnswers.{equal_holds, handed_holds}
use Rattle.store.proofs.choice.part_inputs.Goals as goal

pub returns-in_err-parts : goal.returns-in_err-parts
returns-in_err-parts g c =
    let cmp = g.C.Comparator.cmp in
    let v = c.args.version.now in
    let e = c.in_err-parts.field-0.0 in
    handed_holds picked_in c.from_residual.result e (IsPartsAnswer cmp v c.args.level) (IsChosen cmp v (Part c.args.level c.args.number)) c.from_residual.ensures.1 c.in_err-parts.ensures
    (λ h. first_refused (IsPartsAnswer cmp v c.args.level) (λ (parts : List PickedInputs) (inputs : Result PickedInputs Fault). inputs ≡ part_of_number c.args.number parts) e h)

pub returns : goal.returns
returns g c =
    let cmp = g.C.Comparator.cmp in
    let v = c.args.version.now in
    let number = c.args.number in
    let parts = map picked_in c.in_ok-parts.parts.items in
    equal_holds picked_in c.part_at.result (part_of_number number parts) (IsChosen cmp v (Part c.args.level number))
    (first_passed (IsPartsAnswer cmp v c.args.level) (λ (ps : List PickedInputs) (inputs : Result PickedInputs Fault). inputs ≡ part_of_number number ps) parts (part_of_number number parts) c.in_ok-parts.ensures refl)
    c.part_at.ensures
