-- Which inputs of a version are compacted.
use Rattle.std.specs.Prelude.{◌≡◌, ℕ, zero, suc, List, slice_get, Result, Err}
use Rattle.std.specs.Option.{ok_or}
use Rattle.folder.specs.Answers.{IsThen, fault}
use Rattle.folder.specs.fault.Fault.{Fault}
use Rattle.folder.specs.fault.FaultName.TheVariants.{NoInput}
use Rattle.folder.specs.Comparator.{KeyOrder}
use Rattle.folder.specs.Version.{State}
use Rattle.pick.specs.Parts.{IsPartsAnswer}
use Rattle.pick.specs.PickedInputs.{IsInputsAnswer, PickedInputs}
use Rattle.store.specs.declared.choice.Choice.{Choice}
use Rattle.store.specs.declared.choice.Choice.TheVariants.{Part, Picked}

-- the part of a number, the first of which is 1; NoInput if there is none of it
abbrev pub part_of_number : ℕ → List PickedInputs → Result PickedInputs Fault
part_of_number zero parts = Err (fault NoInput)
part_of_number (suc place) parts = ok_or (slice_get parts place) (fault NoInput)

-- The inputs of a choice: what the rules pick of a level, or its part of a number. The first
-- refusal counts: of the level; NoInput if there is no such part.
abbrev pub IsChosen : KeyOrder → State → Choice → Result PickedInputs Fault → Type 0
IsChosen cmp v (Picked level) = IsInputsAnswer cmp v level
IsChosen cmp v (Part level number) = IsThen (IsPartsAnswer cmp v level)
    (λ parts inputs. inputs ≡ part_of_number number parts)
