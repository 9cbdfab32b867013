-- Inputs that a caller chose by number.
use Rattle.std.specs.Prelude.{ℕ, ◌+◌, ◌-◌, nat_lt, Bool, if◌then◌else◌, List, [], ◌∷◌, ◌++◌, map}
use Rattle.std.specs.Prelude.{filter, Result, Ok, Err}
use Rattle.edit.specs.Answers.{fault}
use Rattle.edit.specs.fault.Fault.{Fault}
use Rattle.edit.specs.fault.FaultName.TheVariants.{NoInput, Level}
use Rattle.edit.specs.Comparator.{KeyOrder}
use Rattle.edit.specs.Version.{State}
use Rattle.edit.specs.VersionOrder.{level_files}
use Rattle.edit.specs.declared.meta.FileMeta.{FileMeta}
use Rattle.edit.specs.declared.meta.CompactPointer.{CompactPointer}
use Rattle.pick.specs.ClosedChoice.{has_number_of}
use Rattle.pick.specs.PickedInputs.{PickedInputs, files_from, grandparents_of, input_at}
use Rattle.pick.specs.declared.input_choice.TheConstants.{LAST_INPUT_LEVEL}

-- The inputs that are these files of a level and of the next one: with the grandparents and all
-- deeper files that belong to them, and with this key in the compact pointer of the level.
abbrev pub these_inputs : KeyOrder → State → ℕ → List FileMeta → List FileMeta → List ℕ →
    PickedInputs
these_inputs cmp v level upper lower key = record {
  level = level;
  files = map (input_at level) upper ++ map (input_at (level + 1)) lower;
  grandparents = grandparents_of cmp v level (upper ++ lower);
  deeper = files_from cmp v (level + 2) (5 - level);
  pointer = record { level = level; key = key };
}

-- these inputs, or NoInput if there is none of the level
abbrev pub these_answer : KeyOrder → State → ℕ → List FileMeta → List FileMeta → List ℕ →
    Result PickedInputs Fault
these_answer cmp v level [] lower key = Err (fault NoInput)
these_answer cmp v level (f ∷ upper) lower key = Ok (these_inputs cmp v level (f ∷ upper) lower key)

-- the files of a level that are chosen
abbrev pub chosen_files : KeyOrder → State → ℕ → (FileMeta → Bool) → List FileMeta
chosen_files cmp v level chosen = filter chosen (level_files cmp v level)

-- The answer for the files of these numbers, and a compact pointer of their level: Level if it is
-- above 5; NoInput if no file of it has one of the numbers; else the inputs.
abbrev pub numbered_answer : KeyOrder → State → CompactPointer → List ℕ → Result PickedInputs Fault
numbered_answer cmp v pointer numbers =
    if nat_lt LAST_INPUT_LEVEL pointer.level
    then Err (fault Level)
    else these_answer cmp v pointer.level
    (chosen_files cmp v pointer.level (has_number_of numbers))
    (chosen_files cmp v (pointer.level + 1) (has_number_of numbers)) pointer.key
