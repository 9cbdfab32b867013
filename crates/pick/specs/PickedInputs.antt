-- The inputs of a compaction.
use Rattle.std.specs.Prelude.{◌≡◌, ℕ, zero, suc, ◌+◌, ◌-◌, nat_lt, if◌then◌else◌, List, [], ◌++◌}
use Rattle.std.specs.Prelude.{length, map, filter, Some, Result, Err, MatchBool, IsOkAnd}
use Rattle.std.specs.Arc.{arc_value}
use Rattle.edit.specs.Answers.{fault}
use Rattle.edit.specs.fault.Fault.{Fault}
use Rattle.edit.specs.fault.FaultName.TheVariants.{NoInput, Level}
use Rattle.edit.specs.Comparator.{KeyOrder}
use Rattle.edit.specs.Version.{State, pointer_of}
use Rattle.edit.specs.VersionOrder.{level_files}
use Rattle.edit.specs.declared.meta.FileMeta.{FileMeta}
use Rattle.edit.specs.declared.meta.CompactPointer.{CompactPointer}
use Rattle.edit.specs.declared.meta.TheConstants.{LAST_LEVEL}
use Rattle.pick.specs.Ranges.{overlaps}
use Rattle.pick.specs.ChosenFiles.{first_file, AreChosen}
use Rattle.pick.specs.Boundaries.{largest_key, AreWithBoundaries}
use Rattle.pick.specs.declared.picked_inputs.InputFile.{InputFile}
use Rattle.pick.specs.declared.picked_inputs.Inputs.{Inputs}
use Rattle.pick.specs.declared.input_choice.TheConstants.{LAST_INPUT_LEVEL}

-- inputs as contracts see them
pub record PickedInputs : Type 0 where
  pub level : ℕ
  pub files : List InputFile
  pub grandparents : List FileMeta
  pub deeper : List FileMeta
  pub pointer : CompactPointer

-- the inputs of the code
abbrev pub picked_in : Inputs → PickedInputs
picked_in i = record {
  level = i.level;
  files = i.files.items;
  grandparents = i.grandparents.items;
  deeper = (arc_value i.deeper).items;
  pointer = i.pointer;
}

-- a file as an input of a level
abbrev pub input_at : ℕ → FileMeta → InputFile
input_at level f = record { level = level; meta = f }

-- the files of n levels from this one on, by level and in version order
unfoldable pub files_from : KeyOrder → State → ℕ → ℕ → List FileMeta
files_from cmp v level zero = []
files_from cmp v level (suc n) = level_files cmp v level ++ files_from cmp v (level + 1) n

-- The grandparents: the files of level + 2 whose range overlaps that of all inputs. There are none
-- if level + 2 exceeds 6.
abbrev pub grandparents_of : KeyOrder → State → ℕ → List FileMeta → List FileMeta
grandparents_of cmp v level all =
    if nat_lt LAST_LEVEL (level + 2) then [] else filter (overlaps cmp all)
    (level_files cmp v (level + 2))

-- The inputs of the level itself: the first file, what is chosen with it, and the boundary files.
pub record AreUpper (cmp : KeyOrder) (v : State) (level : ℕ) (upper : List FileMeta) : Type 0 where
  pub first : FileMeta
  pub is_first : first_file cmp (pointer_of v level) (level_files cmp v level) ≡ Some first
  pub chosen : List FileMeta
  pub are_chosen : AreChosen cmp level (level_files cmp v level) first chosen
  pub with_boundaries : AreWithBoundaries cmp (level_files cmp v level) chosen upper

-- The inputs of level + 1: the files whose range overlaps that of the inputs above, and their
-- boundary files.
abbrev pub AreLower : KeyOrder → State → ℕ → List FileMeta → List FileMeta → Type 0
AreLower cmp v level upper lower = AreWithBoundaries cmp (level_files cmp v level)
    (filter (overlaps cmp upper) (level_files cmp v level)) lower

-- The inputs of a compaction:
-- - its files of the level, then those of level + 1;
-- - the grandparents, and all files from level + 2 on;
-- - as new compact pointer, the largest key of its files of the level.
pub record IsPicked (cmp : KeyOrder) (v : State) (level : ℕ) (p : PickedInputs) : Type 0 where
  pub upper : List FileMeta
  pub are_upper : AreUpper cmp v level upper
  pub lower : List FileMeta
  pub are_lower : AreLower cmp v (level + 1) upper lower
  pub level_is : p.level ≡ level
  pub files_are : p.files ≡ map (input_at level) upper ++ map (input_at (level + 1)) lower
  pub grandparents_are : p.grandparents ≡ grandparents_of cmp v level (upper ++ lower)
  pub deeper_are : p.deeper ≡ files_from cmp v (level + 2) (5 - level)
  pub pointer_level : p.pointer.level ≡ level
  pub pointer_key : largest_key cmp upper ≡ Some p.pointer.key

-- The answer for a level: Level if it is above 5; else NoInput if it has no file; else its inputs.
abbrev pub IsInputsAnswer : KeyOrder → State → ℕ → Result PickedInputs Fault → Type 0
IsInputsAnswer cmp v level answer =
    MatchBool (nat_lt LAST_INPUT_LEVEL level) (answer ≡ Err (fault Level))
    (MatchBool (nat_lt 0 (length (level_files cmp v level)))
    (IsOkAnd answer (IsPicked cmp v level)) (answer ≡ Err (fault NoInput)))

-- a level of a version has at most one choice of inputs
abbrev pub HasOneChoice : KeyOrder → Type 0
HasOneChoice cmp = (v : State) (level : ℕ) (p q : PickedInputs) → IsPicked cmp v level p →
    IsPicked cmp v level q → p ≡ q
