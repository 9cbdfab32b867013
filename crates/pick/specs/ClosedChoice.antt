-- Closed choices: which files a compaction has to take with those that were chosen, told by levels,
-- numbers and bounds alone.
use Rattle.std.specs.Prelude.{◌≡◌, ℕ, zero, suc, ◌+◌, nat_eq, nat_lt, Bool, true, not, ◌&&◌, ◌||◌}
use Rattle.std.specs.Prelude.{List, ◌++◌, filter, find, Option, Some, None, Result, Ok, Err}
use Rattle.std.specs.Prelude.{if◌then◌else◌}
use Rattle.std.specs.List.{AllByRecursion, list_any}
use Rattle.std.specs.Option.{option_map, option_or}
use Rattle.std.specs.Ordering.{is_le}
use Rattle.edit.specs.Answers.{fault}
use Rattle.edit.specs.fault.Fault.{Fault}
use Rattle.edit.specs.fault.FaultName.TheVariants.{Level}
use Rattle.edit.specs.Key.{user_of}
use Rattle.edit.specs.Order.{internal_cmp}
use Rattle.edit.specs.Comparator.{KeyOrder}
use Rattle.edit.specs.Version.{State}
use Rattle.edit.specs.VersionOrder.{level_files}
use Rattle.edit.specs.declared.meta.FileMeta.{FileMeta}
use Rattle.pick.specs.Ranges.{is_at_most, overlaps}
use Rattle.pick.specs.Boundaries.{goes_on}
use Rattle.pick.specs.PickedInputs.{input_at}
use Rattle.pick.specs.declared.picked_inputs.InputFile.{InputFile}
use Rattle.pick.specs.declared.input_choice.TheConstants.{LAST_INPUT_LEVEL}

-- whether the ranges of user keys of two files overlap
abbrev pub share_range : KeyOrder → FileMeta → FileMeta → Bool
share_range cmp f g = is_at_most cmp (user_of f.smallest) (user_of g.largest)
    && is_at_most cmp (user_of g.smallest) (user_of f.largest)

-- Whether a file of the compaction's level has to go with a chosen one. At level 0 it has to if
-- their ranges overlap, at each other level if it goes on within the user key with which the chosen
-- one ends.
abbrev pub goes_with : KeyOrder → ℕ → FileMeta → FileMeta → Bool
goes_with cmp zero chosen f = share_range cmp chosen f
goes_with cmp (suc _) chosen f = goes_on cmp (Some chosen.largest) f

-- whether a file of the compaction's level has to go with the chosen ones of that level
abbrev pub is_needed_above : KeyOrder → ℕ → List FileMeta → FileMeta → Bool
is_needed_above cmp level upper f = list_any (λ (g : FileMeta). goes_with cmp level g f) upper

-- Whether the internal keys of a file lie among those of others: one of them begins at or before
-- its largest key, and one ends at or after its smallest.
abbrev pub lies_among : KeyOrder → List FileMeta → FileMeta → Bool
lies_among cmp files f =
    list_any (λ (g : FileMeta). is_le (internal_cmp cmp g.smallest f.largest)) files
    && list_any (λ (g : FileMeta). is_le (internal_cmp cmp f.smallest g.largest)) files

-- Whether a file of the next level has to go with the chosen ones of both levels:
-- - its range overlaps that of those of the compaction's level;
-- - it goes on within the user key with which one of the next level ends;
-- - or it lies among all of them.
abbrev pub is_needed_below : KeyOrder → List FileMeta → List FileMeta → FileMeta → Bool
is_needed_below cmp upper lower f = overlaps cmp upper f
    || list_any (λ (g : FileMeta). goes_on cmp (Some g.largest) f) lower
    || lies_among cmp (upper ++ lower) f

-- Which files of a version are chosen is a test of them. A choice for a level is closed if each
-- file of the level, and of the next one, that has to go with the chosen ones is chosen itself.
pub record IsClosedChoice (cmp : KeyOrder) (v : State) (level : ℕ) (chosen : FileMeta → Bool)
    : Type 0 where
  pub above : AllByRecursion
      (λ (f : FileMeta). is_needed_above cmp level (filter chosen (level_files cmp v level)) f
      ≡ true → chosen f ≡ true)
      (level_files cmp v level)
  pub below : AllByRecursion
      (λ (f : FileMeta). is_needed_below cmp (filter chosen (level_files cmp v level))
      (filter chosen (level_files cmp v (level + 1))) f
      ≡ true → chosen f ≡ true)
      (level_files cmp v (level + 1))

-- The first file that a choice misses, with its level, if these are the files of a level and those
-- of the next one: the first that isn't chosen and has to go with the chosen ones.
abbrev pub missing_among : KeyOrder → ℕ → List FileMeta → List FileMeta → (FileMeta → Bool) →
    Option InputFile
missing_among cmp level files next chosen =
    option_or
    (option_map (input_at level)
    (find (λ (f : FileMeta). not (chosen f) && is_needed_above cmp level (filter chosen files) f)
    files))
    (option_map (input_at (level + 1))
    (find (λ (f : FileMeta). not (chosen f)
    && is_needed_below cmp (filter chosen files) (filter chosen next) f)
    next))

-- the first file that a choice for a level misses: in version order one of the level, or else one
-- of the next
abbrev pub first_missing : KeyOrder → State → ℕ → (FileMeta → Bool) → Option InputFile
first_missing cmp v level chosen =
    missing_among cmp level (level_files cmp v level) (level_files cmp v (level + 1)) chosen

-- whether a file has one of these numbers
abbrev pub has_number_of : List ℕ → FileMeta → Bool
has_number_of numbers f = list_any (λ (n : ℕ). nat_eq n f.number) numbers

-- no file is missing exactly if the choice is closed
abbrev pub IsToldClosed : KeyOrder → State → ℕ → (FileMeta → Bool) → Option InputFile → Type 0
IsToldClosed cmp v level chosen missing = (missing ≡ None → IsClosedChoice cmp v level chosen)
    × (IsClosedChoice cmp v level chosen → missing ≡ None)

-- the answer for the files of these numbers: Level if the level is above 5, else the first file
-- that is missing
abbrev pub missing_answer : KeyOrder → State → ℕ → List ℕ → Result (Option InputFile) Fault
missing_answer cmp v level numbers =
    if nat_lt LAST_INPUT_LEVEL level
    then Err (fault Level)
    else Ok (first_missing cmp v level (has_number_of numbers))
