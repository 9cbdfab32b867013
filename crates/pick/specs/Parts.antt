-- Parts of a level: sets of its files and of files of the next level that can be compacted by
-- themselves, at the same time and in any order.
use Rattle.std.specs.Prelude.{◌≡◌, ◌⊎◌, ℕ, ◌+◌, nat_lt, Bool, true, false, List, [], ◌∷◌, ◌++◌}
use Rattle.std.specs.Prelude.{map, filter, Option, Some, None, Result, Ok, Err, IsOkAnd}
use Rattle.std.specs.Prelude.{MatchBool, Contains}
use Rattle.std.specs.List.{AllByRecursion, list_all, list_any}
use Rattle.std.specs.Option.{option_or}
use Rattle.edit.specs.Answers.{fault}
use Rattle.edit.specs.fault.Fault.{Fault}
use Rattle.edit.specs.fault.FaultName.TheVariants.{Lawless, Level}
use Rattle.edit.specs.Key.{user_of}
use Rattle.edit.specs.Comparator.{KeyOrder}
use Rattle.edit.specs.Version.{State, pointer_of}
use Rattle.edit.specs.VersionOrder.{level_files}
use Rattle.edit.specs.declared.meta.FileMeta.{FileMeta}
use Rattle.pick.specs.ApartChoice.{AreDisjointChoices, HaveRanges, IsApartChoice, both_files}
use Rattle.pick.specs.Boundaries.{largest_key}
use Rattle.pick.specs.NumberedInputs.{chosen_files, these_inputs}
use Rattle.pick.specs.PickedInputs.{PickedInputs}
use Rattle.pick.specs.Ranges.{is_at_most}
use Rattle.pick.specs.declared.input_choice.TheConstants.{LAST_INPUT_LEVEL}

-- The part around a file of the level: the least choice of files of both levels that holds it and
-- stands apart.
pub record IsPartAround (cmp : KeyOrder) (v : State) (level : ℕ) (first : FileMeta)
    (part : FileMeta → Bool) : Type 0 where
  pub holds : part first ≡ true
  pub apart : IsApartChoice cmp v level part
  pub least : (other : FileMeta → Bool) → other first ≡ true → IsApartChoice cmp v level other →
      AllByRecursion (λ (f : FileMeta). part f ≡ true → other f ≡ true) (both_files cmp v level)

-- whether a file is in one of some parts
abbrev pub is_in_part : List (FileMeta → Bool) → FileMeta → Bool
is_in_part parts f = list_any (λ (part : FileMeta → Bool). part f) parts

-- The parts that files of the level begin, in their order: each file that is in no part before it
-- begins one.
abbrev pub ArePartsFrom : KeyOrder → State → ℕ → List (FileMeta → Bool) → List FileMeta →
    List (FileMeta → Bool) → Type 0
ArePartsFrom cmp v level before [] parts = parts ≡ []
ArePartsFrom cmp v level before (f ∷ files) [] = (is_in_part before f ≡ true)
    × ArePartsFrom cmp v level before files []
ArePartsFrom cmp v level before (f ∷ files) (part ∷ parts) =
    ((is_in_part before f ≡ true) × ArePartsFrom cmp v level before files (part ∷ parts))
    ⊎ ((is_in_part before f ≡ false) × IsPartAround cmp v level f part
    × ArePartsFrom cmp v level (before ++ part ∷ []) files parts)

-- the inputs of a part, with this key in the compact pointer
abbrev pub part_inputs : KeyOrder → State → ℕ → List ℕ → (FileMeta → Bool) → PickedInputs
part_inputs cmp v level key part =
    these_inputs cmp v level (chosen_files cmp v level part)
    (chosen_files cmp v (level + 1) part) key

-- The compact pointer that each part sets: that of the level, so that it stays. If there is none it
-- is the greatest key of the level, by which a compaction picks as without one.
abbrev pub part_key : KeyOrder → State → ℕ → Option (List ℕ)
part_key cmp v level = option_or (pointer_of v level) (largest_key cmp (level_files cmp v level))

-- the finest parts of a level as inputs, with this key in the compact pointer
pub record AreParts (cmp : KeyOrder) (v : State) (level : ℕ) (key : List ℕ)
    (inputs : List PickedInputs) : Type 0 where
  pub parts : List (FileMeta → Bool)
  pub are_parts : ArePartsFrom cmp v level [] (level_files cmp v level) parts
  pub these : inputs ≡ map (part_inputs cmp v level key) parts

-- whether of each file, the smallest user key is at or before the largest
abbrev pub have_ranges : KeyOrder → List FileMeta → Bool
have_ranges cmp files =
    list_all (λ (f : FileMeta). is_at_most cmp (user_of f.smallest) (user_of f.largest)) files

-- the parts of a level with the key that they set; none if there is no key, for then it has no file
abbrev pub ArePartsBy : KeyOrder → State → ℕ → Option (List ℕ) → List PickedInputs → Type 0
ArePartsBy cmp v level None inputs = inputs ≡ []
ArePartsBy cmp v level (Some key) inputs = AreParts cmp v level key inputs

-- The answer for a level: Level if it is above 5; Lawless if a file of it or of the next one ends
-- before it begins, by user keys; else its parts.
abbrev pub IsPartsAnswer : KeyOrder → State → ℕ → Result (List PickedInputs) Fault → Type 0
IsPartsAnswer cmp v level answer =
    MatchBool (nat_lt LAST_INPUT_LEVEL level) (answer ≡ Err (fault Level))
    (MatchBool (have_ranges cmp (both_files cmp v level))
    (IsOkAnd answer (ArePartsBy cmp v level (part_key cmp v level)))
    (answer ≡ Err (fault Lawless)))

-- The law that the parts around two files share no file, if the one file isn't in the other's part.
abbrev pub PartsShareNone : KeyOrder → Type 0
PartsShareNone cmp = (v : State) (level : ℕ) (first later : FileMeta) (part other : FileMeta → Bool)
    → HaveRanges cmp v level → Contains (level_files cmp v level) later →
    IsPartAround cmp v level first part → IsPartAround cmp v level later other →
    part later ≡ false →
    AreDisjointChoices cmp v level part other
