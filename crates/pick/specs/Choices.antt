-- Which files of a level the code chooses before boundary files are added.
use Rattle.std.specs.Prelude.{◌≡◌, ℕ, ◌<◌, nat_eq, nat_lt, Bool, true, ◌||◌, ◌&&◌, not}
use Rattle.std.specs.Prelude.{if◌then◌else◌, List, [], ◌∷◌, filter, length, Option, Result, Ok}
use Rattle.std.specs.Prelude.{MatchBool, IsOkAnd}
use Rattle.std.specs.List.{AllByRecursion}
use Rattle.edit.specs.fault.Fault.{Fault}
use Rattle.edit.specs.Key.{user_of}
use Rattle.edit.specs.Comparator.{KeyOrder}
use Rattle.edit.specs.Version.{State}
use Rattle.edit.specs.VersionOrder.{level_files}
use Rattle.edit.specs.declared.meta.FileMeta.{FileMeta}
use Rattle.pick.specs.Ranges.{begins_by, ends_at_or_after}
use Rattle.pick.specs.ChosenFiles.{IsOverlapClosed}
use Rattle.pick.specs.Spans.{is_overlapping, is_covering}
use Rattle.pick.specs.Boundaries.{with_largest, largest_key, goes_on}
use Rattle.pick.specs.PickedInputs.{AreUpper}
use Rattle.pick.specs.declared.choice.Choice.{Choice}
use Rattle.pick.specs.declared.choice.Choice.TheVariants.{First, Around, Overlapping}
use Rattle.pick.specs.declared.range.UserRange.{UserRange}

-- whether the range of a file overlaps this one
abbrev pub is_in : KeyOrder → UserRange → FileMeta → Bool
is_in cmp range f = is_overlapping cmp range.smallest.now range.largest.now f

-- whether a file overlaps the range and would widen it
abbrev pub is_widening : KeyOrder → UserRange → FileMeta → Bool
is_widening cmp range f = is_in cmp range f
    && not (is_covering cmp range.smallest.now range.largest.now f)

-- the range of the files begins at or before `smallest`, and ends at or after `largest`
pub record Reaches (cmp : KeyOrder) (files : List FileMeta) (smallest largest : List ℕ)
    : Type 0 where
  pub begins : begins_by cmp files smallest ≡ true
  pub ends : ends_at_or_after cmp files largest ≡ true

-- whether a file is chosen
abbrev pub is_chosen : KeyOrder → Choice → FileMeta → Bool
is_chosen cmp (First number) f = nat_eq f.number number
is_chosen cmp (Around number range) f = nat_eq f.number number || is_in cmp range f
is_chosen cmp (Overlapping range) f = is_in cmp range f

-- The range of a first file, widened as little as can be. It covers the first file's, and no file
-- would widen it. Each closed set of files that reaches as far as the first file reaches as far as
-- this range.
pub record IsGrown (cmp : KeyOrder) (files : List FileMeta) (first : FileMeta)
    (smallest largest : List ℕ) : Type 0 where
  pub with_first : is_covering cmp smallest largest first ≡ true
  pub rests : AllByRecursion (λ (f : FileMeta). is_overlapping cmp smallest largest f ≡ true →
      is_covering cmp smallest largest f ≡ true) files
  pub least : (other : FileMeta → Bool) → IsOverlapClosed cmp files other →
      Reaches cmp (filter other files) (user_of first.smallest) (user_of first.largest) →
      Reaches cmp (filter other files) smallest largest

-- The files that pass the test and their boundary files, in one pass: each that goes on within the
-- largest key so far is added.
abbrev pub boundary_pass : KeyOrder → (FileMeta → Bool) → Option (List ℕ) → List FileMeta →
    List FileMeta
boundary_pass cmp test key [] = []
boundary_pass cmp test key (f ∷ files) =
    if test f
    then f ∷ boundary_pass cmp test key files
    else if goes_on cmp key f
    then f ∷ boundary_pass cmp test (with_largest cmp key f) files
    else boundary_pass cmp test key files

-- the files that pass the test, and their boundary files
abbrev pub with_boundary_files : KeyOrder → (FileMeta → Bool) → List FileMeta → List FileMeta
with_boundary_files cmp test files = boundary_pass cmp test (largest_key cmp (filter test files))
    files

-- the inputs of the compaction's own level; none if it has no file
abbrev pub IsUpperAnswer : KeyOrder → State → ℕ → Result (List FileMeta) Fault → Type 0
IsUpperAnswer cmp v level answer =
    MatchBool (nat_lt 0 (length (level_files cmp v level)))
    (IsOkAnd answer (λ upper. AreUpper cmp v level upper × (0 < length upper)))
    (answer ≡ Ok [])
