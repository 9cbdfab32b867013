-- Inputs over a version, whoever chose them.
use Rattle.std.specs.Prelude.{◌≡◌, ◌⊎◌, ℕ, ◌+◌, ◌<◌, ◌≤◌, List, map, Contains}
use Rattle.std.specs.List.{All}
use Rattle.ikey.specs.Key.{IsInternalKey}
use Rattle.ikey.specs.Comparator.{KeyOrder}
use Rattle.edit.specs.Version.{State}
use Rattle.edit.specs.declared.meta.NewFile.{NewFile}
use Rattle.edit.specs.declared.meta.TheConstants.{LAST_LEVEL}
use Rattle.pick.specs.ClosedChoice.{IsClosedChoice, has_number_of}
use Rattle.pick.specs.PickedInputs.{PickedInputs, IsPicked}
use Rattle.pick.specs.declared.picked_inputs.InputFile.{InputFile}
use Rattle.reads.specs.Lawful.{IsLawful}
use Rattle.reads.specs.Tables.{NumberedContents}
use Rattle.compact.specs.ClosedInputs.{AreClosed}

-- an input as a file of a version
abbrev pub as_file : InputFile → NewFile
as_file i = record { level = i.level; meta = i.meta }

-- the numbers of the inputs
abbrev pub input_numbers : PickedInputs → List ℕ
input_numbers p = map (λ (i : InputFile). i.meta.number) p.files

-- Inputs over a version, for a compaction of a level:
-- - each is a file of the version, at the level or at the next one;
-- - as a choice of files they are closed;
-- - all files from level + 2 on are among the deeper ones;
-- - the new compact pointer is an internal key, whichever.
-- The grandparents decide where outputs end, and nothing else.
pub record AreInputsOver (cmp : KeyOrder) (v : State) (p : PickedInputs) : Type 0 where
  pub files : (i : InputFile) → Contains p.files i → Contains v.files (as_file i)
  pub levels : (i : InputFile) → Contains p.files i →
      (i.level ≡ p.level) ⊎ (i.level ≡ p.level + 1)
  pub closed : IsClosedChoice cmp v p.level (has_number_of (input_numbers p))
  pub deeper : (f : NewFile) → Contains v.files f → p.level + 1 < f.level →
      Contains p.deeper f.meta
  pub pointer : IsInternalKey p.pointer.key

-- What levels, numbers and bounds tell of inputs holds of the entries: inputs over a lawful version
-- are closed.
abbrev pub InputsOverClosed : KeyOrder → Type 0
InputsOverClosed cmp =
    (v : State) (tables : List NumberedContents) (p : PickedInputs) →
    IsLawful cmp v tables → AreInputsOver cmp v p →
    AreClosed cmp v tables p

-- the picked inputs of each lawful version are inputs over it, if its files are at levels up to 6
abbrev pub PickedInputsOver : KeyOrder → Type 0
PickedInputsOver cmp =
    (v : State) (tables : List NumberedContents) (level : ℕ) (p : PickedInputs) →
    IsLawful cmp v tables → All (λ (f : NewFile). f.level ≤ LAST_LEVEL) v.files →
    IsPicked cmp v level p →
    AreInputsOver cmp v p
