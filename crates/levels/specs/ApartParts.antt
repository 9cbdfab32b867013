-- Parts of a level that are compacted and installed one after the other, in any order.
use Rattle.std.specs.List.{All}
use Rattle.std.specs.Prelude.{Contains, List, Ok, Some, false, slice_get, unwrap_or}
use Rattle.std.specs.Prelude.{ℕ, ◌<◌, ◌^◌, ◌≡◌, ◌≢◌, ◌≤◌}
use Rattle.edit.specs.Comparator.{KeyOrder, ShortKeys}
use Rattle.edit.specs.Key.{IsInternalKey}
use Rattle.edit.specs.Version.{State}
use Rattle.edit.specs.declared.meta.NewFile.{NewFile}
use Rattle.folder.specs.meta.TheConstants.{LAST_LEVEL}
use Rattle.pick.specs.ApartChoice.{IsApartChoice}
use Rattle.pick.specs.ClosedChoice.{has_number_of}
use Rattle.pick.specs.Parts.{IsPartsAnswer}
use Rattle.pick.specs.PickedInputs.{PickedInputs}
use Rattle.pick.specs.declared.picked_inputs.InputFile.{InputFile}
use Rattle.keep.specs.Tables.{NumberedContents}
use Rattle.checks.specs.LawfulTables.{IsLawfulTables}
use Rattle.compact.specs.ClosedInputs.{is_input}
use Rattle.compact.specs.InputsOver.{AreInputsOver, input_numbers}
use Rattle.compact.specs.OneThread.{Answer}
use Rattle.compact.specs.declared.settings.Settings.{Settings}
use Rattle.store.specs.ClosedLaws.{EditedWithin}
use Rattle.store.specs.FolderRequest.{compaction_from, manifest_of}

-- Inputs of a level that stand apart: they are closed over the version, and share no user key with
-- a file of the level, or of the next one, that stays.
pub record StandApart (cmp : KeyOrder) (v : State) (level : ℕ) (p : PickedInputs) : Type 0 where
  pub own : p.level ≡ level
  pub over : AreInputsOver cmp v p
  pub apart : IsApartChoice cmp v level (has_number_of (input_numbers p))

-- none of the second inputs is among the first ones
abbrev pub ShareNone : PickedInputs → PickedInputs → Type 0
ShareNone p q = (i : InputFile) → Contains q.files i → is_input p i.meta.number ≡ false

-- Of a lawful version, each part of a level stands apart, and no two share a file.
abbrev pub PartsStandApart : KeyOrder → Type 0
PartsStandApart cmp =
    (v : State) (loaded : List (ℕ × List ℕ)) (tables : List NumberedContents) (level : ℕ)
    (parts : List PickedInputs) (one other : ℕ) (p q : PickedInputs) →
    IsLawfulTables cmp v loaded (Ok tables) →
    All (λ (f : NewFile). f.level ≤ LAST_LEVEL) v.files → IsPartsAnswer cmp v level (Ok parts) →
    slice_get parts one ≡ Some p → slice_get parts other ≡ Some q → one ≢ other →
    IsInternalKey p.pointer.key → StandApart cmp v level p × ShareNone p q

-- Of inputs that stand apart and share no file, one was compacted, and its answer makes an edited
-- version. In that the other ones stand apart. So they can be installed in any order.
abbrev pub ApartPartsStay : KeyOrder → ShortKeys → Type 0
ApartPartsStay cmp short_keys =
    (first : ℕ) (v : State) (loaded : List (ℕ × List ℕ)) (tables : List NumberedContents)
    (level : ℕ) (p q : PickedInputs) (s : Settings) (answer : Answer) →
    IsLawfulTables cmp v loaded (Ok tables) →
    All (λ (f : NewFile). f.level ≤ LAST_LEVEL) v.files →
    unwrap_or v.log_number 0 < 2 ^ 64 → unwrap_or v.previous_log 0 < 2 ^ 64 →
    manifest_of v < first → StandApart cmp v level p → StandApart cmp v level q → ShareNone p q →
    compaction_from (Some first) cmp short_keys v loaded p s ≡ Ok answer →
    (e : EditedWithin cmp v loaded tables p s answer) × StandApart cmp e.edited.next level q
