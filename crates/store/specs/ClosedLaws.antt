-- The law of compactions of closed inputs.
use Rattle.std.specs.Prelude.{◌≡◌, ℕ, ◌<◌, ◌≤◌, ◌^◌, List, unwrap_or, Option, Ok}
use Rattle.std.specs.List.{All}
use Rattle.folder.specs.Comparator.{KeyOrder, ShortKeys}
use Rattle.folder.specs.Version.{State}
use Rattle.folder.specs.meta.NewFile.{NewFile}
use Rattle.folder.specs.meta.TheConstants.{LAST_LEVEL}
use Rattle.pick.specs.PickedInputs.{PickedInputs}
use Rattle.reads.specs.Tables.{NumberedContents}
use Rattle.checks.specs.LawfulTables.{IsLawfulTables}
use Rattle.compact.specs.InputsOver.{AreInputsOver}
use Rattle.compact.specs.OneThread.{Answer}
use Rattle.compact.specs.declared.settings.Settings.{Settings}
use Rattle.store.specs.Compaction.{EditedVersion}
use Rattle.store.specs.FolderRequest.{compaction_from}
use Rattle.store.specs.OutputRanges.{IsOldOrOutput}

-- an edited version whose new files lie within the range of these inputs
pub record EditedWithin (cmp : KeyOrder) (v : State) (loaded : List (ℕ × List ℕ))
    (tables : List NumberedContents) (p : PickedInputs) (s : Settings) (answer : Answer)
    : Type 0 where
  pub edited : EditedVersion cmp v loaded tables s answer
  pub within : All (IsOldOrOutput cmp v p) edited.next.files

-- What a compaction of inputs over a lawful version answers makes such an edited version, whoever
-- chose the inputs, if its files are at levels up to 6 and its log numbers below 2 ^ 64.
abbrev pub ClosedJointLaw : KeyOrder → ShortKeys → Type 0
ClosedJointLaw cmp short_keys =
    (first : Option ℕ) (v : State) (loaded : List (ℕ × List ℕ))
    (tables : List NumberedContents) (p : PickedInputs) (s : Settings) (answer : Answer) →
    IsLawfulTables cmp v loaded (Ok tables) →
    All (λ (f : NewFile). f.level ≤ LAST_LEVEL) v.files → AreInputsOver cmp v p →
    unwrap_or v.log_number 0 < 2 ^ 64 → unwrap_or v.previous_log 0 < 2 ^ 64 →
    compaction_from first cmp short_keys v loaded p s ≡ Ok answer →
    EditedWithin cmp v loaded tables p s answer
