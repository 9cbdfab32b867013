-- What the compaction of a level leaves of a folder: of the inputs that the rules pick of it, or of
-- all its parts.
use Rattle.std.specs.Prelude.{List, None, Ok, OnOk, Result, ℕ, ◌≡◌, ◌⊎◌}
use Rattle.edit.specs.Edit.{Edit, IsEdit}
use Rattle.edit.specs.Version.{State}
use Rattle.edit.specs.fault.Fault.{Fault}
use Rattle.pick.specs.PickedInputs.{IsPicked, PickedInputs}
use Rattle.folder.specs.Calls.{Files}
use Rattle.folder.specs.ReadsAs.{ReadsAs}
use Rattle.install.specs.FolderChange.{FolderChange}
use Rattle.install.specs.Install.{LoadedVersion, SurvivesCrash, next_with, version_with}
use Rattle.keep.specs.Tables.{NumberedContents}
use Rattle.compact.specs.OneThread.{Answer}
use Rattle.compact.specs.declared.settings.Settings.{Settings}
use Rattle.checks.specs.LawfulTables.{IsLawfulTables}
use Rattle.store.specs.Compaction.{EditedVersion, IsUnchanged}
use Rattle.store.specs.FolderRequest.{compaction_from, manifest_of}
use Rattle.store.specs.OrderView.{OrderView}
use Rattle.store.specs.Step.{StepView, step_of}
use Rattle.store.specs.StepLeft.{IsInstalled}
use Rattle.store.specs.declared.compaction_step.CompactionStep.{CompactionStep}
use Rattle.levels.specs.WholeAnswer.{AreSelected, PicksInputs, edits_of, parts_result}
use Rattle.levels.specs.WholeAnswer.{tables_of, whole_step}
use Rattle.levels.specs.declared.selection.Selection.{Selection}
use Rattle.levels.specs.declared.selection.Selection.TheVariants.{Whole}

-- These outputs and this step are those of one thread's answers for what a selection takes of a
-- level of a version with the bytes of its tables: for the inputs that the rules pick; or for
-- parts, with their edits as one.
abbrev pub IsAnswered : Selection → OrderView → LoadedVersion → ℕ → Settings →
    List (ℕ × List ℕ) → StepView → Type 0
IsAnswered selection by v level s outputs step =
    (PicksInputs selection by.cmp v.version level × (p : PickedInputs) × (a : Answer)
    × IsPicked by.cmp v.version level p
    × (compaction_from None by.cmp by.short_keys v.version v.tables p s ≡ Ok a)
    × (outputs ≡ a.tables) × (step ≡ step_of v.version p a))
    ⊎ ((parts : List PickedInputs) × (answers : List Answer) × (e : Edit)
    × AreSelected selection by.cmp v.version level (Ok parts)
    × (parts_result by.cmp by.short_keys v.version v.tables s (manifest_of v.version) parts
    ≡ Ok answers) × IsEdit (edits_of answers) e
    × (outputs ≡ tables_of answers) × (step ≡ whole_step v.version answers e))

-- A compaction of a level of a version with the bytes of its tables. The version is lawful, and
-- these are the outputs and the step of one thread's answers. The step's edit makes the edited
-- version, which answers as the one before.
pub record SelectedCompaction (selection : Selection) (by : OrderView) (v : LoadedVersion)
    (level : ℕ) (s : Settings) (step : StepView) : Type 0 where
  pub tables : List NumberedContents
  pub lawful : IsLawfulTables by.cmp v.version v.tables (Ok tables)
  pub outputs : List (ℕ × List ℕ)
  pub answered : IsAnswered selection by v level s outputs step
  pub edited : EditedVersion by.cmp v.version v.tables tables s
      (record { tables = outputs; edit = step.edit })

-- a compaction of the level was installed, with the step of its answers
pub record IsLevelInstalled (selection : Selection) (by : OrderView) (v : LoadedVersion) (level : ℕ)
    (s : Settings) (change : FolderChange) (result : Result CompactionStep Fault) : Type 0 where
  pub step : StepView
  pub compacted : SelectedCompaction selection by v level s step
  pub installed : IsInstalled by v
      (next_with by.cmp compacted.edited.next compacted.outputs v.tables) step change result

-- Tables of some parts were written, and then it was refused. A crash at any moment leaves the
-- version before, and so does no crash.
pub record IsWholeStopped (by : OrderView) (v : LoadedVersion) (change : FolderChange)
    (result : Result CompactionStep Fault) : Type 0 where
  pub survives : SurvivesCrash by.cmp by.order v v change result
  pub refused : OnOk result ⊥

-- What is left of a folder that reads as this version: it is unchanged; or tables were written that
-- no version names; or a compaction of all parts of the level was installed.
abbrev pub IsWholeLeft : OrderView → State → Files → ℕ → Settings → FolderChange →
    Result CompactionStep Fault → Type 0
IsWholeLeft by v files level s change result = IsUnchanged change result
    ⊎ ((loaded : List (ℕ × List ℕ)) × ReadsAs by.cmp by.order v loaded files
    × (IsWholeStopped by (version_with v loaded) change result
    ⊎ IsLevelInstalled Whole by (version_with v loaded) level s change result))
