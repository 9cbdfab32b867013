-- What the compaction of a level leaves of a version that is known to be lawful, after it was told.
use Rattle.std.specs.Global.{Vec}
use Rattle.std.specs.Option.{IfSome}
use Rattle.std.specs.Prelude.{Bool, Err, IfErr, IfOk, None, Ok, Option, Result, Some, map, ℕ}
use Rattle.std.specs.Prelude.{◌≡◌, ◌⊎◌}
use Rattle.edit.specs.Answers.{UnlessMemory, fault}
use Rattle.edit.specs.Comparator.{KeyOrder}
use Rattle.edit.specs.Version.{State}
use Rattle.edit.specs.fault.Fault.{Fault}
use Rattle.edit.specs.fault.FaultName.TheVariants.{Memory}
use Rattle.pick.specs.PickedInputs.{picked_in}
use Rattle.pick.specs.declared.picked_inputs.Inputs.{Inputs}
use Rattle.folder.specs.OpenAnswer.{IsStopped}
use Rattle.folder.specs.declared.folder.Folder.{Ghosts}
use Rattle.install.specs.FolderChange.{FolderCall, FolderChange}
use Rattle.install.specs.Install.{LoadedVersion}
use Rattle.compact.specs.declared.settings.Settings.{Settings}
use Rattle.store.specs.Compaction.{IsUnchanged}
use Rattle.store.specs.Descent.{IsBottom, IsNextLevel}
use Rattle.store.specs.FolderRequest.{manifest_of}
use Rattle.store.specs.OpenedAfter.{IsOpenedAfter}
use Rattle.store.specs.OrderView.{OrderView, order_view}
use Rattle.store.specs.Step.{StepView}
use Rattle.store.specs.Telling.{IsGoTold}
use Rattle.store.specs.declared.compaction_step.CompactionStep.{CompactionStep}
use Rattle.store.specs.declared.synced_version.SyncedVersion.{SyncedVersion}
use Rattle.levels.specs.WholeAnswer.{AreSelected, PicksInputs}
use Rattle.levels.specs.LevelLeft.{IsLevelInstalled, IsWholeStopped}
use Rattle.levels.specs.LevelMade.{At, IsLevelMade, IsRefusedSo, Way}
use Rattle.levels.specs.declared.selection.Selection.{Selection}

-- the parts that a selection takes; None if it takes the inputs that the rules pick
abbrev pub AreTaken : Selection → KeyOrder → State → ℕ → Result (Option (Vec Inputs)) Fault → Type 0
AreTaken selection cmp v level (Ok None) = PicksInputs selection cmp v level
AreTaken selection cmp v level (Ok (Some parts)) =
    AreSelected selection cmp v level (Ok (map picked_in parts.items))
AreTaken selection cmp v level (Err e) = UnlessMemory e (AreSelected selection cmp v level (Err e))

-- the bottom of a version; None if no file is above it
abbrev pub IsBottomBelow : State → Option ℕ → Type 0
IsBottomBelow v None = (bottom : ℕ) × IsBottom v bottom × IsNextLevel v bottom None
IsBottomBelow v (Some bottom) = IsBottom v bottom

-- What is left of a folder that reads as this version with these tables: it is unchanged; or tables
-- were written that no version names; or a compaction of the level was installed.
abbrev pub IsLevelLeft : Selection → OrderView → LoadedVersion → ℕ → Settings → FolderChange →
    Result CompactionStep Fault → Type 0
IsLevelLeft selection by v level s change result = IsUnchanged change result
    ⊎ (IsWholeStopped by v change result ⊎ IsLevelInstalled selection by v level s change result)

-- it was refused, by its refusal, or since the device failed
pub record IsLevelRefused (way : Way) (v : LoadedVersion) (level : ℕ) (call : FolderCall)
    (result : Result (Option SyncedVersion) Fault) : Type 0 where
  pub e : Fault
  pub is : result ≡ Err e
  pub left : IsLevelLeft way.selection (order_view way.order) v level way.settings call.change
      (Err e)
  pub why : UnlessMemory e (IsStopped call.failed call.now e
      ⊎ IsRefusedSo way.selection way.order v level way.settings e)

-- it was installed; if it is to go on, what it is opened as after it is what was installed
pub record IsLevelTold (way : Way) (v : LoadedVersion) (level : ℕ) (change : FolderChange)
    (result : Result (Option SyncedVersion) Fault) : Type 0 where
  pub step : CompactionStep
  pub installed : IsLevelInstalled way.selection (order_view way.order) v level way.settings change
      (Ok step)
  pub opened : IfOk result (λ o. IfSome o (λ next. (next.order ≡ way.order)
      × (next.version ≡ installed.compacted.edited.next)
      × (next.manifest ≡ manifest_of v.version)))
  pub memory : IfErr result (λ e. e ≡ fault Memory)

abbrev pub IsLevelTaken : Way → LoadedVersion → ℕ → FolderCall →
    Result (Option SyncedVersion) Fault → Type 0
IsLevelTaken way v level call result = IsLevelRefused way v level call result
    ⊎ IsLevelTold way v level call.change result

-- Of any folder: a level of this version was compacted, and it was told. What the folder is opened
-- as after it is the version that its edit makes.
pub record IsLevelBegun {F W : Type 0} (g : Ghosts F) (tells : W → StepView → Bool → W → Type 0)
    (way : Way) (v : State) (level : ℕ) (at end : At F W)
    (result : Result (Option SyncedVersion) Fault) : Type 0 where
  pub level_made : IsLevelMade g tells way v level at end IsGoTold result
  pub opened : IfOk level_made.made (λ step. IfOk result (λ o. IfSome o (λ next.
      IsOpenedAfter way.order v step.edit.items (Ok (next.order, next.version, next.manifest)))))
