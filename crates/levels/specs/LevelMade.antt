-- One compaction in a row of them: its calls, its refusal, and what is told of it.
use Rattle.std.specs.Prelude.{Bool, Err, IfOk, IsErrAnd, Ok, Result, ℕ, ◌≡◌, ◌⊎◌}
use Rattle.edit.specs.Version.{State}
use Rattle.edit.specs.fault.Fault.{Fault}
use Rattle.folder.specs.Calls.{Files}
use Rattle.folder.specs.Manifest.{order_name}
use Rattle.folder.specs.Orders.{order_cmp, order_short_keys}
use Rattle.folder.specs.ReadsAs.{ReadsAs}
use Rattle.folder.specs.declared.folder.Folder.{Ghosts}
use Rattle.folder.specs.declared.order.Order.{Order}
use Rattle.install.specs.FolderChange.{change_of}
use Rattle.install.specs.Install.{LoadedVersion}
use Rattle.compact.specs.declared.settings.Settings.{Settings}
use Rattle.store.specs.InputsCompaction.{IsInputsCompacted}
use Rattle.store.specs.Runs.{IsLevelRun}
use Rattle.store.specs.Step.{StepView, step_in}
use Rattle.store.specs.declared.compaction_step.CompactionStep.{CompactionStep}
use Rattle.levels.specs.WholeAnswer.{AreSelected, IsWholeCompacted, PicksInputs}
use Rattle.levels.specs.WholeRuns.{IsWholeRun}
use Rattle.levels.specs.declared.selection.Selection.{Selection}

-- which calls the compaction of a level makes
abbrev pub IsLevelMadeBy : {F : Type 0} → Selection → Ghosts F → Order → State → ℕ → Settings → F →
    F → Result CompactionStep Fault → Type 0
IsLevelMadeBy selection g order v level s old new result =
    (PicksInputs selection (order_cmp order) v level
    × IsLevelRun order v level s (change_of g old new) result)
    ⊎ IsWholeRun g (order_name order) (order_cmp order) (order_short_keys order) v
    (AreSelected selection (order_cmp order) v level) s old new result

-- what it answers, of the tables that these files hold
abbrev pub IsLevelStep : Selection → Order → Files → State → ℕ → Settings →
    Result StepView Fault → Type 0
IsLevelStep selection order files v level s step =
    (PicksInputs selection (order_cmp order) v level
    × IsInputsCompacted (order_cmp order) (order_short_keys order) files v level s step)
    ⊎ IsWholeCompacted (order_cmp order) (order_short_keys order) files v
    (AreSelected selection (order_cmp order) v level) s step

-- files that read as the version with these tables, for which the compaction of the level is
-- refused so
pub record IsRefusedSo (selection : Selection) (order : Order) (v : LoadedVersion) (level : ℕ)
    (s : Settings) (e : Fault) : Type 0 where
  pub files : Files
  pub reads : ReadsAs (order_cmp order) order v.version v.tables files
  pub refused : IsLevelStep selection order files v.version level s (Err e)

-- A compaction that was refused is the answer, and nothing was told. Or its step was told, and a
-- value is answered as it was said whether to go on.
abbrev pub IsMadeTold : {T W : Type 0} → (W → StepView → Bool → W → Type 0) → W → W →
    (Bool → T → Type 0) → Result CompactionStep Fault → Result T Fault → Type 0
IsMadeTold tells told told_now IsAsTold (Err e) result =
    (told_now ≡ told) × IsErrAnd result (λ f. f ≡ e)
IsMadeTold tells told told_now IsAsTold (Ok step) result =
    (goes : Bool) × tells told (step_in step) goes told_now × IfOk result (IsAsTold goes)

-- a folder, and who is told of the work on it
pub record At (F W : Type 0) : Type 0 where
  pub folder : F
  pub told : W

abbrev pub at_by : {F W : Type 0} → F → W → At F W
at_by folder told = record { folder = folder; told = told }

-- How levels are compacted: which inputs of each, in which order of keys, by which settings, and
-- down to which level.
pub record Way : Type 0 where
  pub selection : Selection
  pub order : Order
  pub settings : Settings
  pub bottom : ℕ

abbrev pub way_by : Selection → Order → Settings → ℕ → Way
way_by selection order settings bottom =
    record { selection = selection; order = order; settings = settings; bottom = bottom }

-- A level of this version was compacted, and it was told.
pub record IsLevelMade {F T W : Type 0} (g : Ghosts F) (tells : W → StepView → Bool → W → Type 0)
    (way : Way) (v : State) (level : ℕ) (at end : At F W) (IsAsTold : Bool → T → Type 0)
    (result : Result T Fault) : Type 0 where
  pub made : Result CompactionStep Fault
  pub run : IsLevelMadeBy way.selection g way.order v level way.settings at.folder end.folder made
  pub is_told : IsMadeTold tells at.told end.told IsAsTold made result
