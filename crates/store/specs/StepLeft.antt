-- What a compaction leaves of a folder.
use Rattle.std.specs.Prelude.{◌≡◌, ◌⊎◌, ℕ, List, ◌++◌, codes, map, None, Some, Result, Ok, IfErr}
use Rattle.std.specs.Prelude.{IfOk, OnOk}
use Rattle.folder.specs.Answers.{UnlessMemory, fault}
use Rattle.folder.specs.fault.Fault.{Fault}
use Rattle.folder.specs.fault.FaultName.TheVariants.{Device}
use Rattle.folder.specs.Comparator.{KeyOrder}
use Rattle.folder.specs.Version.{State}
use Rattle.folder.specs.Calls.{Done, Files}
use Rattle.folder.specs.Crash.{World}
use Rattle.folder.specs.Names.{current_text}
use Rattle.folder.specs.OpenAnswer.{IsOpened}
use Rattle.folder.specs.Orders.{order_cmp}
use Rattle.folder.specs.ReadsAs.{IsFileIn, ReadsAs}
use Rattle.checks.specs.TestedTables.{IsTested}
use Rattle.checks.specs.declared.version_totals.VersionTotals.{VersionTotals}
use Rattle.pick.specs.PickedInputs.{IsInputsAnswer, PickedInputs}
use Rattle.compact.specs.OneThread.{Answer}
use Rattle.install.specs.Install.{AlwaysStandsAs, LoadedVersion, SurvivesCrash, next_with}
use Rattle.install.specs.Install.{version_with}
use Rattle.compact.specs.declared.settings.Settings.{Settings}
use Rattle.store.specs.Compaction.{IsSynced, IsUnchanged}
use Rattle.store.specs.FolderRequest.{manifest_of}
use Rattle.store.specs.Step.{StepView, step_in, step_of}
use Rattle.store.specs.VersionSync.{AlwaysReadsBy, syncs_of}
use Rattle.store.specs.declared.compaction_step.CompactionStep.{CompactionStep}
use Rattle.install.specs.FolderChange.{FolderChange, change_since}
use Rattle.install.specs.ReadsOf.{NamedVersion}
use Rattle.store.specs.OrderView.{OrderView, order_view}
use Rattle.store.specs.Outcome.{ChosenCompaction}

-- the version passes the test with the tables that these files hold
abbrev pub PassesTest : Files → KeyOrder → State → Type 0
PassesTest files cmp v = (totals : VersionTotals) × IsTested (IsFileIn files) cmp v (Ok totals)

-- A next version was installed by one manifest, from these calls on. A crash at any moment leaves
-- the version before or the next one. At Ok it is the next one, CURRENT names its manifest, and
-- this is the step. The only faults are Device and Memory.
pub record IsInstalled (by : OrderView) (v next : LoadedVersion) (step : StepView)
    (change : FolderChange) (result : Result CompactionStep Fault) : Type 0 where
  pub survives : SurvivesCrash by.cmp by.order v next change result
  pub named : OnOk result
      (change.new (codes "CURRENT") (Some (current_text (manifest_of v.version))))
  pub is_step : IfOk result (λ made. step_in made ≡ step)
  pub refused : IfErr result (λ e. UnlessMemory e (e ≡ fault Device))

-- a compaction of the version was installed, with the step of its answer
pub record IsStepInstalled (by : OrderView) (v : LoadedVersion) (level : ℕ) (s : Settings)
    (change : FolderChange) (result : Result CompactionStep Fault) : Type 0 where
  pub picked : PickedInputs
  pub answer : Answer
  pub compacted : ChosenCompaction by v (IsInputsAnswer by.cmp v.version level) None s picked answer
  pub installed : IsInstalled by v
      (next_with by.cmp compacted.edited.next answer.tables v.tables)
      (step_of v.version picked answer) change result

-- what is left of a folder of these files, which read as this version: it is unchanged, or a
-- compaction was installed
abbrev pub IsVersionLeft : OrderView → State → Files → ℕ → Settings → FolderChange →
    Result CompactionStep Fault → Type 0
IsVersionLeft by v files level s change result = IsUnchanged change result
    ⊎ ((loaded : List (ℕ × List ℕ)) × ReadsAs by.cmp by.order v loaded files
    × IsStepInstalled by (version_with v loaded) level s change result)

-- What is left of a folder that was opened as a version by the manifest of a number. It holds what
-- it held, and at most the version was synced; or after the sync of it a compaction was installed.
-- If the folder reads as the version, whatever was synced before, it stands for it after that sync.
pub record IsOpenedLeft (files : Files) (level : ℕ) (s : Settings) (change : FolderChange)
    (result : Result CompactionStep Fault) : Type 0 where
  pub now : NamedVersion
  pub opened : IsOpened (IsFileIn files) (Ok (now.order, now.version))
  pub named : files (codes "CURRENT") ≡ Some (current_text now.manifest)
  pub left : IsSynced (syncs_of now) change result ⊎ ((loaded : List (ℕ × List ℕ))
      × ReadsAs (order_cmp now.order) now.order now.version loaded files
      × IsStepInstalled (order_view now.order) (version_with now.version loaded) level s
      (change_since (map Done (syncs_of now)) change) result)
  pub stands : (tables : List (ℕ × List ℕ)) (start : World) →
      AlwaysReadsBy (order_cmp now.order) now.order now.version now.manifest tables start
      change.before → AlwaysStandsAs (order_cmp now.order) now.order now.version tables start
      (change.before ++ map Done (syncs_of now))

-- What is left of a folder that held these files: it is untouched, as if it can't be opened, or it
-- was opened.
abbrev pub IsFolderLeft : Files → ℕ → Settings → FolderChange →
    Result CompactionStep Fault → Type 0
IsFolderLeft files level s change result = IsUnchanged change result
    ⊎ IsOpenedLeft files level s change result
