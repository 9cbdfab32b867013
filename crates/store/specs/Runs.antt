-- Which calls a compaction makes on a folder, be it one that tells what it holds or not.
use Rattle.std.specs.Prelude.{◌≡◌, ◌⊎◌, ℕ, List, ◌++◌, codes, map}
use Rattle.std.specs.Prelude.{None, Some, Result, Ok, IfErr, IfOk}
use Rattle.std.specs.List.{flat_map}
use Rattle.table.specs.Key.{IsInternalKey}
use Rattle.table.specs.TableBytes.{AreBytes}
use Rattle.folder.specs.Answers.{UnlessMemory, fault}
use Rattle.folder.specs.fault.Fault.{Fault}
use Rattle.folder.specs.fault.FaultName.TheVariants.{Changed, Device}
use Rattle.folder.specs.Comparator.{KeyOrder, ShortKeys}
use Rattle.folder.specs.Version.{State}
use Rattle.folder.specs.Calls.{Done, Step, ToldFiles}
use Rattle.folder.specs.CallSequence.{MakesCalls, TellsThrough}
use Rattle.folder.specs.Manifest.{order_name}
use Rattle.folder.specs.Names.{current_text}
use Rattle.folder.specs.OpenAnswer.{IsOpened}
use Rattle.folder.specs.Orders.{order_cmp, order_short_keys}
use Rattle.folder.specs.declared.folder.Folder.{Ghosts}
use Rattle.folder.specs.declared.order.Order.{Order}
use Rattle.pick.specs.PickedInputs.{IsPicked, PickedInputs}
use Rattle.compact.specs.OneThread.{Answer}
use Rattle.install.specs.Install.{calls_before_rename, install_calls, manifest_bytes}
use Rattle.compact.specs.declared.settings.Settings.{Settings}
use Rattle.store.specs.Compaction.{IsSynced, IsUnchanged}
use Rattle.store.specs.FolderRequest.{manifest_of}
use Rattle.store.specs.PickedOutcome.{IsPickedCompacted}
use Rattle.store.specs.Step.{step_in, step_of}
use Rattle.store.specs.VersionSync.{syncs_of}
use Rattle.store.specs.declared.compaction_step.CompactionStep.{CompactionStep}
use Rattle.install.specs.FolderChange.{FolderChange, change_of}
use Rattle.install.specs.ReadsOf.{NamedVersion}

-- The calls of the installation of an answer, up to one that fails. Its tables are written in
-- groups; the manifest has the version and the answer's edit. At Changed all calls before the
-- rename were made, and no others.
pub record AreInstallCalls {T : Type 0} (name : List ℕ) (cmp : KeyOrder) (v : State)
    (answer : Answer) (change : FolderChange) (result : Result T Fault) : Type 0 where
  pub groups : List (List (ℕ × List ℕ))
  pub together : flat_map (λ (g : List (ℕ × List ℕ)). g) groups ≡ answer.tables
  pub runs : MakesCalls
      (install_calls (manifest_of v) groups (manifest_bytes name cmp v answer.edit))
      change.before change.after change.old change.new result
  pub changed : IfErr result (λ e. e ≡ fault Changed → change.after ≡ change.before ++ map Done
      (calls_before_rename (manifest_of v) groups (manifest_bytes name cmp v answer.edit)))

-- An answer like this for some inputs was installed: these are its calls. The key that the inputs
-- set is an internal key, and the answer's edit is bytes. At Ok the step is that of the answer. The
-- only faults are Device, Changed and Memory.
pub record IsAnswerInstalled (IsAnswer : PickedInputs → Answer → Type 0) (name : List ℕ)
    (cmp : KeyOrder) (v : State) (change : FolderChange) (result : Result CompactionStep Fault)
    : Type 0 where
  pub picked : PickedInputs
  pub answer : Answer
  pub is_answer : IsAnswer picked answer
  pub pointer : IsInternalKey picked.pointer.key
  pub bytes : AreBytes answer.edit
  pub calls : AreInstallCalls name cmp v answer change result
  pub step : IfOk result (λ step. step_in step ≡ step_of v picked answer)
  pub refused : IfErr result
      (λ e. UnlessMemory e ((e ≡ fault Device) ⊎ (e ≡ fault Changed)))

-- What one thread answers for the inputs that are picked of a level, with tables that reads of the
-- folder may give.
abbrev pub IsAnswerForLevel : KeyOrder → ShortKeys → ToldFiles → State → ℕ → Settings →
    PickedInputs → Answer → Type 0
IsAnswerForLevel cmp short_keys told v level s picked answer = IsPicked cmp v level picked
    × IsPickedCompacted None cmp short_keys told v s picked answer

-- One thread's answer for a level of this version was installed. Its tables are those that the
-- folder told at first.
abbrev pub IsLevelCompacted : Order → State → ℕ → Settings → FolderChange →
    Result CompactionStep Fault → Type 0
IsLevelCompacted order v level s change result = IsAnswerInstalled
    (IsAnswerForLevel (order_cmp order) (order_short_keys order) change.old v level s)
    (order_name order) (order_cmp order) v change result

-- no call that writes was made; or such an answer was installed
abbrev pub IsLevelRun : Order → State → ℕ → Settings → FolderChange →
    Result CompactionStep Fault → Type 0
IsLevelRun order v level s change result = IsUnchanged change result
    ⊎ IsLevelCompacted order v level s change result

-- From the first folder on, just these calls that write were made up to this one.
pub record HasMade {F : Type 0} (g : Ghosts F) (first : F) (steps : List Step) (at : F)
    : Type 0 where
  pub calls : g.calls at ≡ g.calls first ++ steps
  pub change : TellsThrough steps (g.tells first) (g.tells at)

-- A version was opened by the manifest of a number, as the bytes say that were read. Then the
-- syncs of it were made, up to one that failed, and no other call that writes. Or all of them were
-- made, and after them one thread's answer for a level was installed. Its tables are those that the
-- folder told after the syncs.
pub record IsOpenedRun {F : Type 0} (g : Ghosts F) (level : ℕ) (s : Settings) (first last : F)
    (result : Result CompactionStep Fault) : Type 0 where
  pub now : NamedVersion
  pub opened : IsOpened (g.tells first) (Ok (now.order, now.version))
  pub named : g.tells first (codes "CURRENT") (Some (current_text now.manifest))
  pub runs : IsSynced (syncs_of now) (change_of g first last) result
      ⊎ ((at : F) × HasMade g first (map Done (syncs_of now)) at
      × IsLevelCompacted now.order now.version level s (change_of g at last) result)

-- no call that writes was made; or a version was opened, and this is what followed
abbrev pub IsFolderRun : {F : Type 0} → Ghosts F → ℕ → Settings → F → F →
    Result CompactionStep Fault → Type 0
IsFolderRun g level s first last result = IsUnchanged (change_of g first last) result
    ⊎ IsOpenedRun g level s first last result
