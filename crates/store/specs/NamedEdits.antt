-- What names tables that were written: one manifest, whose edit is all of theirs as one.
use Rattle.std.specs.Prelude.{◌≡◌, ◌⊎◌, ◌<◌, ◌^◌, ℕ, List, Result, IfErr, IfOk}
use Rattle.folder.specs.Answers.{UnlessMemory}
use Rattle.folder.specs.fault.Fault.{Fault}
use Rattle.folder.specs.Comparator.{KeyOrder}
use Rattle.folder.specs.Edit.{Edit, IsEdit, IsEditRefused, edit_bytes}
use Rattle.folder.specs.Version.{IsState, State}
use Rattle.folder.specs.VersionOrder.{snapshot_of}
use Rattle.folder.specs.declared.folder.Folder.{Ghosts}
use Rattle.install.specs.FolderChange.{change_of}
use Rattle.install.specs.Install.{current_calls, manifest_bytes, manifest_calls}
use Rattle.install.specs.InstallCalls.{IsInstallCalls}
use Rattle.store.specs.Compaction.{IsUnchanged}
use Rattle.store.specs.FolderRequest.{manifest_of}
use Rattle.store.specs.Step.{step_by, step_in}
use Rattle.store.specs.declared.compaction_step.CompactionStep.{CompactionStep}
use Rattle.store.specs.declared.named_edits.WrittenTables.{WrittenTables}

-- no call that writes was made: the edits read as none, or there was no memory
pub record AreUnnamed {F : Type 0} (g : Ghosts F) (edits : List ℕ) (old new : F)
    (result : Result CompactionStep Fault) : Type 0 where
  pub nothing : IsUnchanged (change_of g old new) result
  pub why : IfErr result (λ e. UnlessMemory e (IsEditRefused edits e))

-- The edits read as one, and a manifest that has it was installed, up to a call that failed. At Ok
-- the step has these tables, and deletes what that edit does.
pub record AreNamed {F : Type 0} (g : Ghosts F) (name : List ℕ) (cmp : KeyOrder) (v : State)
    (opened : ℕ) (w : WrittenTables) (old new : F) (result : Result CompactionStep Fault)
    : Type 0 where
  pub edit : Edit
  pub read : IsEdit w.edits.items edit
  pub again : IsEdit (edit_bytes edit) edit
  pub snapshot : IsEdit (edit_bytes (snapshot_of name cmp v)) (snapshot_of name cmp v)
  pub state : IsState v.pointers v.files
  pub small : manifest_of v < 2 ^ 64
  pub calls : IsInstallCalls g
      (manifest_calls (manifest_of v) (manifest_bytes name cmp v (edit_bytes edit)))
      (current_calls (manifest_of v)) opened old new result
  pub step : IfOk result (λ step. step_in step ≡ step_by v w.outputs.items edit)

abbrev pub IsNaming : {F : Type 0} → Ghosts F → List ℕ → KeyOrder → State → ℕ → WrittenTables →
    F → F → Result CompactionStep Fault → Type 0
IsNaming g name cmp v opened w old new result =
    AreUnnamed g w.edits.items old new result ⊎ AreNamed g name cmp v opened w old new result
