-- What an installation does: its calls, of which CURRENT is read again in the middle, and what they
-- make of a version.
use Rattle.std.specs.Prelude.{◌≡◌, ◌≢◌, ◌++◌, ℕ, List, [], ◌∷◌, codes, map, Some, Result, IfErr}
use Rattle.std.specs.Prelude.{IsErrAnd, OnOk}
use Rattle.edit.specs.Answers.{UnlessMemory, fault}
use Rattle.edit.specs.fault.Fault.{Fault}
use Rattle.edit.specs.fault.FaultName.TheVariants.{Changed}
use Rattle.folder.specs.Calls.{Call, Done, Files, Tells}
use Rattle.folder.specs.CallSequence.{MakesCalls}
use Rattle.folder.specs.Names.{current_text}
use Rattle.folder.specs.OpenAnswer.{IsStopped}
use Rattle.folder.specs.Reports.{ReportsDevice}
use Rattle.folder.specs.declared.folder.Folder.{Ghosts}
use Rattle.install.specs.Install.{IsStoppedOrChanged}

-- The first calls are made; then CURRENT is read; then the last calls are made, if it names the
-- manifest of the number `opened`. The first call that fails ends it.
pub record IsInstallRun {F X : Type 0} (g : Ghosts F) (first last : List Call) (opened : ℕ)
    (old new : F) (result : Result X Fault) : Type 0 where
  -- the calls that write, in their order, up to one that fails
  pub runs : MakesCalls (first ++ last) (g.calls old) (g.calls new) (g.tells old) (g.tells new)
      result
  -- at Changed the first calls were made, and no others
  pub left : IfErr result (λ e. e ≡ fault Changed → g.calls new ≡ g.calls old ++ map Done first)
  -- Only Device, Changed and Memory are answered, Device only if the device failed. Then no further
  -- call is made.
  pub refused : IfErr result
      (λ e. UnlessMemory e (IsStoppedOrChanged (g.failed old) (g.failed new) e))
  -- if the folder tells files: Changed isn't answered if CURRENT is the one that was opened, and Ok
  -- isn't if it is another one
  pub same_current : (files : Files) → Tells (g.tells old) files →
      files (codes "CURRENT") ≡ Some (current_text opened) →
      IfErr result (λ e. UnlessMemory e (IsStopped (g.failed old) (g.failed new) e))
  pub other_current : (files : Files) → Tells (g.tells old) files →
      files (codes "CURRENT") ≢ Some (current_text opened) → IsErrAnd result
      (λ e. UnlessMemory e (IsStoppedOrChanged (g.failed old) (g.failed new) e))
  pub device : ReportsDevice g old new result

-- the same calls, for which no other file was read
pub record IsInstallCalls {F X : Type 0} (g : Ghosts F) (first last : List Call) (opened : ℕ)
    (old new : F) (result : Result X Fault) : Type 0 where
  pub run : IsInstallRun g first last opened old new result
  -- at Ok CURRENT was read once, when just the first calls were made
  pub again : OnOk result (g.readings new ≡ g.readings old
      ++ (g.calls old ++ map Done first, codes "CURRENT", Some (current_text opened)) ∷ [])
