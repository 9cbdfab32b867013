-- What calls on a folder report of the device, and what a call leaves that only reads.
use Rattle.std.specs.Prelude.{◌≡◌, ◌≤◌, Result, IfErr}
use Rattle.ikey.specs.fault.Fault.{Fault}
use Rattle.folder.specs.Folder.{TellsSame}
use Rattle.folder.specs.OpenAnswer.{HasDeviceFailed, StopsAtDevice}
use Rattle.folder.specs.declared.folder.Folder.{Ghosts}

-- Device is answered only if the device failed during the call. If the count of failures rose,
-- Device is the answer. The count never falls.
pub record ReportsDevice {F X : Type 0} (g : Ghosts F) (old new : F) (result : Result X Fault)
    : Type 0 where
  pub device : IfErr result (HasDeviceFailed (g.failed old) (g.failed new))
  pub at_once : StopsAtDevice (g.failed old) (g.failed new) result
  pub later : g.failed old ≤ g.failed new

-- The folder tells the same as before, and no call that writes was made.
pub record OnlyReads {F : Type 0} (g : Ghosts F) (old new : F) : Type 0 where
  pub same : TellsSame (g.tells old) (g.tells new)
  pub calls : g.calls new ≡ g.calls old
