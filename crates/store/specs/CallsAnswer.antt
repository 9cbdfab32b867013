-- What a function does that makes some calls on a folder.
use Rattle.std.specs.Prelude.{List, Result, IfErr}
use Rattle.folder.specs.Answers.{UnlessMemory}
use Rattle.folder.specs.fault.Fault.{Fault}
use Rattle.folder.specs.Calls.{Call}
use Rattle.folder.specs.CallSequence.{MakesCalls}
use Rattle.folder.specs.OpenAnswer.{IsStopped}
use Rattle.folder.specs.Reports.{ReportsDevice}
use Rattle.folder.specs.declared.folder.Folder.{Ghosts}

-- It makes these calls in their order, up to one that fails. Only Device and Memory are answered,
-- Device if the device failed.
pub record IsCallsAnswer {F X : Type 0} (g : Ghosts F) (calls : List Call) (old new : F)
    (result : Result X Fault) : Type 0 where
  pub runs : MakesCalls calls (g.calls old) (g.calls new) (g.tells old) (g.tells new) result
  pub refused : IfErr result (λ e. UnlessMemory e (IsStopped (g.failed old) (g.failed new) e))
  pub device : ReportsDevice g old new result
