-- What a call on two folders answers and reports.
use Rattle.std.specs.Prelude.{◌≡◌, ◌⊎◌, ◌≤◌, Result, Ok, Err, IfErr}
use Rattle.edit.specs.Answers.{UnlessMemory, fault}
use Rattle.edit.specs.fault.Fault.{Fault}
use Rattle.edit.specs.fault.FaultName.TheVariants.{Device}
use Rattle.folder.specs.Folder.{DeviceFailed}
use Rattle.folder.specs.OpenAnswer.{StopsAtDevice}
use Rattle.folder.specs.declared.folder.Folder.{Ghosts}

-- the device of one of the folders failed during the call
abbrev pub HasEitherFailed : {F G : Type 0} → Ghosts F → Ghosts G → F → F → G → G → Type 0
HasEitherFailed f g one one_now other other_now = DeviceFailed (f.failed one) (f.failed one_now)
    ⊎ DeviceFailed (g.failed other) (g.failed other_now)

-- A call on two folders has this answer, seen by view, or Device if it has failed so. Memory aside.
abbrev pub AnswersFrom : {X Y : Type 0} → (X → Y) → Type 0 → Result X Fault →
    (Result Y Fault → Type 0) → Type 0
AnswersFrom view HasFailed (Ok x) IsAnswer = IsAnswer (Ok (view x))
AnswersFrom view HasFailed (Err e) IsAnswer =
    UnlessMemory e (((e ≡ fault Device) × HasFailed) ⊎ IsAnswer (Err e))

-- Device is answered only if the device of one of the folders failed during the call. If a count of
-- failures rose, Device is the answer. No count falls.
pub record ReportsEither {F G X : Type 0} (f : Ghosts F) (g : Ghosts G) (one one_now : F)
    (other other_now : G) (result : Result X Fault) : Type 0 where
  pub device : IfErr result (λ e. e.name ≡ Device →
      HasEitherFailed f g one one_now other other_now)
  pub first_at_once : StopsAtDevice (f.failed one) (f.failed one_now) result
  pub second_at_once : StopsAtDevice (g.failed other) (g.failed other_now) result
  pub first_later : f.failed one ≤ f.failed one_now
  pub second_later : g.failed other ≤ g.failed other_now
