-- Calls on a folder that answer a value, or why they can't.
use Rattle.std.specs.Prelude.{◌≡◌, ◌⊎◌, Result, Ok, Err}
use Rattle.table.specs.Answers.{fault}
use Rattle.table.specs.fault.Fault.{Fault}
use Rattle.table.specs.fault.FaultName.TheVariants.{Device, Memory}

-- a fault that comes whatever the folder holds
abbrev pub IsExcuse : Fault → Type 0
IsExcuse e = (e ≡ fault Device) ⊎ (e ≡ fault Memory)

-- a call answers a value of which P holds, or Device or Memory
abbrev pub Gives : {X : Type 0} → Result X Fault → (X → Type 0) → Type 0
Gives (Ok x) P = P x
Gives (Err e) P = IsExcuse e
