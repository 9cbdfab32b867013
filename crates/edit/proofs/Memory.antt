-- A call that answers a value, or Memory.
use Rattle.std.proofs.Common.{◌≡◌, Result, Ok, Err}
use Rattle.coding.proofs.Refusals.{only_memory}
use Rattle.coding.specs.Answers.{fault, FailsOrMemory}
use Rattle.coding.specs.declared.fault.Fault.{Fault}
use Rattle.coding.specs.declared.fault.FaultName.TheVariants.{Memory}

abbrev refused : {Y : Type 0} → Fault → Result Y Fault
refused e = Err e

no_refusal : {Y : Type 0} (y : Y) (e : Fault) → Ok y ≡ refused e → ⊥
no_refusal y e h = cc

-- if the definition answers a value, the only fault of the call is Memory
pub FailsOrMemory-memory : {Y : Type 0} (e : Fault) (y : Y) → FailsOrMemory {Y = Y} e (Ok y) → e ≡ fault Memory
FailsOrMemory-memory e y h = only_memory e (Ok y ≡ refused e) (no_refusal y e) h
