-- What holds of a definition's answer holds of what a call answers.
use Rattle.std.proofs.Common.{◌≡◌, Result, Ok, Err, subst}
use Rattle.std.specs.Result.{IfOk}
use Rattle.coding.specs.Answers.{EqualOrMemory}
use Rattle.coding.specs.declared.fault.Fault.{Fault}

pub IfOk-EqualOrMemory : {X : Type 0} (P : X → Type 0) (result : Result X Fault) (x : X) → EqualOrMemory (λ own. own) result (Ok x) → P x → IfOk result P
IfOk-EqualOrMemory P (Ok y) x e h = subst P (let same : x ≡ y = cc in same) h
IfOk-EqualOrMemory P (Err e) x f h = tt
