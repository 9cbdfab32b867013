-- A refusal is the definition's, or Memory.
use Rattle.std.proofs.Common.{◌≡◌, ℕ, Option, None, Result, Err, refl, subst}
use Rattle.coding.specs.Answers.{fault, UnlessNamed, UnlessMemory, FailsOrMemory}
use Rattle.coding.specs.declared.fault.Fault.{Fault}
use Rattle.coding.specs.declared.fault.FaultName.{FaultName}
use Rattle.coding.specs.declared.fault.FaultName.TheVariants.{Device, Memory}

unless_by : (n : FaultName) (i : Option ℕ) (P : Type 0) → P → UnlessNamed n i P
unless_by Memory None P p = tt
unless_by _ _ P p = p

pub unless : (e : Fault) (P : Type 0) → P → UnlessMemory e P
unless e P p = unless_by e.name e.input P p

pub FailsOrMemory-from : {Y : Type 0} (e : Fault) (answer : Result Y Fault) → answer ≡ Err e → FailsOrMemory e answer
FailsOrMemory-from e answer h = unless e (answer ≡ Err e) h

from_by : (n : FaultName) (i : Option ℕ) (P Q : Type 0) → (P → Q) → UnlessNamed n i P → UnlessNamed n i Q
from_by Memory None P Q f h = tt
from_by _ _ P Q f h = f h

-- what follows of a fact that holds, unless the fault is Memory
pub unless_from : (e : Fault) (P Q : Type 0) → (P → Q) → UnlessMemory e P → UnlessMemory e Q
unless_from e P Q f h = from_by e.name e.input P Q f h

only_by : (n : FaultName) (i : Option ℕ) (P : Type 0) → (P → ⊥) → UnlessNamed n i P → record { name = n; input = i } ≡ fault Memory
only_by Memory None P never h = refl
only_by _ _ P never h = absurd (never h)

-- if the fact is false, the fault is Memory
pub only_memory : (e : Fault) (P : Type 0) → (P → ⊥) → UnlessMemory e P → e ≡ fault Memory
only_memory e P never h = only_by e.name e.input P never h

-- Device is not Memory
pub unless_device : (e : Fault) (P : Type 0) → e.name ≡ Device → UnlessMemory e P → P
unless_device e P is h = subst (λ (n : FaultName). UnlessNamed n e.input P) is h
