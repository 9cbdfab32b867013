-- A refusal that is only Memory.
use Rattle.std.proofs.Common.{◌≡◌, ℕ, ◌^◌, ◌<◌, ◌≤◌, List, length, Result, Ok, Err, refl}
use Rattle.std.specs.Result.{OnOk}
use Rattle.std.proofs.lemmas.Bool.{lt-leb, le-leb}
use Rattle.coding.specs.Answers.{FailsOrMemory, fault}
use Rattle.coding.proofs.Refusals.{only_memory}
use Rattle.coding.specs.declared.fault.Fault.{Fault}
use Rattle.coding.specs.declared.fault.FaultName.TheVariants.{Memory, TooLarge}
use Rattle.table.specs.Table.{within_limit}

-- an answer with a value
abbrev pub fine : {X : Type 0} → X → Result X Fault
fine x = Ok x

-- if the definition answers a value, the only fault is Memory
pub memory_alone : {X : Type 0} (e : Fault) (x : X) (answer : Result X Fault) → answer ≡ Ok x → FailsOrMemory e answer → e ≡ fault Memory
memory_alone e x answer ok h = only_memory e (answer ≡ Err e) (λ no. absurd cc) h

-- a fact that follows if a call succeeds
pub OnOk-map : {X E : Type 0} (r : Result X E) (P Q : Type 0) → (P → Q) → OnOk r P → OnOk r Q
OnOk-map (Ok x) P Q f h = f h
OnOk-map (Err e) P Q f h = h

pub over_limit : (bytes : List ℕ) → 2 ^ 30 < length bytes → within_limit bytes ≡ Err (fault TooLarge)
over_limit bytes lt = rw (lt-leb (length bytes) (2 ^ 30) lt) refl

pub in_limit : (bytes : List ℕ) → length bytes ≤ 2 ^ 30 → within_limit bytes ≡ Ok bytes
in_limit bytes le = rw (le-leb (length bytes) (2 ^ 30) le) refl

pub ok_is : {X : Type 0} {x y : X} → fine x ≡ fine y → x ≡ y
ok_is e = cc
