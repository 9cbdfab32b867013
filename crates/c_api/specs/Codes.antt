-- The numbers that calls answer.
use Rattle.std.specs.Prelude.{◌≡◌, ◌⊎◌, ℕ, Result, Ok, Err}
use Rattle.ikey.specs.Answers.{code_of}
use Rattle.ikey.specs.fault.Fault.{Fault}
use Rattle.c_api.specs.declared.code.TheConstants.{MEMORY}

-- an answer whose refusals are the numbers of the faults
abbrev pub coded : {A : Type 0} → Result A Fault → Result A ℕ
coded (Ok x) = Ok x
coded (Err e) = Err (code_of e.name)

-- a call's number and what it has set say this answer: 0 and the value, or the refusal's number,
-- and nothing is set
abbrev pub IsAnswer : {A : Type 0} → ℕ → A → A → Result A ℕ → Type 0
IsAnswer code old new (Ok x) = (code ≡ 0) × (new ≡ x)
IsAnswer code old new (Err n) = (code ≡ n) × (new ≡ old)

-- the same, or 99 for want of memory, and nothing is set
abbrev pub IsAnswerOrMemory : {A : Type 0} → ℕ → A → A → Result A ℕ → Type 0
IsAnswerOrMemory code old new answer =
    IsAnswer code old new answer ⊎ ((code ≡ MEMORY) × (new ≡ old))
