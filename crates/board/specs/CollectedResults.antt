-- The answers of all jobs as one answer, for labours that state their answers as a list.
use Rattle.std.specs.Prelude.{◌≡◌, ℕ, List, [], ◌∷◌, Option, None, Some, Result, Ok, Err, slice_get}
use Rattle.coding.specs.declared.fault.Fault.{Fault}
use Rattle.coding.specs.Answers.{◌>>=◌}

-- the values of all answers in order, or the first refusal
abbrev pub collected_results : {B : Type 0} → List (Result B Fault) → Result (List B) Fault
collected_results [] = Ok []
collected_results (answer ∷ rest) = answer >>= λ value. collected_results rest >>=
    λ values. Ok (value ∷ values)

-- the fault of an answer, if it is a refusal
abbrev pub fault_in : {B : Type 0} → Option (Result B Fault) → Option Fault
fault_in None = None
fault_in (Some (Ok value)) = None
fault_in (Some (Err e)) = Some e

-- the fault that refuses a job, if the answers of all jobs are these
abbrev pub refusal_at : {B : Type 0} → List (Result B Fault) → ℕ → Option Fault
refusal_at answers job = fault_in (slice_get answers job)

-- the answer of a job is this value
abbrev pub HasValue : {B : Type 0} → List (Result B Fault) → ℕ → B → Type 0
HasValue answers job value = slice_get answers job ≡ Some (Ok value)
