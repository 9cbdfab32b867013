-- The compaction of a folder, step by step.
use Rattle.std.proofs.Common.{◌≡◌, ◌≢◌, ◌⊎◌, ℕ, ◌≤◌, Result, Ok, Err, IsErrAnd, OnOk, refl, inl}
use Rattle.folder.proofs.Refusals.{unless_from, unless_device}
use Rattle.folder.specs.Answers.{IsThen, UnlessMemory}
use Rattle.folder.specs.fault.Fault.{Fault}
use Rattle.folder.specs.fault.FaultName.TheVariants.{Device}
use Rattle.folder.proofs.OpeningLemmas.{answers_since, hands_on}
pub use Rattle.folder.proofs.ToldLemmas.{loaded_in, opened_in, told_still}
use Rattle.folder.specs.Calls.{Files, Tells}
use Rattle.folder.specs.OpenAnswer.{FolderAnswers, HasDeviceFailed, IsStopped}
use Rattle.folder.specs.ReadsAs.{IsFileIn}

abbrev pub refusal : {Y : Type 0} → Fault → Result Y Fault
refusal e = Err e

pub no_refusal : {Y : Type 0} (y : Y) (e : Fault) → Ok y ≡ refusal e → ⊥
no_refusal y e h = cc

pub same_refusal : {Y : Type 0} (e d : Fault) → refusal {Y = Y} e ≡ refusal d → e ≡ d
same_refusal e d h = cc

-- files tell themselves
pub told_themselves : (files : Files) → Tells (IsFileIn files) files
told_themselves files name held = ((λ h. h), (λ h. h))

-- ---- answers

-- a step's refusal is the answer's
pub first_refused : {A B : Type 0} (IsFirst : Result A Fault → Type 0) (IsNext : A → Result B Fault → Type 0) (e : Fault) → IsFirst (Err e) → IsThen IsFirst IsNext (Err e)
first_refused IsFirst IsNext e h = (Err e, (h, refl))

-- after a step's value the next one answers
pub first_passed : {A B : Type 0} (IsFirst : Result A Fault → Type 0) (IsNext : A → Result B Fault → Type 0) (a : A) (answer : Result B Fault) → IsFirst (Ok a) → IsNext a answer → IsThen IsFirst IsNext answer
first_passed IsFirst IsNext a answer h next = (Ok a, (h, next))

-- the answer of a step after one that was answered
pub answers_behind : {A B X : Type 0} (view : X → B) (before middle now : ℕ) (r : Result X Fault) (IsFirst : Result A Fault → Type 0) (IsNext IsLater : A → Result B Fault → Type 0) (a : A)
    → before ≤ middle → middle ≤ now → IsFirst (Ok a) → ((answer : Result B Fault) → IsLater a answer → IsNext a answer) → FolderAnswers view middle now r (IsLater a) → FolderAnswers view before now r (IsThen IsFirst IsNext)
answers_behind view before middle now r IsFirst IsNext IsLater a one two h f given =
    answers_since view before middle now r (IsLater a) (IsThen IsFirst IsNext) (λ answer later. (Ok a, (h, f answer later))) one two given

-- a failure of the device, or Memory, is handed on
pub stopped_on : {X Y : Type 0} (view : X → Y) (before middle now : ℕ) (r : Result X Fault) (e : Fault) (IsAnswer : Result Y Fault → Type 0)
    → IsErrAnd r (λ f. f ≡ e) → before ≤ middle → middle ≤ now → UnlessMemory e (IsStopped middle now e) → FolderAnswers view before now r IsAnswer
stopped_on {Y = Y} view before middle now r e IsAnswer h one two given =
    hands_on {Z = Y} view before middle now r e IsAnswer IsAnswer h one two (unless_from e (IsStopped middle now e) (IsStopped middle now e ⊎ IsAnswer (Err e)) (λ s. inl s) given) (λ x. x)

-- ---- Device

-- it was another name, or the device had failed
pub never_device : (before now : ℕ) (e : Fault) (P : Type 0) → (P → e.name ≢ Device) → UnlessMemory e P → HasDeviceFailed before now e
never_device before now e P f given = λ same. absurd (f (unless_device e P same given) same)

-- an error is no value
pub no_value : {T : Type 0} (r : Result T Fault) (P : Fault → Type 0) → IsErrAnd r P → OnOk r ⊥
no_value (Ok x) P h = absurd h
no_value (Err e) P h = tt
