-- What is answered of what a compaction made.
use Rattle.std.proofs.Common.{◌≡◌, ◌⊎◌, ℕ, List, Option, None, Result, Ok, Err, IfErr, IfOk, refl, sym, ap, subst}
use Rattle.folder.proofs.Binds.{ok_is}
use Rattle.folder.proofs.Refusals.{only_memory, unless_device, unless_from}
use Rattle.folder.specs.Answers.{EqualOrMemory, FailsOrMemory, HoldsOrMemory, IsThen, fault}
use Rattle.folder.specs.fault.Fault.{Fault}
use Rattle.folder.specs.fault.FaultName.TheVariants.{Memory}
use Rattle.compact.specs.AnswerIn.{answer_in}
use Rattle.compact.specs.OneThread.{Answer}
use Rattle.folder.specs.Version.{State}
use Rattle.compact.specs.outcome.Outcome.{Outcome}
use Rattle.folder.specs.OpenAnswer.{FolderAnswers, HasDeviceFailed, IsStopped}
use Rattle.pick.specs.PickedInputs.{PickedInputs}
use Rattle.reads.specs.TableContents.{Contents}
use Rattle.compact.specs.declared.settings.Settings.{Settings}
use Rattle.folder.specs.Comparator.{KeyOrder, ShortKeys}
use Rattle.store.specs.FolderRequest.{compaction_from}
use Rattle.store.specs.FoundInputs.{step_result}
use Rattle.store.specs.InputsCompaction.{IsReadAnswer, input_tables}
use Rattle.store.specs.Step.{IsStepFor, StepView, with_inputs}
use Rattle.store.proofs.Flow.{no_refusal as no_error, refusal}

-- ---- what is made of an answer

-- what one answer is made of, another one is too
pub made_as : {A B : Type 0} (IsOne IsOther : Result A Fault → Type 0) (IsNext : A → Result B Fault → Type 0) (answer : Result B Fault) → ((r : Result A Fault) → IsOne r → IsOther r) → IsThen IsOne IsNext answer → IsThen IsOther IsNext answer
made_as IsOne IsOther IsNext answer f (Ok x, (h, next)) = (Ok x, (f (Ok x) h, next))
made_as IsOne IsOther IsNext answer f (Err e, (h, is)) = (Err e, (f (Err e) h, is))

-- the step of an answer with its inputs
pub step_made : (v : State) (p : PickedInputs) (IsMade : Result (PickedInputs × Answer) Fault → Type 0) (answered : Result Answer Fault) (step : Result StepView Fault)
    → IsMade (with_inputs p answered) → step ≡ step_result v p answered → IsStepFor v IsMade step
step_made v p IsMade (Ok a) step h is = (Ok (p, a), (h, is))
step_made v p IsMade (Err e) step h is = (Err e, (h, is))

-- the answer for inputs whose tables were read
pub read_answered : (first : Option ℕ) (cmp : KeyOrder) (short_keys : ShortKeys) (v : State) (s : Settings) (p : PickedInputs) (loaded : List (ℕ × List ℕ)) (contents : List Contents)
    → input_tables cmp p.files loaded ≡ Ok contents → IsReadAnswer first cmp short_keys v s p loaded (with_inputs p (compaction_from first cmp short_keys v loaded p s))
read_answered first cmp short_keys v s p loaded contents read = (Ok contents, (read, refl))

-- the refusal of their tables
pub tables_refused : (first : Option ℕ) (cmp : KeyOrder) (short_keys : ShortKeys) (v : State) (s : Settings) (p : PickedInputs) (loaded : List (ℕ × List ℕ)) (e : Fault)
    → input_tables cmp p.files loaded ≡ Err e → IsReadAnswer first cmp short_keys v s p loaded (Err e)
tables_refused first cmp short_keys v s p loaded e read = (Err e, (read, refl))

pub read_refused : (cmp : KeyOrder) (short_keys : ShortKeys) (v : State) (s : Settings) (p : PickedInputs) (loaded : List (ℕ × List ℕ)) (e : Fault)
    → input_tables cmp p.files loaded ≡ Err e → IsStepFor v (IsReadAnswer None cmp short_keys v s p loaded) (Err e)
read_refused cmp short_keys v s p loaded e read = (Err e, (tables_refused None cmp short_keys v s p loaded e read, refl))

-- ---- answers of the code

-- an outcome, with its inputs
pub made_with : (p : PickedInputs) (r : Result Outcome Fault) (answer : Result Answer Fault) (IsAnswer : Result (PickedInputs × Answer) Fault → Type 0) → IsAnswer (with_inputs p answer)
    → EqualOrMemory answer_in r answer → HoldsOrMemory (λ o. (p, answer_in o)) r IsAnswer
made_with p (Ok o) answer IsAnswer given h = subst IsAnswer (ap (with_inputs p) h) given
made_with p (Err e) answer IsAnswer given h =
    unless_from e (answer ≡ Err e) (IsAnswer (Err e)) (λ is. subst IsAnswer (ap (with_inputs p) is) given) h

pub answered_so : (r : Result Outcome Fault) (answer : Result Answer Fault) → EqualOrMemory answer_in r answer → IfOk r (λ o. answer ≡ Ok (answer_in o))
answered_so (Ok o) answer h = h
answered_so (Err e) answer h = tt

-- what has a value is refused as Memory alone
pub memory_alone_at : {Y : Type 0} (y : Y) (e : Fault) → FailsOrMemory e (Ok y) → e ≡ fault Memory
memory_alone_at y e h = only_memory e (Ok y ≡ refusal e) (no_error y e) h

module _ {X Y : Type 0} (view : X → Y) (y : Y) where
  -- a call that has this value or lacks memory answers what the value is an answer of
  pub equal_answers : (before now : ℕ) (r : Result X Fault) (IsAnswer : Result Y Fault → Type 0) → IsAnswer (Ok y) → EqualOrMemory view r (Ok y) → FolderAnswers view before now r IsAnswer
  equal_answers before now (Ok x) IsAnswer h is = subst IsAnswer is h
  equal_answers before now (Err e) IsAnswer h is =
      unless_from e (Ok y ≡ refusal e) (IsStopped before now e ⊎ IsAnswer (Err e)) (λ same. absurd (no_error y e same)) is

  pub equal_ok : (r : Result X Fault) (P : X → Type 0) → ((x : X) → view x ≡ y → P x) → EqualOrMemory view r (Ok y) → IfOk r P
  equal_ok (Ok x) P f is = f x (sym (ok_is y (view x) is))
  equal_ok (Err e) P f is = tt

  pub equal_never : (before now : ℕ) (r : Result X Fault) → EqualOrMemory view r (Ok y) → IfErr r (HasDeviceFailed before now)
  equal_never before now (Ok x) is = tt
  equal_never before now (Err e) is = λ device. absurd (no_error y e (unless_device e (Ok y ≡ refusal e) device is))

  pub equal_value : (x : X) → EqualOrMemory view (Ok x) (Ok y) → view x ≡ y
  equal_value x is = sym (ok_is y (view x) is)
