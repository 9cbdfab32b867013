-- What the compaction of inputs is to be for an installation.
use Rattle.std.specs.Prelude.{◌≡◌, ◌≢◌, ◌⊎◌, ◌<◌, ◌^◌, ℕ, List, unwrap_or, None, Result, Ok, Err}
use Rattle.folder.specs.Answers.{◌>>=◌}
use Rattle.folder.specs.fault.Fault.{Fault}
use Rattle.folder.specs.fault.FaultName.TheVariants.{Device}
use Rattle.folder.specs.Comparator.{KeyOrder, ShortKeys}
use Rattle.folder.specs.Version.{State}
use Rattle.pick.specs.PickedInputs.{IsInputsAnswer, PickedInputs}
use Rattle.reads.specs.TableContents.{Contents}
use Rattle.compact.specs.OneThread.{Answer}
use Rattle.compact.specs.declared.settings.Settings.{Settings}
use Rattle.store.specs.FolderRequest.{compaction_from}
use Rattle.store.specs.InputsCompaction.{input_tables}
use Rattle.store.specs.Compaction.{IsUnchanged}
use Rattle.store.specs.Runs.{IsAnswerInstalled}
use Rattle.store.specs.Step.{StepView, step_of}
use Rattle.store.specs.StepLeft.{IsStepInstalled}
use Rattle.store.specs.declared.compaction_step.CompactionStep.{CompactionStep}
use Rattle.install.specs.FolderChange.{FolderChange}
use Rattle.install.specs.Install.{LoadedVersion}
use Rattle.store.specs.OrderView.{OrderView}
use Rattle.store.specs.Outcome.{ChosenCompaction}

-- if this is what the compaction of inputs answers, and the version's log numbers are below 2 ^ 64,
-- it makes the edited version
abbrev pub CanBeInstalled : OrderView → LoadedVersion → ℕ → Settings → PickedInputs →
    Result Answer Fault → Type 0
CanBeInstalled by v level s p answered =
    (answer : Answer) → answered ≡ Ok answer → unwrap_or v.version.log_number 0 < 2 ^ 64 →
    unwrap_or v.version.previous_log 0 < 2 ^ 64 →
    ChosenCompaction by v (IsInputsAnswer by.cmp v.version level) None s p answer

-- the step of what a compaction of these inputs answers, or its refusal
abbrev pub step_result : State → PickedInputs → Result Answer Fault → Result StepView Fault
step_result v p answered = answered >>= λ a. Ok (step_of v p a)

-- no refusal of a compaction is Device
abbrev pub NeverDevice : Result Answer Fault → Type 0
NeverDevice answered = (e : Fault) → answered ≡ Err e → e.name ≢ Device

-- What one thread answers for inputs with these tables. Each table is valid, and as its file
-- states.
pub record IsAnswerForInputs (cmp : KeyOrder) (short_keys : ShortKeys) (v : State)
    (loaded : List (ℕ × List ℕ)) (s : Settings) (p : PickedInputs) (answer : Answer)
    : Type 0 where
  pub contents : List Contents
  pub stated : input_tables cmp p.files loaded ≡ Ok contents
  pub answered : compaction_from None cmp short_keys v loaded p s ≡ Ok answer

-- these are those inputs, and it is the value of this answer
abbrev pub IsAnsweredBy : PickedInputs → Result Answer Fault → PickedInputs → Answer → Type 0
IsAnsweredBy given answered p answer = (p ≡ given) × (answered ≡ Ok answer)

-- these are those inputs, and it is an answer for them
abbrev pub IsAnswerForThese : (PickedInputs → Answer → Type 0) → PickedInputs → PickedInputs →
    Answer → Type 0
IsAnswerForThese IsAnswer given p answer = (p ≡ given) × IsAnswer p answer

-- no call that writes was made; or an answer like this was installed
abbrev pub IsRun : (PickedInputs → Answer → Type 0) → List ℕ → KeyOrder → State → FolderChange →
    Result CompactionStep Fault → Type 0
IsRun IsAnswer name cmp v change result = IsUnchanged change result
    ⊎ IsAnswerInstalled IsAnswer name cmp v change result

-- what is left of a folder that reads as this version with these tables
abbrev pub IsStepLeft : OrderView → LoadedVersion → ℕ → Settings → FolderChange →
    Result CompactionStep Fault → Type 0
IsStepLeft by v level s change result = IsUnchanged change result
    ⊎ IsStepInstalled by v level s change result
