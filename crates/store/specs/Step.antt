-- What the caller of a compaction is answered.
use Rattle.std.specs.Prelude.{◌≡◌, ℕ, List, Result, Ok}
use Rattle.folder.specs.Answers.{IsThen, ◌>>=◌}
use Rattle.folder.specs.fault.Fault.{Fault}
use Rattle.folder.specs.Edit.{Edit, edit_bytes}
use Rattle.folder.specs.Version.{State}
use Rattle.folder.specs.meta.DeletedFile.{DeletedFile}
use Rattle.pick.specs.PickedInputs.{PickedInputs}
use Rattle.compact.specs.EditOf.{deletions_of}
use Rattle.compact.specs.GroupedAnswer.{table_sizes}
use Rattle.compact.specs.OneThread.{Answer}
use Rattle.store.specs.FolderRequest.{manifest_of}
use Rattle.store.specs.declared.compaction_step.CompactionStep.{CompactionStep}

-- a step as contracts see it: the number and the length of each output, the inputs by level and
-- number, the number of the manifest, and the bytes of the edit
pub record StepView : Type 0 where
  pub outputs : List (ℕ × ℕ)
  pub deleted : List DeletedFile
  pub manifest : ℕ
  pub edit : List ℕ

-- the step that the code holds
abbrev pub step_in : CompactionStep → StepView
step_in step = record {
  outputs = step.outputs.items;
  deleted = step.deleted.keys;
  manifest = step.manifest;
  edit = step.edit.items;
}

-- The step of an answer for these inputs of a version: the outputs in order, and the inputs, each
-- once. The number of the manifest is the version's next file.
abbrev pub step_of : State → PickedInputs → Answer → StepView
step_of v p answer = record {
  outputs = table_sizes answer.tables;
  deleted = deletions_of p.files;
  manifest = manifest_of v;
  edit = answer.edit;
}

-- the step of these outputs and of an edit of a version that adds them
abbrev pub step_by : State → List (ℕ × ℕ) → Edit → StepView
step_by v outputs e =
    record { outputs = outputs; deleted = e.deleted; manifest = manifest_of v; edit = edit_bytes e }

-- an answer with the inputs for which it is, or the refusal
abbrev pub with_inputs : PickedInputs → Result Answer Fault → Result (PickedInputs × Answer) Fault
with_inputs p answered = answered >>= λ a. Ok (p, a)

-- the step of what is answered so for some inputs of a version, or its refusal
abbrev pub IsStepFor : State → (Result (PickedInputs × Answer) Fault → Type 0) →
    Result StepView Fault → Type 0
IsStepFor v IsMade = IsThen IsMade (λ made step. step ≡ Ok (step_of v made.0 made.1))
