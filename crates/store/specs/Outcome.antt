-- The outcome of a compaction that is not installed: what is answered, and the calls that write it.
use Rattle.std.specs.Prelude.{◌≡◌, ℕ, List, [], ◌∷◌, ◌++◌, codes, Option, None, Some, Result, Ok}
use Rattle.std.specs.List.{All}
use Rattle.folder.specs.Answers.{IsThen}
use Rattle.folder.specs.fault.Fault.{Fault}
use Rattle.folder.specs.Comparator.{KeyOrder, ShortKeys}
use Rattle.folder.specs.Version.{State}
use Rattle.folder.specs.meta.DeletedFile.{DeletedFile}
use Rattle.folder.specs.Calls.{Call, Files, FolderSynced, Renamed}
use Rattle.folder.specs.ReadsAs.{IsFileIn}
use Rattle.pick.specs.PickedInputs.{PickedInputs}
use Rattle.reads.specs.Tables.{NumberedContents}
use Rattle.checks.specs.LawfulTables.{IsLawfulTables}
use Rattle.checks.specs.TestedTables.{IsTested}
use Rattle.compact.specs.AnswerIn.{answer_in}
use Rattle.compact.specs.EditOf.{deletions_of}
use Rattle.compact.specs.GroupedAnswer.{table_sizes}
use Rattle.compact.specs.InputsOver.{AreInputsOver}
use Rattle.compact.specs.OneThread.{Answer}
use Rattle.install.specs.Install.{LoadedVersion, table_calls, write_calls}
use Rattle.compact.specs.declared.settings.Settings.{Settings}
use Rattle.store.specs.Compaction.{EditedVersion}
use Rattle.store.specs.FolderRequest.{compaction_from}
use Rattle.store.specs.InputsCompaction.{IsChosenAnswer}
use Rattle.store.specs.OrderView.{OrderView}
use Rattle.store.specs.OutputRanges.{IsOldOrOutput}
use Rattle.store.specs.declared.choice.Choice.{Choice}
use Rattle.store.specs.declared.compaction_outcome.CompactionOutcome.{CompactionOutcome}

-- an outcome as contracts see it: the number and the length of each output, the inputs by level and
-- number, and the answer
pub record OutcomeView : Type 0 where
  pub outputs : List (ℕ × ℕ)
  pub deleted : List DeletedFile
  pub answer : Answer

-- the outcome that the code holds
abbrev pub outcome_in : CompactionOutcome → OutcomeView
outcome_in o =
    record { outputs = o.outputs.items; deleted = o.deleted.keys; answer = answer_in o.outcome }

-- the outcome of an answer for these inputs
abbrev pub outcome_of : PickedInputs → Answer → OutcomeView
outcome_of p answer =
    record { outputs = table_sizes answer.tables; deleted = deletions_of p.files; answer = answer }

-- what the test of a version answers, if one is asked for with a number of bytes to hold
abbrev pub IsTestAnswer : Option ℕ → Files → KeyOrder → State → Result (Unit {0}) Fault → Type 0
IsTestAnswer None files cmp v = λ answer. answer ≡ Ok tt
IsTestAnswer (Some memory) files cmp v =
    IsThen (IsTested (IsFileIn files) cmp v) (λ totals answer. answer ≡ Ok tt)

-- The outcome of a choice of inputs of a version, or its refusal. The outputs' numbers are those
-- after the manifest's, or from a first one on that is asked for.
abbrev pub IsOutcome : Option ℕ → KeyOrder → ShortKeys → Files → State → Choice → Settings →
    Result OutcomeView Fault → Type 0
IsOutcome first cmp short_keys files v choice s =
    IsThen (IsChosenAnswer first cmp short_keys files v choice s)
    (λ made outcome. outcome ≡ Ok (outcome_of made.0 made.1))

-- A compaction of inputs that are chosen of a version with the bytes of its tables. The version is
-- lawful, these inputs are chosen, so they are closed inputs over it, and this is the answer. Its
-- edit makes the edited version, also by an installation later on: the outputs' numbers are above
-- the manifest's. The outputs lie within the range of the inputs.
pub record ChosenCompaction (by : OrderView) (v : LoadedVersion)
    (AreChosen : Result PickedInputs Fault → Type 0) (first : Option ℕ) (s : Settings)
    (p : PickedInputs) (answer : Answer) : Type 0 where
  pub tables : List NumberedContents
  pub lawful : IsLawfulTables by.cmp v.version v.tables (Ok tables)
  pub is_chosen : AreChosen (Ok p)
  pub over : AreInputsOver by.cmp v.version p
  pub answered : compaction_from first by.cmp by.short_keys v.version v.tables p s ≡ Ok answer
  pub edited : EditedVersion by.cmp v.version v.tables tables s answer
  pub within : All (IsOldOrOutput by.cmp v.version p) edited.next.files

-- the calls that name a written edit: the folder is synced, then it gets its name, and then the
-- folder is synced again
abbrev pub naming_calls : List Call
naming_calls = FolderSynced ∷ Renamed (codes "EDIT.dbtmp") (codes "EDIT") ∷ FolderSynced ∷ []

-- the calls that write an edit: it is made and synced under a temporary name, and then named
abbrev pub edit_calls : List ℕ → List Call
edit_calls edit = write_calls (codes "EDIT.dbtmp") edit ++ naming_calls

-- the calls that write an outcome: each table is made and synced, and then the edit is written
abbrev pub outcome_calls : Answer → List Call
outcome_calls answer = table_calls (answer.tables ∷ []) ++ edit_calls answer.edit
