-- What the installation of an outcome answers: how its edit is adopted, and what is tested of its
-- outputs and of the version.
use Rattle.std.specs.Prelude.{◌≡◌, ℕ, ◌+◌, ◌-◌, ◌^◌, nat_lt, max, List, map, codes}
use Rattle.std.specs.Prelude.{Some, None, unwrap_or, Result, Ok}
use Rattle.std.specs.Option.{ok_or}
use Rattle.edit.specs.Answers.{IsThen, fault, ◌>>=◌}
use Rattle.edit.specs.fault.Fault.{Fault}
use Rattle.edit.specs.fault.FaultName.TheVariants.{Apply, Numbers}
use Rattle.edit.specs.Comparator.{KeyOrder}
use Rattle.keep.specs.TestResult.{test_result}
use Rattle.keep.specs.TableContents.{Contents}
use Rattle.compact.specs.options.TheConstants.{DEFAULT_BLOCK_SIZE, DEFAULT_FILE_SIZE}
use Rattle.compact.specs.options.TheConstants.{DEFAULT_RESTART_INTERVAL}
use Rattle.edit.specs.Edit.{Edit, edit_bytes}
use Rattle.edit.specs.Version.{State, applied}
use Rattle.edit.specs.declared.meta.NewFile.{NewFile}
use Rattle.folder.specs.Calls.{Files, ToldFiles}
use Rattle.folder.specs.LoadedTables.{IsLoaded}
use Rattle.folder.specs.OpenAnswer.{IsFileReading}
use Rattle.folder.specs.ReadsAs.{IsFileIn}
use Rattle.pick.specs.PickedInputs.{PickedInputs}
use Rattle.pick.specs.declared.picked_inputs.InputFile.{InputFile}
use Rattle.keep.specs.Readable.{readable_of}
use Rattle.keep.specs.declared.snapshots.Snapshots.{Snapshots}
use Rattle.compact.specs.Request.{RequestView, request_test}
use Rattle.store.specs.FolderRequest.{last_of, manifest_of}
use Rattle.store.specs.InputsCompaction.{IsOrderlyAnswer, input_numbers, input_tables}
use Rattle.store.specs.OpenedAfter.{IsEditAnswer}
use Rattle.store.specs.Outcome.{IsTestAnswer, OutcomeView, outcome_of}
use Rattle.adoption.specs.EditFit.{IsFitting}
use Rattle.adoption.specs.KeptEntries.{IsKeptAnswer}
use Rattle.adoption.specs.declared.comparison.Comparison.{Comparison}
use Rattle.adoption.specs.declared.comparison.Comparison.TheVariants.{With, LeftOut}

-- ---- the edit that is installed

-- the next file after an adopted edit: that of the edit, or the number after the manifest's if that
-- is greater; the manifest takes the version's next file
abbrev pub adopted_next : State → Edit → ℕ
adopted_next v e = max (unwrap_or e.next_file 0) (manifest_of v + 1)

-- an edit as it is installed: with the counters of the version
abbrev pub adopted : State → Edit → Edit
adopted v e = record e {
  comparator = None;
  log_number = Some (unwrap_or v.log_number 0);
  previous_log = Some (unwrap_or v.previous_log 0);
  next_file = Some (adopted_next v e);
  last_sequence = Some (last_of v);
}

-- that edit, or Numbers if no number is left after the manifest's
abbrev pub counted_edit : State → Edit → Result Edit Fault
counted_edit v e = test_result (nat_lt (manifest_of v) (2 ^ 64 - 1)) Numbers >>=
    λ _. Ok (adopted v e)

-- new files as files whose tables are read and tested
abbrev pub outputs_in_edit : List NewFile → List InputFile
outputs_in_edit added = map (λ (f : NewFile). record { level = f.level; meta = f.meta }) added

-- an adopted edit: its compaction's inputs, its new files, the bytes that are installed, the
-- version that they make, and the last sequence of the version that was compacted
pub record Adoption : Type 0 where
  pub picked : PickedInputs
  pub outputs : List InputFile
  pub edit : List ℕ
  pub next : State
  pub last : ℕ

-- an edit adopted, if it is one for these inputs; Apply if it doesn't apply
abbrev pub adoption_by : State → PickedInputs → Edit → Result Adoption Fault
adoption_by v p e = do
  installed ← counted_edit v e
  next ← ok_or (applied v installed) (fault Apply)
  Ok (record {
    picked = p;
    outputs = outputs_in_edit e.added;
    edit = edit_bytes installed;
    next = next;
    last = unwrap_or e.last_sequence 0;
  })

-- The answer for an edit and a version. The first refusal counts: of the version's files, of which
-- no table is read; of an edit that doesn't fit; Numbers; of the edited version's files. Else the
-- edit is adopted.
abbrev pub IsAdoption : KeyOrder → State → Edit → Result Adoption Fault → Type 0
IsAdoption cmp v e = IsThen (IsOrderlyAnswer cmp v) (λ passed.
    IsThen (IsFitting cmp v e) (λ p.
    IsThen (λ made. adoption_by v p e ≡ made) (λ a.
    IsThen (IsOrderlyAnswer cmp a.next) (λ orderly answer. answer ≡ Ok a))))

-- ---- what the folder of an outcome holds

-- the edit that a folder holds, or why there is none
abbrev pub IsEditGiven : ToldFiles → Result Edit Fault → Type 0
IsEditGiven tells = IsThen (IsFileReading tells (codes "EDIT")) IsEditAnswer

-- the outcome that a folder holds: its edit, adopted for this version, and the outputs' tables; or
-- the first refusal
abbrev pub IsGiven : KeyOrder → ToldFiles → State →
    Result (Adoption × List (ℕ × List ℕ)) Fault → Type 0
IsGiven cmp tells v = IsThen (IsEditGiven tells) (λ e.
    IsThen (IsAdoption cmp v e) (λ a.
    IsThen (IsLoaded tells (input_numbers a.outputs)) (λ tables answer. answer ≡ Ok (a, tables))))

-- ---- the outputs

-- what is asked of a compaction with which outputs are compared: it has the inputs' tables and the
-- snapshots; its limits make no difference
abbrev pub compared_request : PickedInputs → Snapshots → ℕ → List Contents → RequestView
compared_request p snapshots last inputs = record {
  picked = p;
  tables = map (λ (t : Contents). t.bytes) inputs;
  snapshots = snapshots;
  first_number = 0;
  log_number = 0;
  previous_log = 0;
  last_sequence = last;
  options = record {
    block_size = DEFAULT_BLOCK_SIZE;
    restart_interval = DEFAULT_RESTART_INTERVAL;
    file_size = DEFAULT_FILE_SIZE;
  };
}

-- The answer of a comparison with the inputs' tables. The first refusal counts: of what is asked;
-- Lawless, unless the outputs hold just what a compaction keeps.
abbrev pub IsTablesCompared : KeyOrder → PickedInputs → Snapshots → ℕ → List Contents →
    List Contents → Result (Unit {0}) Fault → Type 0
IsTablesCompared cmp p snapshots last outputs inputs =
    IsThen (λ asked. request_test cmp (compared_request p snapshots last inputs) ≡ asked)
    (λ passed. IsKeptAnswer cmp (readable_of snapshots last) p.deeper
    (map (λ (t : Contents). t.entries) inputs) (map (λ (t : Contents). t.entries) outputs))

-- the same with the inputs' bytes: first the refusals of their tables
abbrev pub IsInputsCompared : KeyOrder → PickedInputs → Snapshots → ℕ → List Contents →
    List (ℕ × List ℕ) → Result (Unit {0}) Fault → Type 0
IsInputsCompared cmp p snapshots last outputs loaded =
    IsThen (λ read. input_tables cmp p.files loaded ≡ read)
    (IsTablesCompared cmp p snapshots last outputs)

-- the same with the inputs in a folder: first Missing of the first that is missing
abbrev pub IsOutputsCompared : KeyOrder → Files → Adoption → Snapshots → List Contents →
    Result (Unit {0}) Fault → Type 0
IsOutputsCompared cmp files a snapshots outputs =
    IsThen (IsLoaded (IsFileIn files) (input_numbers a.picked.files))
    (IsInputsCompared cmp a.picked snapshots a.last outputs)

-- outputs are compared, or not
abbrev pub IsComparison : KeyOrder → Files → Adoption → Comparison → List Contents →
    Result (Unit {0}) Fault → Type 0
IsComparison cmp files a (With snapshots) outputs = IsOutputsCompared cmp files a snapshots outputs
IsComparison cmp files a LeftOut outputs = λ answer. answer ≡ Ok tt

-- The test of an outcome's outputs: the refusal of the first that is invalid; Bounds, if one isn't
-- as the edit states it; then the comparison.
abbrev pub IsGivenTested : KeyOrder → Files → Adoption × List (ℕ × List ℕ) → Comparison →
    Result (Unit {0}) Fault → Type 0
IsGivenTested cmp files given comparison =
    IsThen (λ read. input_tables cmp given.0.outputs given.1 ≡ read)
    (IsComparison cmp files given.0 comparison)

-- an outcome that was given, for its inputs: its tables, and the adopted edit
abbrev pub adopted_outcome : Adoption × List (ℕ × List ℕ) → OutcomeView
adopted_outcome given =
    outcome_of given.0.picked (record { tables = given.1; edit = given.0.edit })

-- the answer for an outcome that was given: the refusal of its outputs, or itself
abbrev pub IsGivenTaken : KeyOrder → Files → Adoption × List (ℕ × List ℕ) → Comparison →
    Result OutcomeView Fault → Type 0
IsGivenTaken cmp files given comparison =
    IsThen (IsGivenTested cmp files given comparison)
    (λ passed answer. answer ≡ Ok (adopted_outcome given))

-- ---- the version

-- if outputs are compared, the version that was opened is tested first,
abbrev pub IsFirstTested : KeyOrder → Files → State → Comparison → Result (Unit {0}) Fault → Type 0
IsFirstTested cmp files v (With snapshots) = IsTestAnswer (Some 0) files cmp v
IsFirstTested cmp files v LeftOut = IsTestAnswer None files cmp v

-- and else the one that outcomes leave, last
abbrev pub IsLastTested : KeyOrder → Files → State → Comparison → Result (Unit {0}) Fault → Type 0
IsLastTested cmp files v (With snapshots) = IsTestAnswer None files cmp v
IsLastTested cmp files v LeftOut = IsTestAnswer (Some 0) files cmp v
