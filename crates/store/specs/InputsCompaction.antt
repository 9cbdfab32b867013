-- What the compaction of a version answers that reads its inputs and no other table.
use Rattle.std.specs.Prelude.{◌≡◌, ℕ, ◌+◌, ◌<◌, ◌≤◌, Bool, true, ◌&&◌, List, ◌∷◌, length, map}
use Rattle.std.specs.Prelude.{slice_index_or, Option, None, Result, Ok, Err}
use Rattle.std.specs.List.{All}
use Rattle.std.specs.declared.cmp.Ordering.TheVariants.{Less}
use Rattle.folder.specs.Answers.{IsThen, fault, ◌>>=◌}
use Rattle.folder.specs.fault.Fault.{Fault}
use Rattle.folder.specs.fault.FaultName.TheVariants.{Bounds, Lawless}
use Rattle.folder.specs.Comparator.{KeyOrder, ShortKeys}
use Rattle.folder.specs.Order.{internal_cmp}
use Rattle.reads.specs.TestResult.{test_result}
use Rattle.reads.specs.TableContents.{Contents}
use Rattle.folder.specs.Version.{State}
use Rattle.folder.specs.VersionOrder.{level_files}
use Rattle.folder.specs.meta.FileMeta.{FileMeta}
use Rattle.folder.specs.meta.TheConstants.{LAST_LEVEL}
use Rattle.folder.specs.Calls.{Files}
use Rattle.folder.specs.LoadedTables.{IsLoaded}
use Rattle.folder.specs.ReadsAs.{IsFileIn}
use Rattle.pick.specs.Parts.{IsPartsAnswer}
use Rattle.pick.specs.PickedInputs.{IsInputsAnswer, PickedInputs}
use Rattle.pick.specs.declared.picked_inputs.InputFile.{InputFile}
use Rattle.reads.specs.Lawful.{IsBelowNextFile}
use Rattle.reads.specs.Tables.{NumberedContents}
use Rattle.checks.specs.TableReadings.{tables_reading}
use Rattle.compact.specs.Inputs.{table_matches_metadata}
use Rattle.compact.specs.OneThread.{Answer}
use Rattle.compact.specs.declared.settings.Settings.{Settings}
use Rattle.store.specs.Choice.{IsChosen}
use Rattle.store.specs.FolderRequest.{compaction_from}
use Rattle.store.specs.Step.{IsStepFor, StepView, with_inputs}
use Rattle.store.specs.declared.choice.Choice.{Choice}

-- the largest key of each file is below the smallest of the next one
abbrev pub RangesRise : KeyOrder → List FileMeta → Type 0
RangesRise cmp files = (k : ℕ) (d : FileMeta) → k + 1 < length files →
    internal_cmp cmp (slice_index_or files k d).largest (slice_index_or files (k + 1) d).smallest
    ≡ Less

-- what the files of a level tell of a lawful version by themselves: their numbers are below next
-- file, and from level 1 on their ranges rise
pub record IsOrderlyLevel (cmp : KeyOrder) (v : State) (level : ℕ) : Type 0 where
  pub below_next : All (λ (f : FileMeta). IsBelowNextFile v.next_file f.number)
      (level_files cmp v level)
  pub rising : 1 ≤ level → RangesRise cmp (level_files cmp v level)

-- each level is so; each version has each number once
abbrev pub IsOrderly : KeyOrder → State → Type 0
IsOrderly cmp v = (level : ℕ) → level ≤ LAST_LEVEL → IsOrderlyLevel cmp v level

-- what the test of a version's files answers that reads no table
abbrev pub IsOrderlyAnswer : KeyOrder → State → Result (Unit {0}) Fault → Type 0
IsOrderlyAnswer cmp v (Ok passed) = IsOrderly cmp v
IsOrderlyAnswer cmp v (Err e) = (e ≡ fault Lawless) × (IsOrderly cmp v → ⊥)

-- the inputs of a choice of a version whose files were tested; no table is read
abbrev pub IsChoiceAnswer : KeyOrder → State → Choice → Result PickedInputs Fault → Type 0
IsChoiceAnswer cmp v choice = IsThen (IsOrderlyAnswer cmp v) (λ passed. IsChosen cmp v choice)

-- the parts of a level of such a version
abbrev pub ArePartsFound : KeyOrder → State → ℕ → Result (List PickedInputs) Fault → Type 0
ArePartsFound cmp v level = IsThen (IsOrderlyAnswer cmp v) (λ passed. IsPartsAnswer cmp v level)

-- the numbers of inputs in their order
abbrev pub input_numbers : List InputFile → List ℕ
input_numbers files = map (λ (i : InputFile). i.meta.number) files

-- whether the table of each input is as its file states
abbrev pub are_stated : List InputFile → List NumberedContents → Bool
are_stated (i ∷ files) (t ∷ tables) = table_matches_metadata i.meta t.contents
    && are_stated files tables
are_stated _ _ = true

-- The tables of inputs by their bytes: the refusal of the first that is invalid; else Bounds if one
-- isn't as its file states.
abbrev pub input_tables : KeyOrder → List InputFile → List (ℕ × List ℕ) →
    Result (List Contents) Fault
input_tables cmp files loaded = do
  tables ← tables_reading cmp loaded
  _ ← test_result (are_stated files tables) Bounds
  Ok (map (λ (t : NumberedContents). t.contents) tables)

-- The answer for inputs whose tables were read, with the inputs: first the refusal of their tables,
-- then what the request for them answers.
abbrev pub IsReadAnswer : Option ℕ → KeyOrder → ShortKeys → State → Settings → PickedInputs →
    List (ℕ × List ℕ) → Result (PickedInputs × Answer) Fault → Type 0
IsReadAnswer first cmp short_keys v s p loaded =
    IsThen (λ read. input_tables cmp p.files loaded ≡ read) (λ tables answer.
    answer ≡ with_inputs p (compaction_from first cmp short_keys v loaded p s))

-- the answer for inputs whose tables are in a folder: first Missing of the first that is missing
abbrev pub IsPickedAnswer : Option ℕ → KeyOrder → ShortKeys → Files → State → Settings →
    PickedInputs → Result (PickedInputs × Answer) Fault → Type 0
IsPickedAnswer first cmp short_keys files v s p =
    IsThen (IsLoaded (IsFileIn files) (input_numbers p.files))
    (IsReadAnswer first cmp short_keys v s p)

-- The answer for a choice of inputs of a version, with the inputs. The first refusal counts: of the
-- choice; of the inputs' tables; of their compaction. The outputs' numbers are those after the
-- manifest's, or from a first one on that is asked for.
abbrev pub IsChosenAnswer : Option ℕ → KeyOrder → ShortKeys → Files → State → Choice → Settings →
    Result (PickedInputs × Answer) Fault → Type 0
IsChosenAnswer first cmp short_keys files v choice s =
    IsThen (IsChoiceAnswer cmp v choice) (IsPickedAnswer first cmp short_keys files v s)

-- its step for what the rules pick of a level, or its refusal
abbrev pub IsInputsCompacted : KeyOrder → ShortKeys → Files → State → ℕ → Settings →
    Result StepView Fault → Type 0
IsInputsCompacted cmp short_keys files v level s =
    IsStepFor v (IsThen (IsThen (IsOrderlyAnswer cmp v) (λ passed. IsInputsAnswer cmp v level))
    (IsPickedAnswer None cmp short_keys files v s))
