-- Which parts of a level are compacted together, and what that answers, from one version.
use Rattle.std.specs.List.{sum_by}
use Rattle.std.specs.Prelude.{Bool, Err, List, Ok, Result, Some, [], filter, flat_map, length}
use Rattle.std.specs.Prelude.{nat_le, nat_lt, ℕ, ◌&&◌, ◌+◌, ◌-◌, ◌^◌, ◌∷◌, ◌≡◌, ◌≢◌}
use Rattle.edit.specs.Answers.{IsThen, fault, ◌>>=◌}
use Rattle.edit.specs.Comparator.{KeyOrder, ShortKeys}
use Rattle.edit.specs.Edit.{Edit, IsEdit}
use Rattle.edit.specs.Version.{State}
use Rattle.edit.specs.fault.Fault.{Fault}
use Rattle.edit.specs.fault.FaultName.TheVariants.{NoInput, Numbers}
use Rattle.pick.specs.Parts.{IsPartsAnswer}
use Rattle.pick.specs.PickedInputs.{PickedInputs}
use Rattle.pick.specs.declared.picked_inputs.InputFile.{InputFile}
use Rattle.folder.specs.Calls.{Files}
use Rattle.folder.specs.Levels.{file_numbers}
use Rattle.folder.specs.LoadedTables.{IsLoaded}
use Rattle.folder.specs.ReadsAs.{IsFileIn}
use Rattle.keep.specs.TestResult.{test_result}
use Rattle.compact.specs.GroupedAnswer.{table_sizes}
use Rattle.compact.specs.OneThread.{Answer}
use Rattle.compact.specs.declared.request_conditions.TheConstants.{MAX_INPUTS}
use Rattle.compact.specs.declared.settings.Settings.{Settings}
use Rattle.checks.specs.LawfulTables.{IsLawfulTables}
use Rattle.store.specs.FolderRequest.{compaction_from, manifest_of}
use Rattle.store.specs.InputsCompaction.{ArePartsFound}
use Rattle.store.specs.Step.{StepView, step_by}
use Rattle.levels.specs.declared.selection.Selection.{Selection}
use Rattle.levels.specs.declared.selection.Selection.TheVariants.{Fitting, Whole}

-- ---- parts, one after the other

-- the tables of answers, in their order
abbrev pub tables_of : List Answer → List (ℕ × List ℕ)
tables_of answers = flat_map (λ (a : Answer). a.tables) answers

-- the bytes of their edits, one after the other
abbrev pub edits_of : List Answer → List ℕ
edits_of answers = flat_map (λ (a : Answer). a.edit) answers

-- What the compaction of a part answers whose outputs have the numbers after this one, or Numbers
-- if none is left after it.
abbrev pub part_result : KeyOrder → ShortKeys → State → List (ℕ × List ℕ) → Settings → ℕ →
    PickedInputs → Result Answer Fault
part_result cmp short_keys v loaded s last p =
    test_result (nat_lt last (2 ^ 64 - 1)) Numbers >>=
    λ _. compaction_from (Some (last + 1)) cmp short_keys v loaded p s

-- The number after which the outputs of the next part are numbered: the next file that the edit of
-- this one sets. If each part were installed before the next one is compacted, a manifest would
-- have it.
abbrev pub next_last : ℕ → Answer → ℕ
next_last last a = last + 1 + length a.tables

-- The answers of parts in their order, each for the same version; or the first refusal. The outputs
-- have the numbers that they have if each part is installed before the next one is compacted.
abbrev pub parts_result : KeyOrder → ShortKeys → State → List (ℕ × List ℕ) → Settings → ℕ →
    List PickedInputs → Result (List Answer) Fault
parts_result cmp short_keys v loaded s last [] = Ok []
parts_result cmp short_keys v loaded s last (p ∷ parts) = do
  a ← part_result cmp short_keys v loaded s last p
  rest ← parts_result cmp short_keys v loaded s (next_last last a) parts
  Ok (a ∷ rest)

-- ---- which parts

-- which parts are compacted together, or the refusal
abbrev pub Choosing : Type 1
Choosing = Result (List PickedInputs) Fault → Type 0

-- parts, or NoInput if there is none
abbrev pub some_parts : List PickedInputs → Result (List PickedInputs) Fault
some_parts [] = Err (fault NoInput)
some_parts (p ∷ parts) = Ok (p ∷ parts)

-- The parts of a level. The first refusal counts: that of them; NoInput, if the level has no file.
abbrev pub AreLevelParts : KeyOrder → State → ℕ → Choosing
AreLevelParts cmp v level = IsThen (IsPartsAnswer cmp v level)
    (λ parts answer. answer ≡ some_parts parts)

-- whether a part fits: it has at most 256 inputs, and their files at most so many bytes together
abbrev pub fits : ℕ → PickedInputs → Bool
fits memory p = nat_le (length p.files) MAX_INPUTS
    && nat_le (sum_by (λ (i : InputFile). i.meta.size) p.files) memory

-- the parts of a level that fit, perhaps none, or the first refusal: that of the version's files,
-- or of the parts
abbrev pub ArePartsFitting : ℕ → KeyOrder → State → ℕ → Choosing
ArePartsFitting memory cmp v level = IsThen (ArePartsFound cmp v level)
    (λ parts answer. answer ≡ Ok (filter (fits memory) parts))

-- the parts that a selection takes of a level: all, or those that fit, if there are any
abbrev pub AreSelected : Selection → KeyOrder → State → ℕ → Choosing
AreSelected Whole cmp v level = AreLevelParts cmp v level
AreSelected (Fitting memory) cmp v level =
    λ answer. ArePartsFitting memory cmp v level answer × (answer ≢ Ok [])

-- A selection takes no part of a level, since none fits, and so the inputs that the rules pick.
abbrev pub PicksInputs : Selection → KeyOrder → State → ℕ → Type 0
PicksInputs Whole cmp v level = ⊥
PicksInputs (Fitting memory) cmp v level = ArePartsFitting memory cmp v level (Ok [])

-- ---- a level

-- The answers for chosen parts of a level of a version with tables in a folder. The first refusal
-- counts: of a table, which are read by level and in version order; of a version that isn't lawful;
-- of the choice; of their compactions.
abbrev pub IsVersionWhole : KeyOrder → ShortKeys → Files → State → Choosing → Settings →
    Result (List Answer) Fault → Type 0
IsVersionWhole cmp short_keys files v AreChosen s =
    IsThen (IsLoaded (IsFileIn files) (file_numbers cmp v)) (λ loaded.
    IsThen (IsLawfulTables cmp v loaded) (λ tables.
    IsThen AreChosen (λ parts answer.
    answer ≡ parts_result cmp short_keys v loaded s (manifest_of v) parts)))

-- ---- its step

-- The step of answers whose edits together are this one: all outputs in order, and the files that
-- the edit deletes. The number of the manifest is the version's next file.
abbrev pub whole_step : State → List Answer → Edit → StepView
whole_step v answers e = step_by v (table_sizes (tables_of answers)) e

-- the step of answers: their edits, one after the other, read as one edit
abbrev pub IsWholeStep : State → List Answer → Result StepView Fault → Type 0
IsWholeStep v answers step = (e : Edit) × IsEdit (edits_of answers) e
    × (step ≡ Ok (whole_step v answers e))

-- what the compaction of chosen parts of a version answers
abbrev pub IsWholeCompacted : KeyOrder → ShortKeys → Files → State → Choosing → Settings →
    Result StepView Fault → Type 0
IsWholeCompacted cmp short_keys files v AreChosen s =
    IsThen (IsVersionWhole cmp short_keys files v AreChosen s) (IsWholeStep v)
