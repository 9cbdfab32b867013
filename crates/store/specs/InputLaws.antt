-- Inputs that are read alone.
use Rattle.std.specs.Prelude.{◌≡◌, ℕ, ◌<◌, ◌^◌, true, List, map, unwrap_or, Option, Ok}
use Rattle.table.specs.Key.{IsInternalKey}
use Rattle.folder.specs.Comparator.{KeyOrder, ShortKeys}
use Rattle.folder.specs.Version.{IsState, State, are_apart}
use Rattle.folder.specs.Calls.{Files}
use Rattle.folder.specs.Levels.{file_numbers}
use Rattle.folder.specs.LoadedTables.{IsLoaded}
use Rattle.folder.specs.ReadsAs.{IsFileIn}
use Rattle.folder.specs.declared.order.Order.{Order}
use Rattle.install.specs.Install.{table_bytes_of, version_with}
use Rattle.pick.specs.PickedInputs.{PickedInputs}
use Rattle.pick.specs.declared.picked_inputs.InputFile.{InputFile}
use Rattle.reads.specs.Tables.{NumberedContents}
use Rattle.checks.specs.LawfulTables.{IsLawfulTables}
use Rattle.compact.specs.OneThread.{Answer}
use Rattle.compact.specs.declared.settings.Settings.{Settings}
use Rattle.store.specs.Choice.{IsChosen}
use Rattle.store.specs.FolderRequest.{compaction_from}
use Rattle.store.specs.InputsCompaction.{input_numbers}
use Rattle.store.specs.OrderView.{order_by}
use Rattle.store.specs.Outcome.{ChosenCompaction}
use Rattle.store.specs.declared.choice.Choice.{Choice}

-- the bytes that were read of chosen inputs in their order are those under their numbers
abbrev pub ChosenInOrder : KeyOrder → Type 0
ChosenInOrder cmp =
    (v : State) (choice : Choice) (p : PickedInputs) (own : List (ℕ × List ℕ)) →
    are_apart v.files ≡ true → IsChosen cmp v choice (Ok p) →
    map (λ (t : ℕ × List ℕ). t.0) own ≡ input_numbers p.files →
    map (λ (t : ℕ × List ℕ). t.1) own
    ≡ map (λ (i : InputFile). table_bytes_of own i.meta.number) p.files

-- What the compaction of chosen inputs answers, of which the tables alone were read, is a
-- compaction of that choice, if the version is lawful with the tables that the folder holds. The
-- key that the inputs set is an internal key.
abbrev pub ChosenInstalled : KeyOrder → ShortKeys → Type 0
ChosenInstalled cmp short_keys =
    (order : Order) (first : Option ℕ) (files : Files) (v : State)
    (loaded own : List (ℕ × List ℕ)) (tables : List NumberedContents) (choice : Choice)
    (p : PickedInputs) (s : Settings) (answer : Answer) →
    IsLoaded (IsFileIn files) (file_numbers cmp v) (Ok loaded) →
    IsLawfulTables cmp v loaded (Ok tables) → IsState v.pointers v.files →
    IsChosen cmp v choice (Ok p) → IsInternalKey p.pointer.key →
    IsLoaded (IsFileIn files) (input_numbers p.files) (Ok own) →
    unwrap_or v.log_number 0 < 2 ^ 64 → unwrap_or v.previous_log 0 < 2 ^ 64 →
    compaction_from first cmp short_keys v own p s ≡ Ok answer →
    ChosenCompaction (order_by order cmp short_keys) (version_with v loaded) (IsChosen cmp v choice)
    first s p answer
