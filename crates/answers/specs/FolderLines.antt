-- The answers of the commands that read the tables of a folder.
use Rattle.std.specs.Prelude.{◌≡◌, ℕ, List, ◌++◌, codes, decimal, length, Option}
use Rattle.std.specs.Prelude.{Result, Ok}
use Rattle.table.specs.Answers.{IsThen}
use Rattle.table.specs.fault.Fault.{Fault}
use Rattle.table.specs.Comparator.{KeyOrder}
use Rattle.edit.specs.Version.{State}
use Rattle.folder.specs.Levels.{file_numbers}
use Rattle.folder.specs.LoadedTables.{IsLoaded}
use Rattle.folder.specs.OpenAnswer.{IsOpened}
use Rattle.checks.specs.Gets.{get_of}
use Rattle.checks.specs.Tables.{NumberedContents}
use Rattle.checks.specs.LawfulTables.{IsLawfulTables}
use Rattle.checks.specs.TestedTables.{entry_count}
use Rattle.scan.specs.ChosenRows.{chosen_sequence}
use Rattle.folder.specs.Orders.{order_cmp}
use Rattle.folder.specs.Calls.{ToldFiles}
use Rattle.answers.specs.ValueForms.{value_answer}
use Rattle.answers.specs.declared.value_forms.ValueForm.{ValueForm}

-- the answer of the tables, if the version is lawful with them
abbrev pub IsAnswerOfLoaded : {Y : Type 0} → KeyOrder → State → List (ℕ × List ℕ) →
    (List NumberedContents → Y) → Result Y Fault → Type 0
IsAnswerOfLoaded cmp v loaded answer_of = IsThen (IsLawfulTables cmp v loaded)
    (λ tables answer. answer ≡ Ok (answer_of tables))

-- the same with tables in a folder: first all of them are read, by level and in version order
abbrev pub IsAnswerOfVersion : {Y : Type 0} → ToldFiles → KeyOrder → State →
    (List NumberedContents → Y) → Result Y Fault → Type 0
IsAnswerOfVersion tells cmp v answer_of = IsThen (IsLoaded tells (file_numbers cmp v))
    (λ loaded. IsAnswerOfLoaded cmp v loaded answer_of)

-- the same of the version that a folder opens as
abbrev pub IsAnswerOfFolder : {Y : Type 0} → ToldFiles → (State → List NumberedContents → Y) →
    Result Y Fault → Type 0
IsAnswerOfFolder tells answer_of = IsThen (IsOpened tells)
    (λ opened. IsAnswerOfVersion tells (order_cmp opened.0) opened.1 (answer_of opened.1))

-- `lawful: F files, E entries`
abbrev pub lawful_line : ℕ → ℕ → List ℕ
lawful_line files entries = codes "lawful: " ++ (decimal files ++ (codes " files, "
    ++ (decimal entries ++ codes " entries\n")))

-- that line for tables, one for each file of a version
abbrev pub verified_line : List NumberedContents → List ℕ
verified_line tables = lawful_line (length tables) (entry_count tables)

-- what is printed of the value of a user key at a sequence, or at the version's last one
abbrev pub got_answer : ValueForm → List ℕ → Option ℕ → State → List NumberedContents →
    Option (List ℕ)
got_answer form key at v tables = value_answer form (get_of v tables key (chosen_sequence v at))
