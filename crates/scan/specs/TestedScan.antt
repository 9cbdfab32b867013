-- What a scan of a version tells that is tested first.
use Rattle.std.specs.Prelude.{◌≡◌, ◌⊎◌, ℕ, List, Result, Ok, Err, IsErrAnd}
use Rattle.table.specs.Answers.{UnlessMemory}
use Rattle.table.specs.fault.Fault.{Fault}
use Rattle.table.specs.Comparator.{KeyOrder}
use Rattle.folder.specs.Version.{State}
use Rattle.folder.specs.Calls.{ToldFiles}
use Rattle.folder.specs.Levels.{file_numbers}
use Rattle.folder.specs.LoadedTables.{IsLoaded}
use Rattle.folder.specs.OpenAnswer.{IsStopped}
use Rattle.reads.specs.Tables.{NumberedContents}
use Rattle.checks.specs.LawfulTables.{IsLawfulTables}
use Rattle.checks.specs.TestedTables.{IsTested}
use Rattle.scan.specs.ToldRows.{IsScan, FailureCounts, RowTelling}
use Rattle.scan.specs.declared.row_choice.RowChoice.{RowChoice}

-- the version is lawful with the tables that a folder tells, and its rows are told
pub record IsLawfulScan {T : Type 0} (held : ToldFiles) (cmp : KeyOrder) (v : State)
    (choice : RowChoice) (taker : RowTelling T) (failures : FailureCounts)
    (result : Result (Unit {0}) Fault) : Type 0 where
  pub loaded : List (ℕ × List ℕ)
  pub tables : List NumberedContents
  pub there : IsLoaded held (file_numbers cmp v) (Ok loaded)
  pub lawful : IsLawfulTables cmp v loaded (Ok tables)
  pub scan : IsScan cmp v tables choice taker failures result

-- Or nothing is told: the device failed, or the version is refused as its test refuses it. Memory
-- aside.
abbrev pub IsTestedScan : {T : Type 0} → ToldFiles → KeyOrder → State → RowChoice →
    RowTelling T → FailureCounts → Result (Unit {0}) Fault → Type 0
IsTestedScan held cmp v choice taker failures result =
    IsLawfulScan held cmp v choice taker failures result
    ⊎ ((taker.new ≡ taker.old) × IsErrAnd result (λ e. UnlessMemory e
    (IsStopped failures.before failures.now e ⊎ IsTested held cmp v (Err e))))
