-- How much a version has, after it is tested.
use Rattle.std.specs.Prelude.{◌≡◌, Result, Ok}
use Rattle.table.specs.Answers.{IsThen}
use Rattle.table.specs.fault.Fault.{Fault}
use Rattle.table.specs.Comparator.{KeyOrder}
use Rattle.folder.specs.Version.{State}
use Rattle.folder.specs.Calls.{ToldFiles}
use Rattle.folder.specs.Levels.{file_numbers}
use Rattle.folder.specs.LoadedTables.{IsLoaded}
use Rattle.checks.specs.LawfulTables.{IsLawfulTables}
use Rattle.scan.specs.Stats.{Stats, version_stats}

-- What is answered of a version, with the tables that a folder tells: how much it has, if it is
-- lawful with them. Else it is refused as its test refuses it.
abbrev pub IsTestedStats : ToldFiles → KeyOrder → State → Result Stats Fault → Type 0
IsTestedStats held cmp v = IsThen (IsLoaded held (file_numbers cmp v)) (λ loaded.
    IsThen (IsLawfulTables cmp v loaded) (λ tables answer.
    answer ≡ Ok (version_stats cmp v tables)))
