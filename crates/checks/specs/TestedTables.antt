-- The test of a version with tables that files hold.
use Rattle.std.specs.Prelude.{◌≡◌, ℕ, List, length, Result, Ok}
use Rattle.std.specs.List.{flat_map}
use Rattle.ikey.specs.Answers.{IsThen}
use Rattle.ikey.specs.fault.Fault.{Fault}
use Rattle.ikey.specs.Comparator.{KeyOrder}
use Rattle.folder.specs.Version.{State}
use Rattle.folder.specs.Levels.{file_numbers}
use Rattle.folder.specs.LoadedTables.{IsLoaded}
use Rattle.reads.specs.Tables.{NumberedContents}
use Rattle.folder.specs.Calls.{ToldFiles}
use Rattle.checks.specs.LawfulTables.{IsLawfulTables}
use Rattle.checks.specs.declared.version_totals.VersionTotals.{VersionTotals}

-- the number of entries in all these tables
abbrev pub entry_count : List NumberedContents → ℕ
entry_count tables = length (flat_map (λ t. t.contents.entries) tables)

-- how many tables these are, and how many entries they have
abbrev pub totals_of : List NumberedContents → VersionTotals
totals_of tables = record { files = length tables; entries = entry_count tables }

-- What the test of a version answers, with the tables that a folder tells. All of them are read, by
-- level and in version order; then each is checked; then the version is lawful with them.
abbrev pub IsTested : ToldFiles → KeyOrder → State → Result VersionTotals Fault → Type 0
IsTested tells cmp v =
    IsThen (IsLoaded tells (file_numbers cmp v)) (λ loaded.
    IsThen (IsLawfulTables cmp v loaded) (λ tables answer. answer ≡ Ok (totals_of tables)))
