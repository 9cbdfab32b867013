-- What is given to the commands that take neither keys nor a list of numbers.
use Rattle.std.specs.Prelude.{◌≡◌, ◌||◌, Bool, true, false, List, Some, codes}
use Rattle.clap.specs.Words.{Row, first_of, one_of}
use Rattle.usage.specs.Values.{IsNumberOf, IsNumberOr, is_flagged, is_given, spelling_of}
use Rattle.usage.specs.declared.requests.CleanLine.{CleanLine}
use Rattle.usage.specs.declared.requests.DumpLine.{DumpLine}
use Rattle.usage.specs.declared.requests.FilesLine.{FilesLine}
use Rattle.usage.specs.declared.requests.JobLine.{JobLine}
use Rattle.usage.specs.declared.requests.ManifestLine.{ManifestLine}
use Rattle.usage.specs.declared.requests.StatsLine.{StatsLine}
use Rattle.usage.specs.declared.requests.TableLine.{TableLine}
use Rattle.usage.specs.declared.requests.VerdictForm.{VerdictForm}
use Rattle.usage.specs.declared.requests.VerdictForm.TheVariants.{Line, Json, AllFaults}
use Rattle.usage.specs.declared.requests.VerifyLine.{VerifyLine}

-- the rows give this text of TABLE, and this spelling
abbrev pub HasDump : DumpLine → List Row → Type 0
HasDump line rows = (first_of (codes "TABLE") rows ≡ Some line.table.now)
    × (line.spelling ≡ spelling_of rows)

-- the rows give this text of DIR, this spelling, and this flag of `--json`
abbrev pub HasManifest : ManifestLine → List Row → Type 0
HasManifest line rows = (first_of (codes "DIR") rows ≡ Some line.folder.now)
    × (line.spelling ≡ spelling_of rows) × (line.is_json ≡ is_flagged (codes "json") rows)

-- the same, and this number of `--memory`
abbrev pub HasStats : StatsLine → List Row → Type 0
HasStats line rows = (first_of (codes "DIR") rows ≡ Some line.folder.now)
    × (line.spelling ≡ spelling_of rows) × (line.is_json ≡ is_flagged (codes "json") rows)
    × IsNumberOr 128 (one_of (codes "memory") rows) line.memory

-- the rows give the flag of this form alone, of `--json` and `--all-faults`
abbrev pub HasForm : VerdictForm → List Row → Type 0
HasForm Line rows =
    (is_flagged (codes "json") rows ≡ false) × (is_flagged (codes "all-faults") rows ≡ false)
HasForm Json rows =
    (is_flagged (codes "json") rows ≡ true) × (is_flagged (codes "all-faults") rows ≡ false)
HasForm AllFaults rows =
    (is_flagged (codes "json") rows ≡ false) × (is_flagged (codes "all-faults") rows ≡ true)

-- the rows give this text of DIR and none of `--table`, the flag of this form, and this number of
-- `--memory`
abbrev pub HasVerify : VerifyLine → List Row → Type 0
HasVerify line rows = (first_of (codes "DIR") rows ≡ Some line.folder.now)
    × (is_given (codes "table") rows ≡ false) × HasForm line.form rows
    × IsNumberOr 128 (one_of (codes "memory") rows) line.memory

-- whether the rows give something of a folder, its test or its lock
abbrev pub gives_folder : List Row → Bool
gives_folder rows = is_given (codes "DIR") rows || is_flagged (codes "all-faults") rows
    || is_given (codes "memory") rows || is_flagged (codes "fail-on-logs") rows
    || is_flagged (codes "no-lock") rows

-- the rows give this text of `--table`, this flag of `--json`, and nothing of a folder
abbrev pub HasTable : TableLine → List Row → Type 0
HasTable line rows = (first_of (codes "table") rows ≡ Some line.table.now)
    × (line.is_json ≡ is_flagged (codes "json") rows) × (gives_folder rows ≡ false)

-- the rows give this text of DIR, and this flag of `--json`
abbrev pub HasFiles : FilesLine → List Row → Type 0
HasFiles line rows = (first_of (codes "DIR") rows ≡ Some line.folder.now)
    × (line.is_json ≡ is_flagged (codes "json") rows)

-- the rows give this text of DIR, this number of `--level`, and this flag of `--parts`
abbrev pub HasJob : JobLine → List Row → Type 0
HasJob line rows = (first_of (codes "DIR") rows ≡ Some line.folder.now)
    × IsNumberOf (one_of (codes "level") rows) (Some line.level)
    × (line.by_parts ≡ is_flagged (codes "parts") rows)

-- the rows give this text of DIR, and this flag of `--dry-run`
abbrev pub HasClean : CleanLine → List Row → Type 0
HasClean line rows = (first_of (codes "DIR") rows ≡ Some line.folder.now)
    × (line.is_dry_run ≡ is_flagged (codes "dry-run") rows)
