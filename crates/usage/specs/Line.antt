-- What a command line asks for.
use Rattle.std.specs.Prelude.{◌≡◌, List, [], Option, Some, None, codes}
use Rattle.clap.specs.Words.{Row, Text, fault_of, matches_of, subcommand_of}
use Rattle.usage.specs.Apps.{program_app}
use Rattle.usage.specs.CompactLine.{HasCompact, HasInstall}
use Rattle.usage.specs.KeyLines.{HasBlocks, HasGet, HasHistory, HasScan}
use Rattle.usage.specs.Lines.{HasClean, HasDump, HasFiles, HasJob, HasManifest, HasStats}
use Rattle.usage.specs.Lines.{HasTable, HasVerify}
use Rattle.usage.specs.Verbosity.{IsVerbosity, is_flagged_below}
use Rattle.usage.specs.declared.requests.CommandLine.{CommandLine}
use Rattle.usage.specs.declared.requests.Line.{Line}
use Rattle.usage.specs.declared.requests.Line.TheVariants as line

-- the command of this name is asked for this by its rows
abbrev pub LineGives : Text → List Row → Line → Type 0
LineGives name rows (line.Blocks blocks) = (name ≡ codes "blocks") × HasBlocks blocks rows
LineGives name rows (line.Dump dump) = (name ≡ codes "dump") × HasDump dump rows
LineGives name rows (line.Manifest manifest) =
    (name ≡ codes "manifest") × HasManifest manifest rows
LineGives name rows (line.Stats stats) = (name ≡ codes "stats") × HasStats stats rows
LineGives name rows (line.Verify verify) = (name ≡ codes "verify") × HasVerify verify rows
LineGives name rows (line.Table table) = (name ≡ codes "verify") × HasTable table rows
LineGives name rows (line.Get get) = (name ≡ codes "get") × HasGet get rows
LineGives name rows (line.History history) = (name ≡ codes "history") × HasHistory history rows
LineGives name rows (line.Scan scan) = (name ≡ codes "scan") × HasScan scan rows
LineGives name rows (line.Files files) = (name ≡ codes "files") × HasFiles files rows
LineGives name rows (line.Job job) = (name ≡ codes "job") × HasJob job rows
LineGives name rows (line.Compact compact) = (name ≡ codes "compact") × HasCompact compact rows
LineGives name rows (line.Install install) = (name ≡ codes "install") × HasInstall install rows
LineGives name rows (line.Clean clean) = (name ≡ codes "clean") × HasClean clean rows

-- what the command of a parse is asked for
abbrev pub LineOf : Option (Text × List Row) → Line → Type 0
LineOf None asked = ⊥
LineOf (Some p) asked = LineGives p.0 p.1 asked

-- what a parse asks for: how much is told, whether the lock is ignored and logs are refused, and
-- what its command is asked for
abbrev pub IsRead : List Row → Option (Text × List Row) → CommandLine → Type 0
IsRead above parsed asked = IsVerbosity above parsed asked.verbosity
    × (asked.ignores_lock ≡ is_flagged_below (codes "no-lock") parsed)
    × (asked.refuses_logs ≡ is_flagged_below (codes "fail-on-logs") parsed)
    × LineOf parsed asked.line

-- What a command line asks for: `clap` finds no fault in the words, and their parse asks for this.
abbrev pub CommandLineGives : List Text → CommandLine → Type 0
CommandLineGives words asked = (fault_of program_app words ≡ [])
    × IsRead (matches_of program_app words) (subcommand_of program_app words) asked
