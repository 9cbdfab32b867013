-- What is given to the commands `compact` and `install`.
use Rattle.std.specs.Prelude.{◌≡◌, ◌&&◌, ◌||◌, ◌==◌, ℕ, Bool, true, false, List, [], map, Option}
use Rattle.std.specs.Prelude.{Some, None, codes}
use Rattle.std.specs.List.{All, slice_split}
use Rattle.std.specs.Str.Parse.{digits_value}
use Rattle.clap.specs.Words.{Row, Text, all_of, first_of, one_of}
use Rattle.texts.specs.Text.{IsNumberText}
use Rattle.compact.specs.snapshots.Snapshots.{Snapshots}
use Rattle.compact.specs.snapshots.Snapshots.TheVariants.{From, Listed}
use Rattle.compact.specs.options.TheConstants.{DEFAULT_BLOCK_SIZE, DEFAULT_FILE_SIZE}
use Rattle.compact.specs.options.TheConstants.{DEFAULT_RESTART_INTERVAL}
use Rattle.compact.specs.declared.settings.Settings.{Settings}
use Rattle.usage.specs.Values.{HasTesting, IsNumberOf, IsNumberOr, is_flagged, is_given}
use Rattle.usage.specs.declared.requests.CompactLine.{CompactLine}
use Rattle.usage.specs.declared.requests.CompactOptions.{CompactOptions}
use Rattle.usage.specs.declared.requests.CompactWork.{CompactWork}
use Rattle.usage.specs.declared.requests.CompactWork.TheVariants.{Installed, Written}
use Rattle.usage.specs.declared.requests.InstallLine.{InstallLine}
use Rattle.usage.specs.declared.requests.Levels.{Levels}
use Rattle.usage.specs.declared.requests.Levels.TheVariants.{One, Whole}
use Rattle.usage.specs.declared.requests.Levels.TheVariants.{All as AllLevels}

-- the rows give this number of `--level`, without `--whole`, or with it and without `--no-verify`;
-- or `--all`, without `--whole`
abbrev pub HasLevels : Levels → List Row → Type 0
HasLevels (One level) rows = IsNumberOf (one_of (codes "level") rows) (Some level)
    × (is_flagged (codes "all") rows ≡ false) × (is_flagged (codes "whole") rows ≡ false)
HasLevels (Whole level) rows = IsNumberOf (one_of (codes "level") rows) (Some level)
    × (is_flagged (codes "all") rows ≡ false) × (is_flagged (codes "whole") rows ≡ true)
    × (is_flagged (codes "no-verify") rows ≡ false)
HasLevels AllLevels rows = IsNumberOf (one_of (codes "level") rows) None
    × (is_flagged (codes "all") rows ≡ true) × (is_flagged (codes "whole") rows ≡ false)

-- the rows give these levels, and none of `--out`, `--part` and `--first-number`; or this level,
-- this number of `--part`, this text of `--out`, this number of `--first-number`, and no `--clean`
abbrev pub HasWork : CompactWork → List Row → Type 0
HasWork (Installed levels) rows = HasLevels levels rows × (first_of (codes "out") rows ≡ None)
    × IsNumberOf (one_of (codes "part") rows) None
    × IsNumberOf (one_of (codes "first-number") rows) None
HasWork (Written level part out first_number) rows = HasLevels (One level) rows
    × IsNumberOf (one_of (codes "part") rows) part
    × (first_of (codes "out") rows ≡ Some out.now)
    × IsNumberOf (one_of (codes "first-number") rows) first_number
    × (is_flagged (codes "clean") rows ≡ false)

-- the rows give this work, these options on the test, and these flags
abbrev pub HasOptions : CompactOptions → List Row → Type 0
HasOptions options rows = HasWork options.work rows × HasTesting options.testing rows
    × (options.is_json ≡ is_flagged (codes "json") rows)
    × (options.cleans ≡ is_flagged (codes "clean") rows)

-- the texts are these numbers in their order
abbrev pub AreNumbers : List Text → List ℕ → Type 0
AreNumbers texts numbers = All IsNumberText texts × (numbers ≡ map (digits_value 10) texts)

-- the text is these numbers, of digits alone, with commas between them
abbrev pub IsNumberList : Text → List ℕ → Type 0
IsNumberList text numbers = AreNumbers (slice_split (λ b. b == 44) text) numbers

-- the numbers of a list's text; none if the option isn't given
abbrev pub IsListOf : Option Text → List ℕ → Type 0
IsListOf None numbers = numbers ≡ []
IsListOf (Some text) numbers = IsNumberList text numbers

-- the rows give a sequence that stays readable with all later ones, by `--snapshot`; or a list of
-- those that do, by `--snapshots`, which is empty if it isn't given
abbrev pub HasSnapshots : Snapshots → List Row → Type 0
HasSnapshots (From first) rows = IsNumberOf (one_of (codes "snapshot") rows) (Some first)
    × (first_of (codes "snapshots") rows ≡ None)
HasSnapshots (Listed sequences) rows = IsNumberOf (one_of (codes "snapshot") rows) None
    × IsListOf (first_of (codes "snapshots") rows) sequences.now

-- the rows give these settings; an option that isn't given has its default
abbrev pub HasSettings : Settings → List Row → Type 0
HasSettings settings rows = IsNumberOr 4 (one_of (codes "workers") rows) settings.workers
    × IsNumberOr 8 (one_of (codes "ranges") rows) settings.ranges
    × IsNumberOr DEFAULT_BLOCK_SIZE (one_of (codes "block-size") rows) settings.options.block_size
    × (settings.options.restart_interval ≡ DEFAULT_RESTART_INTERVAL)
    × IsNumberOr DEFAULT_FILE_SIZE (one_of (codes "file-size") rows) settings.options.file_size
    × HasSnapshots settings.snapshots rows

-- the rows give this text of DIR, these options and these settings
abbrev pub HasCompact : CompactLine → List Row → Type 0
HasCompact line rows = (first_of (codes "DIR") rows ≡ Some line.folder.now)
    × HasOptions line.options rows × HasSettings line.settings rows

-- whether the rows give snapshots
abbrev pub gives_snapshots : List Row → Bool
gives_snapshots rows = is_given (codes "snapshot") rows || is_given (codes "snapshots") rows

-- the rows give this text of DIR, these of OUT in their order, these snapshots, these options on
-- the test, no snapshot if it is skipped, and this flag of `--clean`
abbrev pub HasInstall : InstallLine → List Row → Type 0
HasInstall line rows = (first_of (codes "DIR") rows ≡ Some line.folder.now)
    × (all_of (codes "OUT") rows ≡ Some (map (λ out. out.now) line.outs.items))
    × HasSnapshots line.snapshots rows × HasTesting line.testing rows
    × ((line.testing.is_skipped && gives_snapshots rows) ≡ false)
    × (line.cleans ≡ is_flagged (codes "clean") rows)
