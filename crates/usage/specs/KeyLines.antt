-- What is given to the commands that take keys.
use Rattle.std.specs.Prelude.{◌≡◌, ◌&&◌, ◌||◌, Bool, true, false, List, Some, codes}
use Rattle.std.specs.Prelude.{None, map, option_and_then, option_map}
use Rattle.clap.specs.Words.{Row, all_of, first_of, one_of}
use Rattle.texts.specs.Spelling.{bytes_of}
use Rattle.texts.specs.Text.{bytes_of_text}
use Rattle.texts.specs.declared.spelling.Spelling.{Spelling}
use Rattle.usage.specs.Values.{HasTesting, IsNumberOf, is_flagged, is_given, spelling_of}
use Rattle.usage.specs.declared.requests.BlocksLine.{BlocksLine}
use Rattle.usage.specs.declared.requests.GetLine.{GetLine}
use Rattle.usage.specs.declared.requests.HistoryLine.{HistoryLine}
use Rattle.usage.specs.declared.requests.KeySource.{KeySource}
use Rattle.usage.specs.declared.requests.KeySource.TheVariants.{Given, Input}
use Rattle.usage.specs.declared.requests.RowOptions.{RowOptions}
use Rattle.usage.specs.declared.requests.RowOutput.{RowOutput}
use Rattle.usage.specs.declared.requests.RowOutput.TheVariants.{Pairs, Keys, Count}
use Rattle.usage.specs.declared.requests.ScanLine.{ScanLine}

-- the rows give these texts of A, B and OUT, and a text of `--at` for this key
abbrev pub HasBlocks : BlocksLine → List Row → Type 0
HasBlocks line rows = (first_of (codes "A") rows ≡ Some line.a.now)
    × (first_of (codes "B") rows ≡ Some line.b.now)
    × (option_and_then bytes_of_text (first_of (codes "at") rows) ≡ Some line.at.items)
    × (first_of (codes "OUT") rows ≡ Some line.out.now)

-- the rows give texts of KEY for these keys in their order, or `--stdin`, not both
abbrev pub HasKeys : Spelling → KeySource → List Row → Type 0
HasKeys spelling (Given keys) rows = (is_flagged (codes "stdin") rows ≡ false)
    × (option_map (map (bytes_of spelling)) (all_of (codes "KEY") rows)
    ≡ Some (map (λ key. Some key.items) keys.items))
HasKeys spelling Input rows =
    (is_flagged (codes "stdin") rows ≡ true) × (all_of (codes "KEY") rows ≡ None)

-- the rows give this text of DIR, these keys, this number of `--at`, this spelling, these flags of
-- `--raw` and `--json`, not both, and these options on the test
abbrev pub HasGet : GetLine → List Row → Type 0
HasGet line rows = (first_of (codes "DIR") rows ≡ Some line.folder.now)
    × HasKeys line.spelling line.keys rows
    × IsNumberOf (one_of (codes "at") rows) line.at
    × (line.spelling ≡ spelling_of rows)
    × (line.is_raw ≡ is_flagged (codes "raw") rows)
    × (line.is_json ≡ is_flagged (codes "json") rows)
    × ((line.is_raw && line.is_json) ≡ false) × HasTesting line.testing rows

-- the rows give this text of DIR, a text of KEY for this key, this spelling, this flag of `--json`,
-- and these options on the test
abbrev pub HasHistory : HistoryLine → List Row → Type 0
HasHistory line rows = (first_of (codes "DIR") rows ≡ Some line.folder.now)
    × (option_and_then (bytes_of line.spelling) (first_of (codes "KEY") rows) ≡ Some line.key.items)
    × (line.spelling ≡ spelling_of rows) × (line.is_json ≡ is_flagged (codes "json") rows)
    × HasTesting line.testing rows

-- whether the rows give a bound of a scan
abbrev pub gives_bound : List Row → Bool
gives_bound rows = is_given (codes "from") rows || is_given (codes "to") rows

-- the rows give the flag of this output alone, of `--keys` and `--count`
abbrev pub HasRowOutput : RowOutput → List Row → Type 0
HasRowOutput Pairs rows =
    (is_flagged (codes "keys") rows ≡ false) × (is_flagged (codes "count") rows ≡ false)
HasRowOutput Keys rows =
    (is_flagged (codes "keys") rows ≡ true) × (is_flagged (codes "count") rows ≡ false)
HasRowOutput Count rows =
    (is_flagged (codes "keys") rows ≡ false) × (is_flagged (codes "count") rows ≡ true)

-- the rows give texts of `--from`, `--to` and `--prefix` for these keys, or none, no bound beside a
-- prefix, and these numbers of `--at` and `--limit`
abbrev pub HasRowOptions : Spelling → RowOptions → List Row → Type 0
HasRowOptions spelling options rows =
    (option_map (bytes_of spelling) (first_of (codes "from") rows)
    ≡ option_map (λ key. Some key.items) options.from)
    × (option_map (bytes_of spelling) (first_of (codes "to") rows)
    ≡ option_map (λ key. Some key.items) options.to)
    × IsNumberOf (one_of (codes "at") rows) options.at
    × (option_map (bytes_of spelling) (first_of (codes "prefix") rows)
    ≡ option_map (λ key. Some key.items) options.prefix)
    × ((is_given (codes "prefix") rows && gives_bound rows) ≡ false)
    × IsNumberOf (one_of (codes "limit") rows) options.limit

-- the rows give this text of DIR, these options on rows, this output, this spelling, this flag of
-- `--json`, and these options on the test
abbrev pub HasScan : ScanLine → List Row → Type 0
HasScan line rows = (first_of (codes "DIR") rows ≡ Some line.folder.now)
    × HasRowOptions line.spelling line.rows rows × HasRowOutput line.output rows
    × (line.spelling ≡ spelling_of rows) × (line.is_json ≡ is_flagged (codes "json") rows)
    × HasTesting line.testing rows
