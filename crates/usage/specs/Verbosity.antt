-- How much a command line asks to be told.
use Rattle.std.specs.Prelude.{◌≡◌, ◌||◌, Bool, true, false, List, Option, codes}
use Rattle.std.specs.Option.{option_map_or}
use Rattle.clap.specs.Words.{Row, Text}
use Rattle.usage.specs.Values.{is_flagged}
use Rattle.usage.specs.declared.requests.Verbosity.{Verbosity}
use Rattle.usage.specs.declared.requests.Verbosity.TheVariants.{Quiet, Normal, Verbose}

-- whether a flag is given after the command
abbrev pub is_flagged_below : Text → Option (Text × List Row) → Bool
is_flagged_below id parsed = option_map_or (λ p. is_flagged id p.1) parsed false

-- whether a flag is given before the command, or after it
abbrev pub is_flagged_anywhere : Text → List Row → Option (Text × List Row) → Bool
is_flagged_anywhere id above parsed = is_flagged id above || is_flagged_below id parsed

-- how much is told by `--verbose` and `--quiet`, of which at most one is given
abbrev pub IsVerbosity : List Row → Option (Text × List Row) → Verbosity → Type 0
IsVerbosity above parsed Normal = (is_flagged_anywhere (codes "verbose") above parsed ≡ false)
    × (is_flagged_anywhere (codes "quiet") above parsed ≡ false)
IsVerbosity above parsed Verbose = (is_flagged_anywhere (codes "verbose") above parsed ≡ true)
    × (is_flagged_anywhere (codes "quiet") above parsed ≡ false)
IsVerbosity above parsed Quiet = (is_flagged_anywhere (codes "verbose") above parsed ≡ false)
    × (is_flagged_anywhere (codes "quiet") above parsed ≡ true)
