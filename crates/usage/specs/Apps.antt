-- The commands of the program and their arguments.
use Rattle.std.specs.Prelude.{List, [], ◌∷◌, Some, codes, true}
use Rattle.clap.specs.Words.{App, Rule, Text, new_app, new_rule, with_rule, with_subcommand}
use Rattle.clap.specs.declared.builder.action.ArgAction.TheVariants.{Append, SetTrue}
use Rattle.clap.specs.declared.builder.value_parser.ValueParser.TheVariants as parser

-- the rule, of an argument that must be given
abbrev pub wanted : Rule → Rule
wanted rule = record rule { required = true }

-- a text that is given by its place, as DIR
abbrev pub place_rule : Text → Rule
place_rule id = wanted (new_rule id)

-- texts that are given by their places, as KEY..
abbrev pub places_rule : Text → Rule
places_rule id = record (new_rule id) { action = Some Append }

-- a flag, as `--all`
abbrev pub flag_rule : Text → Rule
flag_rule id = record (new_rule id) { long = Some id; action = Some SetTrue }

-- an option that takes a value, as `--from KEY`
abbrev pub value_rule : Text → Rule
value_rule id = record (new_rule id) { long = Some id; value_names = 1 }

-- an option that takes a number of 64 bits, as `--at N`
abbrev pub number_rule : Text → Rule
number_rule id = record (value_rule id) { parser = Some (parser.Unsigned 0 18446744073709551615) }

-- `--memory MIB`: 1 to 2^24
abbrev pub memory_rule : Rule
memory_rule = record (value_rule (codes "memory")) { parser = Some (parser.Unsigned 1 16777216) }

-- the app with these arguments too, in their order
abbrev pub with_rules : List Rule → App → App
with_rules [] app = app
with_rules (rule ∷ rules) app = with_rules rules (with_rule app rule)

-- the app with `-v`, or `--verbose`, and with `-q`, or `--quiet`
abbrev pub with_verbosity : App → App
with_verbosity = with_rules (record (flag_rule (codes "verbose")) { short = Some 118 }
    ∷ record (flag_rule (codes "quiet")) { short = Some 113 } ∷ [])

-- a command with these arguments, and with `-v` and `-q`
abbrev pub command_app : Text → List Rule → App
command_app name rules = with_verbosity (with_rules rules (new_app name))

-- the app with these commands too, in their order
abbrev pub with_commands : List App → App → App
with_commands [] app = app
with_commands (command ∷ commands) app = with_commands commands (with_subcommand app command.top)

-- the program without its commands: one must be given, and it tells its version
abbrev pub bare_app : App
bare_app = with_verbosity (let app = new_app (codes "sedvokt") in
    record app { top = record app.top { has_version = true; subcommand_required = true } })

-- the commands, in the order of help
abbrev pub command_apps : List App
command_apps = command_app (codes "stats") (place_rule (codes "DIR") ∷ flag_rule (codes "text")
    ∷ flag_rule (codes "json") ∷ memory_rule ∷ flag_rule (codes "fail-on-logs")
    ∷ flag_rule (codes "no-lock") ∷ [])
    ∷ command_app (codes "verify") (new_rule (codes "DIR") ∷ value_rule (codes "table")
    ∷ flag_rule (codes "json") ∷ flag_rule (codes "all-faults") ∷ memory_rule
    ∷ flag_rule (codes "fail-on-logs") ∷ flag_rule (codes "no-lock") ∷ [])
    ∷ command_app (codes "get") (place_rule (codes "DIR") ∷ places_rule (codes "KEY")
    ∷ flag_rule (codes "stdin") ∷ number_rule (codes "at") ∷ flag_rule (codes "text")
    ∷ flag_rule (codes "utf8") ∷ flag_rule (codes "raw") ∷ flag_rule (codes "json")
    ∷ flag_rule (codes "no-verify") ∷ memory_rule ∷ flag_rule (codes "fail-on-logs")
    ∷ flag_rule (codes "no-lock") ∷ [])
    ∷ command_app (codes "scan") (place_rule (codes "DIR") ∷ value_rule (codes "from")
    ∷ value_rule (codes "to") ∷ value_rule (codes "prefix") ∷ number_rule (codes "at")
    ∷ number_rule (codes "limit") ∷ flag_rule (codes "keys") ∷ flag_rule (codes "count")
    ∷ flag_rule (codes "text") ∷ flag_rule (codes "utf8") ∷ flag_rule (codes "json")
    ∷ flag_rule (codes "no-verify") ∷ memory_rule ∷ flag_rule (codes "fail-on-logs")
    ∷ flag_rule (codes "no-lock") ∷ [])
    ∷ command_app (codes "history") (place_rule (codes "DIR") ∷ place_rule (codes "KEY")
    ∷ flag_rule (codes "text") ∷ flag_rule (codes "utf8") ∷ flag_rule (codes "json")
    ∷ flag_rule (codes "no-verify") ∷ memory_rule ∷ flag_rule (codes "fail-on-logs")
    ∷ flag_rule (codes "no-lock") ∷ [])
    ∷ command_app (codes "manifest") (place_rule (codes "DIR") ∷ flag_rule (codes "text")
    ∷ flag_rule (codes "json") ∷ flag_rule (codes "fail-on-logs") ∷ flag_rule (codes "no-lock")
    ∷ [])
    ∷ command_app (codes "dump") (place_rule (codes "TABLE") ∷ flag_rule (codes "text") ∷ [])
    ∷ command_app (codes "files") (place_rule (codes "DIR") ∷ flag_rule (codes "json")
    ∷ flag_rule (codes "no-lock") ∷ [])
    ∷ command_app (codes "compact") (place_rule (codes "DIR") ∷ number_rule (codes "level")
    ∷ flag_rule (codes "all") ∷ flag_rule (codes "whole") ∷ value_rule (codes "out")
    ∷ number_rule (codes "part") ∷ number_rule (codes "first-number")
    ∷ flag_rule (codes "no-verify") ∷ flag_rule (codes "fail-on-logs") ∷ memory_rule
    ∷ number_rule (codes "workers") ∷ number_rule (codes "ranges") ∷ number_rule (codes "snapshot")
    ∷ value_rule (codes "snapshots") ∷ number_rule (codes "block-size")
    ∷ number_rule (codes "file-size") ∷ flag_rule (codes "clean") ∷ flag_rule (codes "json") ∷ [])
    ∷ command_app (codes "clean") (place_rule (codes "DIR") ∷ flag_rule (codes "dry-run") ∷ [])
    ∷ command_app (codes "job") (place_rule (codes "DIR") ∷ wanted (number_rule (codes "level"))
    ∷ flag_rule (codes "parts") ∷ [])
    ∷ command_app (codes "install") (place_rule (codes "DIR") ∷ wanted (places_rule (codes "OUT"))
    ∷ number_rule (codes "snapshot") ∷ value_rule (codes "snapshots")
    ∷ flag_rule (codes "no-verify") ∷ memory_rule ∷ flag_rule (codes "clean") ∷ [])
    ∷ command_app (codes "blocks") (place_rule (codes "A") ∷ place_rule (codes "B")
    ∷ wanted (value_rule (codes "at")) ∷ place_rule (codes "OUT") ∷ []) ∷ []

-- the program with its commands
abbrev pub program_app : App
program_app = with_commands command_apps bare_app
