-- How commands are put together.
use Rattle.std.specs.Prelude.{◌≡◌, Some, false, map}
use Rattle.clap.specs.Words.{App, Rule, app_of, new_rule, rule_of}
use Rattle.clap.specs.declared.builder.arg.Arg.{Arg}
use Rattle.clap.specs.declared.builder.command.Command.{Command}
use Rattle.clap.specs.declared.builder.command.Command.TheViews.{out-Command}
use Rattle.usage.specs.Apps.{command_app, flag_rule, memory_rule, number_rule, place_rule}
use Rattle.usage.specs.Apps.{places_rule}
use Rattle.usage.specs.Apps.{value_rule, wanted}
use Rattle.usage.specs.declared.argument.Argument.{Argument}
use Rattle.usage.specs.declared.argument.Argument.TheVariants.{Place, FreePlace, FreePlaces}
use Rattle.usage.specs.declared.argument.Argument.TheVariants.{Flag, Places, ShortFlag}
use Rattle.usage.specs.declared.argument.Argument.TheVariants.{Value, WantedValue, Number}
use Rattle.usage.specs.declared.argument.Argument.TheVariants.{WantedNumber, Memory}
use Rattle.usage.specs.declared.descriptions.Description.{Description}

-- the command is this app, and no argument of it is one of all its subcommands
abbrev pub IsCommand : App → Command → Type 0
IsCommand app command = (app_of command ≡ app) × ((out-Command command).has_globals ≡ false)

-- the new command is the old one changed in this way, and no new argument is one of all its
-- subcommands
abbrev pub Extends : (App → App) → Command → Command → Type 0
Extends change old new = (app_of new ≡ change (app_of old))
    × ((out-Command new).has_globals ≡ (out-Command old).has_globals)

-- the argument has this rule, and isn't one of all subcommands
abbrev pub IsArgument : Rule → Arg → Type 0
IsArgument rule arg = (rule_of arg ≡ rule) × (arg.global ≡ false)

-- the rule of an argument
abbrev pub rule_of_argument : Argument → Rule
rule_of_argument (Place id help) = place_rule id.now
rule_of_argument (FreePlace id help) = new_rule id.now
rule_of_argument (FreePlaces id help) = places_rule id.now
rule_of_argument (Places id help) = wanted (places_rule id.now)
rule_of_argument (Flag id help) = flag_rule id.now
rule_of_argument (ShortFlag id letter help) = record (flag_rule id.now) { short = Some letter }
rule_of_argument (Value id name help) = value_rule id.now
rule_of_argument (WantedValue id name help) = wanted (value_rule id.now)
rule_of_argument (Number id name help) = number_rule id.now
rule_of_argument (WantedNumber id name help) = wanted (number_rule id.now)
rule_of_argument (Memory help) = memory_rule

-- the command that is described so
abbrev pub app_of_description : Description → App
app_of_description description =
    command_app description.name.now (map rule_of_argument description.arguments.now)
