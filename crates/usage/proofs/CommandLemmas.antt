-- Facts on commands as they are put together.
use Rattle.std.proofs.Common.{◌≡◌, ℕ, suc, ◌+◌, ◌<◌, Bool, true, false, List, [], ◌∷◌, ◌++◌, Option, length, map, take, get_or, refl, sym, ap, ap₂, ◌∙◌, arith}
use Rattle.std.specs.Prelude.{◌||◌, IfOk, Result}
use Rattle.std.proofs.Math.Seq.{take-suc}
use Rattle.clap.specs.declared.builder.arg.Arg.{Arg}
use Rattle.clap.specs.declared.builder.command.Command.{Command}
use Rattle.clap.specs.declared.builder.command.Command.TheViews.{out-Command}
use Rattle.clap.specs.Words.{AddsArg, App, Rule, app_of, rule_of, with_rule, with_subcommand}
use Rattle.clap.specs.declared.builder.value_parser.ValueParser.{ValueParser}
use Rattle.std.proofs.lemmas.List.{map_push}
use Rattle.usage.specs.Apps.{with_commands, with_rules}
use Rattle.usage.specs.Commands.{Extends, IsArgument, IsCommand, app_of_description, rule_of_argument}
use Rattle.usage.specs.declared.argument.Argument.{Argument}
use Rattle.usage.specs.declared.descriptions.Description.{Description}

-- a test that fails adds nothing
or_false : (a b : Bool) → b ≡ false → (a || b) ≡ a
or_false true b e = refl
or_false false b e = e

-- a command that is known, changed
pub changed : (old new : Command) (app : App) (change : App → App) → IsCommand app old → Extends change old new → IsCommand (change app) new
changed old new app change is extends = (extends.0 ∙ ap change is.0, extends.1 ∙ is.1)

-- with one rule more
with_rules-push : (app : App) (rules : List Rule) (rule : Rule) → with_rules (rules ++ rule ∷ []) app ≡ with_rule (with_rules rules app) rule
with_rules-push app [] rule = refl
with_rules-push app (first ∷ rules) rule = with_rules-push (with_rule app first) rules rule

-- with one command more
with_commands-push : (app : App) (commands : List App) (command : App) → with_commands (commands ++ command ∷ []) app ≡ with_subcommand (with_commands commands app) command.top
with_commands-push app [] command = refl
with_commands-push app (first ∷ commands) command = with_commands-push (with_subcommand app first.top) commands command

-- what is made of the first elements, and of one more
map-take-more : {X Y : Type 0} (f : X → Y) (xs : List X) (i : ℕ) (d : X) → i < length xs → map f (take (i + 1) xs) ≡ map f (take i xs) ++ f (get_or xs i d) ∷ []
map-take-more f xs i d lt =
    let more : i + 1 ≡ suc i = omega arith in
    ap (λ (k : ℕ). map f (take k xs)) more ∙ ap (map f) (take-suc xs i d lt) ∙ map_push f (take i xs) (get_or xs i d)

-- a command with the first of some arguments
abbrev pub HasFirst : List Argument → ℕ → Command → Command → Type 0
HasFirst arguments i = Extends (with_rules (map rule_of_argument (take i arguments)))

-- and with one more
pub one_more : (first old new : Command) (arguments : List Argument) (i : ℕ) (d : Argument) (a : Arg) → i < length arguments
    → HasFirst arguments i first old → IsArgument (rule_of_argument (get_or arguments i d)) a → AddsArg old a new → HasFirst arguments (i + 1) first new
one_more first old new arguments i d a lt before is adds =
    let rules = map rule_of_argument (take i arguments) in
    let rule = rule_of_argument (get_or arguments i d) in (
      adds.shape is.1 ∙ ap (with_rule (app_of old)) is.0 ∙ ap (λ (app : App). with_rule app rule) before.0
          ∙ sym (with_rules-push (app_of first) rules rule)
          ∙ sym (ap (λ (known : List Rule). with_rules known (app_of first)) (map-take-more rule_of_argument arguments i d lt)),
      adds.globals ∙ or_false (out-Command old).has_globals a.global is.1 ∙ before.1,
    )

-- the program with the first of some commands
abbrev pub with_first : App → List Description → ℕ → App
with_first app told i = with_commands (map app_of_description (take i told)) app

-- and with one more
with_first-more : (app : App) (told : List Description) (i : ℕ) (d : Description) → i < length told
    → with_first app told (i + 1) ≡ with_subcommand (with_first app told i) (app_of_description (get_or told i d)).top
with_first-more app told i d lt =
    ap (λ (known : List App). with_commands known app) (map-take-more app_of_description told i d lt)
    ∙ with_commands-push app (map app_of_description (take i told)) (app_of_description (get_or told i d))

-- the program with one command more
pub command_added : {E : Type 0} (app : App) (told : List Description) (i : ℕ) (d : Description) (old new : Command) (made : Result Command E) → i < length told
    → app_of old ≡ with_first app told i → IfOk made (IsCommand (app_of_description (get_or told i d))) → ((sub : App) → IfOk made (IsCommand sub) → app_of new ≡ with_subcommand (app_of old) sub.top)
    → app_of new ≡ with_first app told (i + 1)
command_added app told i d old new made lt before is adds =
    adds (app_of_description (get_or told i d)) is ∙ ap (λ (a : App). with_subcommand a (app_of_description (get_or told i d)).top) before ∙ sym (with_first-more app told i d lt)

-- whether an argument is one of all subcommands
abbrev pub is_global : Arg → Bool
is_global a = a.global

-- an argument with a parser
pub parsed : (old new : Arg) (rule : Rule) (given : Option ValueParser) → IsArgument rule old → new ≡ record old { value_parser = new.value_parser } → new.value_parser ≡ given
    → IsArgument (record rule { parser = given }) new
parsed old new rule given is others is_given =
    (ap rule_of others ∙ ap₂ (λ p (r : Rule). record r { parser = p }) is_given is.0, ap is_global others ∙ is.1)
