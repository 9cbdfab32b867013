use Rattle.std.proofs.Common.{ℕ, List, ◌≡◌, ◌<◌, ◌≤◌, length, sym, ap, ◌∙◌, arith}
use Rattle.std.proofs.lemmas.List.{length-map, take_all}
use Rattle.std.specs.Prelude.{map}
use Rattle.clap.specs.Words.{App}
use Rattle.usage.specs.Apps.{bare_app, command_apps, with_commands}
use Rattle.usage.specs.Commands.{app_of_description}
use Rattle.usage.specs.declared.descriptions.Description.{Description}
use Rattle.usage.proofs.CommandLemmas.{command_added}
use Rattle.usage.proofs.commands.program_command.Goals as goal

-- how many descriptions there are
count : (told : List Description) → map app_of_description told ≡ command_apps → length told ≡ 13
count told are = sym (length-map told app_of_description) ∙ ap (λ (apps : List App). length apps) are

pub loop-description-preserved : goal.loop-description-preserved
loop-description-preserved c =
    let told = c.all_descriptions-description-items.result in
    let within : c.loop-description.description-index < length told = omega (arith, count told c.all_descriptions-description-items.ensures, c.loop-description-test.true) in
    command_added bare_app told c.loop-description.description-index _ c.loop-description.command c.in_ok-command-2.command c.described.result within c.loop-description.invariant c.described.ensures c.in_ok-command-2.ensures

pub returns : goal.returns
returns c =
    let told = c.all_descriptions-description-items.result in
    let all : length told ≤ c.loop-description.description-index = omega (arith, count told c.all_descriptions-description-items.ensures, c.loop-description-test.false) in
    c.loop-description.invariant ∙ ap (λ (them : List Description). with_commands (map app_of_description them) bare_app) (take_all c.loop-description.description-index told all)
    ∙ ap (λ (apps : List App). with_commands apps bare_app) c.all_descriptions-description-items.ensures
