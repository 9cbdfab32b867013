use Rattle.std.proofs.lemmas.Result.{IfOk-weaker}
use Rattle.usage.specs.Apps.{with_rules, with_verbosity}
use Rattle.std.specs.Prelude.{map}
use Rattle.usage.specs.Commands.{rule_of_argument}
use Rattle.usage.proofs.CommandLemmas.{changed}
use Rattle.usage.proofs.commands.described.Goals as goal

pub returns : goal.returns
returns c =
    let known = changed c.named.result c.in_ok-command.command _ (with_rules (map rule_of_argument c.args.description.arguments.now)) c.named.ensures c.in_ok-command.ensures in
    IfOk-weaker c.with_arguments-2.result _ _ (λ made h. changed c.in_ok-command.command made _ with_verbosity known h) c.with_arguments-2.ensures
