use Rattle.std.proofs.Common.{List, subst}
use Rattle.std.proofs.lemmas.List.{take_all}
use Rattle.std.specs.Prelude.{map}
use Rattle.usage.specs.Apps.{with_rules}
use Rattle.usage.specs.Commands.{Extends, rule_of_argument}
use Rattle.usage.specs.declared.argument.Argument.{Argument}
use Rattle.usage.proofs.CommandLemmas.{one_more}
use Rattle.usage.proofs.commands.with_arguments.Goals as goal

pub loop-argument-preserved : goal.loop-argument-preserved
loop-argument-preserved c =
    one_more c.args.command c.loop-argument.command c.in_ok-command.command c.args.arguments.now c.loop-argument.argument-index _ c.arg_of.result c.loop-argument-test.true c.loop-argument.invariant c.arg_of.ensures
    c.in_ok-command.ensures

pub returns : goal.returns
returns c =
    subst (λ (all : List Argument). Extends (with_rules (map rule_of_argument all)) c.args.command c.loop-argument.command)
    (take_all c.loop-argument.argument-index c.args.arguments.now c.loop-argument-test.false) c.loop-argument.invariant
