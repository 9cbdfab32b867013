use Rattle.std.proofs.Common.{ap, subst, ◌∙◌}
use Rattle.std.specs.Prelude.{IfOk}
use Rattle.std.proofs.lemmas.Result.{IfOk-weaker}
use Rattle.clap.specs.Words.{App, app_of, with_subcommand}
use Rattle.usage.specs.Commands.{IsCommand}
use Rattle.usage.proofs.commands.with_command.Goals as goal

pub returns : goal.returns
returns c app h =
    let known : IsCommand app c.in_ok-made.field-0 = subst (λ r. IfOk r (IsCommand app)) c.in_ok-made.was h in
    IfOk-weaker c.subcommand.result _ _ (λ both adds. adds.shape known.1 ∙ ap (λ (a : App). with_subcommand (app_of c.args.command) a.top) known.0) c.subcommand.ensures
