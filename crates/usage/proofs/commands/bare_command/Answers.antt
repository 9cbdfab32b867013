use Rattle.std.proofs.Common.{ap, true, ◌∙◌}
use Rattle.std.proofs.lemmas.Result.{IfOk-weaker}
use Rattle.clap.specs.Words.{App}
use Rattle.clap.specs.Simple.{app_of_fields}
use Rattle.usage.specs.Apps.{with_verbosity}
use Rattle.usage.proofs.commands.bare_command.Goals as goal

abbrev with_command_required : App → App
with_command_required app = record app { top = record app.top { subcommand_required = true } }

abbrev with_version : App → App
with_version app = record app { top = record app.top { has_version = true } }

pub returns : goal.returns
returns c =
    let bare =
    ap app_of_fields c.subcommand_required-command.ensures
    ∙ ap with_command_required (ap app_of_fields c.after_help.ensures ∙ ap app_of_fields c.about.ensures ∙ ap app_of_fields c.version.ensures
    ∙ ap with_version c.new.ensures.app) in
    IfOk-weaker c.with_arguments.result _ _ (λ command h. h.0 ∙ ap with_verbosity bare) c.with_arguments.ensures
