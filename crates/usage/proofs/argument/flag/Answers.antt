use Rattle.std.proofs.Common.{ap, ◌∙◌, Some}
use Rattle.clap.specs.Words.{Rule, rule_of}
use Rattle.clap.specs.declared.builder.action.ArgAction.TheVariants.{SetTrue}
use Rattle.usage.proofs.CommandLemmas.{is_global}
use Rattle.usage.proofs.argument.flag.Goals as goal

pub returns : goal.returns
returns c = (
  ap rule_of c.help.ensures ∙ ap rule_of c.action.ensures ∙ ap (λ (r : Rule). record r { action = Some SetTrue }) (ap rule_of c.long.ensures ∙ ap (λ (r : Rule). record r { long = Some c.args.id.now }) c.new.ensures.rule),
  ap is_global c.help.ensures ∙ ap is_global c.action.ensures ∙ ap is_global c.long.ensures ∙ c.new.ensures.optional.1,
)
