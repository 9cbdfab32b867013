use Rattle.std.proofs.Common.{ap, ◌∙◌, Some}
use Rattle.clap.specs.Words.{Rule, rule_of}
use Rattle.usage.proofs.CommandLemmas.{is_global}
use Rattle.usage.proofs.argument.value.Goals as goal

pub returns : goal.returns
returns c = (
  ap rule_of c.help.ensures ∙ ap rule_of c.value_name.ensures
      ∙ ap (λ (r : Rule). record r { value_names = 1 }) (ap rule_of c.long.ensures ∙ ap (λ (r : Rule). record r { long = Some c.args.id.now }) c.new.ensures.rule),
  ap is_global c.help.ensures ∙ ap is_global c.value_name.ensures ∙ ap is_global c.long.ensures ∙ c.new.ensures.optional.1,
)
