use Rattle.std.proofs.Common.{map, ap, ◌∙◌, rules}
use Rattle.std.proofs.lemmas.Fn.{filter_same}
use Rattle.pick.specs.PickedInputs.{picked_in}
use Rattle.pick.specs.declared.picked_inputs.Inputs.{Inputs}
use Rattle.levels.specs.WholeAnswer.{fits}
use Rattle.levels.proofs.SelectedParts.{kept_in}
use Rattle.levels.proofs.level_parts.keep_fitting.Goals as goal

pub returns : goal.returns
returns c =
    ap (map picked_in) (filter_same _ (λ (part : Inputs). fits c.args.memory (picked_in part)) _ (λ x b f' k. search rules) _ _ c.retain.ensures.filtered)
    ∙ kept_in (fits c.args.memory) c.args.parts.now.items
