use Rattle.pick.proofs.LevelInputs.{both_pushed}
use Rattle.pick.proofs.input_choice.files_of.Goals as goal

pub returns : goal.returns
returns c =
    both_pushed c.args.level c.args.upper.now c.args.lower.now c.in_ok-files.files.items c.push_inputs.new.inputs.items c.push_inputs-2.new.inputs.items c.in_ok-files.ensures.items c.in_ok-push_inputs.ensures.ok c.in_ok-push_inputs-2.ensures.ok
