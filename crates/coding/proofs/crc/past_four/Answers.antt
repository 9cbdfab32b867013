use Rattle.std.proofs.Common.{ap, ◌∙◌}
use Rattle.coding.specs.CrcRegister.{register_after_steps}
use Rattle.coding.proofs.CrcKernel.{past_four_is}
use Rattle.coding.proofs.crc.past_four.Goals as goal

pub returns : goal.returns
returns c =
    c.past_one-4.ensures
    ∙ ap (register_after_steps 8) (c.past_one-3.ensures ∙ ap (register_after_steps 8) (c.past_one-2.ensures ∙ ap (register_after_steps 8) c.past_one.ensures))
    ∙ past_four_is c.args.register
