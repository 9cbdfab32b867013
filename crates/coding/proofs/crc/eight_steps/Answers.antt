use Rattle.std.proofs.Common.{ap, ◌∙◌, sym, refl}
use Rattle.coding.specs.CrcRegister.{register_after_step, register_after_steps}
use Rattle.coding.proofs.CrcRegisterLemmas.{after_steps-add}
use Rattle.coding.proofs.crc.eight_steps.Goals as goal

pub loop-taken-init : goal.loop-taken-init
unfolding register_after_steps
loop-taken-init c = refl

pub loop-taken-preserved : goal.loop-taken-preserved
unfolding register_after_steps register_after_step
loop-taken-preserved c =
    ap register_after_step c.loop-taken.invariant ∙ sym (after_steps-add c.loop-taken._taken 1 c.args.register)
