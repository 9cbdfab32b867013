use Rattle.std.proofs.Common.{◌≡◌}
use Rattle.coding.specs.CrcRegister.{register_after_steps}
use Rattle.coding.proofs.crc.eight_steps.Given as goal

abbrev pub invariant-loop-taken : goal.invariant-loop-taken
invariant-loop-taken l = l.register ≡ register_after_steps l._taken l.fn.register
