use Rattle.std.proofs.Common.{◌≤◌, length}
use Rattle.std.specs.List.{concat}
use Rattle.coding.specs.Crc.{bits_of}
use Rattle.coding.specs.CrcRegister.{register_after_bits}
use Rattle.coding.proofs.CrcWindows.{GoesOn}
use Rattle.coding.proofs.crc.window.advanced_by_window.Given as goal

abbrev pub invariant-loop-rest : goal.invariant-loop-rest
invariant-loop-rest l = record {
  goes_on : GoesOn l.taken l.rest (register_after_bits l.fn.register (bits_of (concat l.chunks)));
  long : 17 ≤ length l.rest;
}

abbrev pub decreases-loop-rest : goal.decreases-loop-rest
decreases-loop-rest l = length l.rest
