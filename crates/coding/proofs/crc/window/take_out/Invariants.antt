use Rattle.std.proofs.Common.{◌≡◌, ℕ, ◌+◌, ◌*◌, length, take}
use Rattle.std.specs.List.{concat}
use Rattle.coding.specs.Crc.{bits_of}
use Rattle.coding.specs.CrcRegister.{register_after_bits}
use Rattle.coding.specs.CrcWindow.{IsRegisterOf}
use Rattle.coding.proofs.crc.window.take_out.Given as goal

abbrev pub invariant-loop-pair : goal.invariant-loop-pair
invariant-loop-pair l = record {
  place : l.place ≡ 266 + 32 * l.pair-index;
  len : length l.taken ≡ 1290;
  stands : (r : ℕ) → IsRegisterOf (take 266 l.fn.taken) r → IsRegisterOf (take l.place l.taken) (register_after_bits r (bits_of (concat (take (2 * l.pair-index) l.chunks))));
}
