use Rattle.std.proofs.Common.{◌≡◌, ℕ, ◌+◌, ◌*◌, ◌^◌, ◌<◌, ◌++◌, take, replicate}
use Rattle.std.specs.List.{concat}
use Rattle.coding.specs.Crc.{bits_of}
use Rattle.coding.specs.CrcRegister.{register_after_bits, register_of_lanes}
use Rattle.coding.specs.CrcWindow.{IsRegisterOf}
use Rattle.coding.proofs.CrcWindows.{StandWith}
use Rattle.coding.proofs.crc.window.drained.Given as goal

abbrev pub invariant-loop-chunk : goal.invariant-loop-chunk
invariant-loop-chunk l = record {
  place : l.place ≡ 266 + 16 * l.chunk-index;
  fits : register_of_lanes l.lanes < 2 ^ 32;
  stand : (r : ℕ) → IsRegisterOf (take 266 l.fn.taken) r → StandWith (take 266 l.fn.taken ++ replicate (16 * l.chunk-index) 0) (register_of_lanes l.lanes) (register_after_bits r (bits_of (concat (take l.chunk-index l.chunks))));
}
