use Rattle.std.proofs.Common.{◌≡◌, take}
use Rattle.std.specs.List.{concat}
use Rattle.coding.specs.Crc.{bits_of}
use Rattle.coding.specs.CrcRegister.{register_after_bits, register_of_lanes}
use Rattle.coding.proofs.crc.Lanes.over.Given as goal

abbrev pub invariant-loop-chunk : goal.invariant-loop-chunk
invariant-loop-chunk l = register_of_lanes l.self ≡ register_after_bits (register_of_lanes l.fn.self) (bits_of (concat (take l.chunk-index l.chunks)))
