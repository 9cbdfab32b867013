use Rattle.std.proofs.Common.{◌≡◌, take}
use Rattle.coding.specs.Crc.{bits_of}
use Rattle.coding.specs.CrcRegister.{register_after_bits}
use Rattle.coding.proofs.crc.crc32c_plain.Given as goal

abbrev pub invariant-loop-byte : goal.invariant-loop-byte
invariant-loop-byte l = l.register ≡ register_after_bits 0xffffffff (bits_of (take l.byte-index l.bytes))
