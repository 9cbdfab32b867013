-- The register of CRC-32C: a remainder that takes in one bit after the other. The coefficient of
-- power 31 is its lowest bit.
use Rattle.std.specs.Prelude.{ℕ, zero, suc, ◌*◌, ◌/◌, ◌%◌, if◌then◌else◌, Bool, List, [], ◌∷◌}
use Rattle.std.specs.Prelude.{bit_xor}
use Rattle.coding.specs.declared.crc.Lanes.{Lanes}

-- one step: the register times x, less the divisor if that reaches power 32
unfoldable pub register_after_step : ℕ → ℕ
register_after_step c = bit_xor (c / 2) (c % 2 * 0x82f63b78)

-- n steps
unfoldable pub register_after_steps : ℕ → ℕ → ℕ
register_after_steps zero c = c
register_after_steps (suc n) c = register_after_steps n (register_after_step c)

-- the register after these bits: each is added to the lowest bit, and then a step is taken
unfoldable pub register_after_bits : ℕ → List Bool → ℕ
register_after_bits c [] = c
register_after_bits c (b ∷ bits) =
    register_after_bits (register_after_step (bit_xor c (if b then 1 else 0))) bits

-- the register after four words, what it held before them being added to the first
unfoldable pub register_of_lanes : Lanes → ℕ
register_of_lanes l =
    register_after_steps 32
    (bit_xor (register_after_steps 32
    (bit_xor (register_after_steps 32 (bit_xor (register_after_steps 32 l.first) l.second))
    l.third)) l.fourth)
