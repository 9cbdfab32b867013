-- Bytes that are taken out of a message. They are still to be added to the bytes after them.
use Rattle.std.specs.Prelude.{◌≡◌, ℕ, ◌-◌, ◌*◌, List, [], ◌∷◌, length, take, drop, bit_xor}
use lib.Lanes.{zip2}
use Rattle.coding.specs.Crc.{bits_of}
use Rattle.coding.specs.CrcRegister.{register_after_bits, register_after_steps}

-- how far after a byte the bytes are to which it is added: the divisor has a multiple with the
-- powers 8 * 266 and 8 * (266 - lag)
abbrev pub the_lags : List ℕ
the_lags = 123 ∷ 145 ∷ 178 ∷ 195 ∷ 266 ∷ []

-- the last n of these bytes
abbrev pub last_bytes : ℕ → List ℕ → List ℕ
last_bytes n taken = drop (length taken - n) taken

-- a chunk that follows the bytes taken out, with those added that stand so far before it
abbrev pub chunk_sum : List ℕ → List ℕ → List ℕ → List ℕ
chunk_sum [] taken chunk = chunk
chunk_sum (lag ∷ lags) taken chunk =
    chunk_sum lags taken (zip2 bit_xor chunk (take 16 (last_bytes lag taken)))

-- the register after the 266 next bytes, if these are 0 but for what is added to them
unfoldable pub register_of_taken : List ℕ → List ℕ → ℕ
register_of_taken [] taken = 0
register_of_taken (lag ∷ lags) taken =
    let added = register_after_bits 0 (bits_of (last_bytes lag taken)) in
    bit_xor (register_after_steps (8 * (266 - lag)) added) (register_of_taken lags taken)

-- what is still to be added is worth this register
abbrev pub IsRegisterOf : List ℕ → ℕ → Type 0
IsRegisterOf taken register =
    register_of_taken the_lags taken ≡ register_after_steps 2128 register
