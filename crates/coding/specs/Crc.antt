-- CRC-32C as a remainder of polynomials over the field of two elements, and its mask.
--
-- A coefficient is a Bool, true for 1. A polynomial is the list of its coefficients, that of the
-- highest power first. So n coefficients are a polynomial of a degree below n.
use Rattle.std.specs.Prelude.{◌≡◌, ℕ, zero, suc, ◌+◌, ◌-◌, ◌*◌, ◌/◌, ◌%◌, ◌^◌, ◌≤◌, ◌↔◌, Bool, true}
use Rattle.std.specs.Prelude.{false, not, nat_eq, if◌then◌else◌, List, [], ◌∷◌, ◌++◌, length, map}
use Rattle.std.specs.Prelude.{take, drop, replicate, reverse}

-- the n lowest bits of a number, the lowest first
abbrev pub low_bits : ℕ → ℕ → List Bool
low_bits zero x = []
low_bits (suc n) x = nat_eq (x % 2) 1 ∷ low_bits n (x / 2)

-- the number of which these are the bits, the lowest first
abbrev pub number_of : List Bool → ℕ
number_of [] = 0
number_of (b ∷ bits) = (if b then 1 else 0) + 2 * number_of bits

-- the bits of bytes in order, the lowest bit of each byte first
abbrev pub bits_of : List ℕ → List Bool
bits_of [] = []
bits_of (b ∷ bytes) = low_bits 8 b ++ bits_of bytes

-- the sum of two coefficients
abbrev pub coefficient_sum : Bool → Bool → Bool
coefficient_sum false b = b
coefficient_sum true b = not b

-- p + q * x ^ (length p - length q): the first coefficient of q is added to the first of p, and so
-- on
abbrev pub leading_sum : List Bool → List Bool → List Bool
leading_sum [] q = []
leading_sum (a ∷ p) [] = a ∷ p
leading_sum (a ∷ p) (b ∷ q) = coefficient_sum a b ∷ leading_sum p q

-- a coefficient times a polynomial
abbrev pub scaled_polynomial : Bool → List Bool → List Bool
scaled_polynomial c p = if c then p else replicate (length p) false

-- the divisor, of degree 32
abbrev pub castagnoli : List Bool
castagnoli = reverse (low_bits 33 0x11edc6f41)

-- a step of long division: if the leading coefficient is 1, the divisor is subtracted; the leading
-- 0 is dropped
abbrev pub division_step : List Bool → List Bool
division_step [] = []
division_step (c ∷ p) = drop 1 (leading_sum (c ∷ p) (scaled_polynomial c castagnoli))

-- n steps of long division
abbrev pub division_steps : ℕ → List Bool → List Bool
division_steps zero p = p
division_steps (suc n) p = division_steps n (division_step p)

-- the remainder of p by the divisor, p having at least 32 coefficients
unfoldable pub remainder : List Bool → List Bool
remainder p = division_steps (length p - 32) p

-- q times the divisor: 32 coefficients more than q has
abbrev pub multiple : List Bool → List Bool
multiple [] = replicate 32 false
multiple (c ∷ q) = leading_sum (false ∷ multiple q) (scaled_polynomial c castagnoli)

-- p is a multiple of the divisor plus r, and the degree of r is below 32
pub record IsRemainder (p r : List Bool) : Type 0 where
  pub quotient : List Bool
  pub low_degree : length r ≡ 32
  pub sum : p ≡ leading_sum (multiple quotient) (replicate (length quotient) false ++ r)

-- the polynomial of bytes: their bits and then 32 zeros, the first 32 coefficients inverted
abbrev pub message : List ℕ → List Bool
message bytes =
    let bits = bits_of bytes ++ replicate 32 false in
    map not (take 32 bits) ++ drop 32 bits

-- CRC-32C of bytes: the remainder's coefficients inverted, that of power 31 as the lowest bit
unfoldable pub crc32c : List ℕ → ℕ
crc32c bytes = number_of (map not (remainder (message bytes)))

-- a CRC as it is stored: rotated right by 15 bits, plus 0xa282ead8 modulo 2 ^ 32
abbrev pub masked : ℕ → ℕ
masked c = (c / 2 ^ 15 + c % 2 ^ 15 * 2 ^ 17 + 0xa282ead8) % 2 ^ 32

-- the law that long division gives the one remainder
abbrev pub RemainderLaw : Type 0
RemainderLaw = (p r : List Bool) → 32 ≤ length p → (IsRemainder p r ↔ (remainder p ≡ r))
