-- Varints: a number in groups of seven bits, the lowest first. Each byte but the last has its high
-- bit set.
use Rattle.std.specs.Prelude.{◌≡◌, ℕ, zero, suc, ◌+◌, ◌*◌, ◌-◌, ◌/◌, ◌%◌, ◌<◌, ◌≤◌, ◌⊎◌, nat_eq}
use Rattle.std.specs.Prelude.{nat_lt, ◌&&◌, if◌then◌else◌, List, [], ◌∷◌, ◌++◌, length, Option}
use Rattle.std.specs.Prelude.{Some, None}
use Rattle.std.specs.List.{starts_with}

-- the groups of x, at most n + 1 of them
abbrev pub groups : ℕ → ℕ → List ℕ
groups zero x = x ∷ []
groups (suc n) x = if nat_lt x 128 then x ∷ [] else (128 + x % 128) ∷ groups n (x / 128)

-- the one spelling of a number below 2 ^ 70: the shortest list of groups
unfoldable pub varint : ℕ → List ℕ
varint x = groups 9 x

-- the number that the groups at the front of bytes give, up to the first byte without the high bit
abbrev pub front_number : List ℕ → ℕ
front_number [] = 0
front_number (b ∷ bytes) = if nat_lt b 128 then b else (b - 128) + 128 * front_number bytes

-- the bytes are one number's groups: the high bit is set on each but the last
abbrev pub IsGroups : List ℕ → Type 0
IsGroups [] = ⊥
IsGroups (b ∷ bytes) = ((b < 128) × (bytes ≡ [])) ⊎ ((128 ≤ b) × (b < 256) × IsGroups bytes)

-- the number below the limit whose spelling begins the bytes, and the spelling's length; None if
-- there is none
unfoldable pub varint_reading : ℕ → List ℕ → Option (ℕ × ℕ)
varint_reading limit bytes =
    if nat_lt (front_number bytes) limit && starts_with nat_eq bytes (varint (front_number bytes))
    then Some (front_number bytes, length (varint (front_number bytes)))
    else None

-- a slice after its length
abbrev pub length_prefixed : List ℕ → List ℕ
length_prefixed bytes = varint (length bytes) ++ bytes
