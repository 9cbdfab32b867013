-- Numbers of 64 bits that stop at the greatest one.
use Rattle.std.specs.Prelude.{ℕ, ◌-◌, ◌^◌, min}

-- a number, or 2 ^ 64 - 1 if it is more
abbrev pub saturated : ℕ → ℕ
saturated n = min n (2 ^ 64 - 1)
