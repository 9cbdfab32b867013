-- The name of a text of CURRENT that isn't renamed to it yet, as goleveldb writes it.
use Rattle.std.specs.Prelude.{nat_eq, nat_le, nat_lt, ℕ, Bool, ◌&&◌, List, codes, drop, length}
use Rattle.std.specs.List.{list_all, starts_with}

-- whether a byte is a decimal digit
abbrev pub is_digit : ℕ → Bool
is_digit byte = nat_le 48 byte && nat_le byte 57

-- whether bytes are one decimal digit or more
abbrev pub are_digits : List ℕ → Bool
are_digits bytes = nat_lt 0 (length bytes) && list_all is_digit bytes

-- whether a name is `CURRENT.` and digits
abbrev pub is_pending_current : List ℕ → Bool
is_pending_current name =
    starts_with nat_eq name (codes "CURRENT.") && are_digits (drop 8 name)
