-- The order of user keys as unsigned bytes, its separator and its successor.
use Rattle.std.specs.Prelude.{codes, ℕ, zero, suc, ◌+◌, ◌-◌, ◌*◌, ◌^◌, min, nat_eq, nat_lt, ◌&&◌}
use Rattle.std.specs.Prelude.{if◌then◌else◌, List, [], ◌∷◌, ◌++◌, length, take, slice_index}
use Rattle.std.specs.List.{common_prefix_len, prefix_len}
use Rattle.std.specs.Ordering.{nat_cmp}
use Rattle.std.specs.Cmp.Lexicographic.{slice_cmp}
use Rattle.std.specs.declared.cmp.Ordering.{Ordering}
use Rattle.ikey.specs.Comparator.{ShortKeys}

-- the comparator's name
abbrev pub bytewise_name : List ℕ
bytewise_name = codes "leveldb.BytewiseComparator"

-- user keys as unsigned bytes, a proper prefix first
abbrev pub bytewise_cmp : List ℕ → List ℕ → Ordering
bytewise_cmp a b = slice_cmp nat_cmp a b

-- the key up to place d, with the byte there raised by one
abbrev pub raised_at : ℕ → List ℕ → List ℕ
raised_at d key = take d key ++ (slice_index key d + 1) ∷ []

-- At the first place where they differ, if start's byte is below 0xff and one more is below limit's
-- byte: start raised there. Else start.
unfoldable pub bytewise_separator : List ℕ → List ℕ → List ℕ
bytewise_separator start limit =
    let d = common_prefix_len nat_eq start limit in
    if nat_lt d (length start) && nat_lt (slice_index start d) 255
    && nat_lt (slice_index start d + 1) (slice_index limit d)
    then raised_at d start else start

-- the place of the first byte that isn't 0xff, or the length
abbrev pub first_raisable : List ℕ → ℕ
first_raisable key = prefix_len (λ b. nat_eq b 255) key

-- the key raised at its first byte that isn't 0xff; the key if there is no such byte
unfoldable pub bytewise_successor : List ℕ → List ℕ
bytewise_successor key =
    if nat_lt (first_raisable key) (length key) then raised_at (first_raisable key) key else key

-- the short keys of unsigned bytes
abbrev pub bytewise_short_keys : ShortKeys
bytewise_short_keys = record { separator = bytewise_separator; successor = bytewise_successor }

-- The number in the first n bytes, the most significant first, with zeros after a shorter list. Of
-- a list that isn't of bytes it is the greatest number of n bytes from the first such element on.
abbrev pub leading_number : ℕ → List ℕ → ℕ
leading_number zero key = 0
leading_number (suc n) [] = 0
leading_number (suc n) (b ∷ bs) = min (b * 256 ^ n + leading_number n bs) (256 ^ suc n - 1)

-- the head of a key: its first sixteen bytes
unfoldable pub bytewise_head : List ℕ → ℕ
bytewise_head key = leading_number 16 key
