-- The order of user keys by length first, its separator and its successor.
use Rattle.std.specs.Prelude.{codes, ℕ, ◌+◌, ◌*◌, ◌/◌, ◌^◌, List, length}
use Rattle.std.specs.Ordering.{nat_cmp, ordering_then}
use Rattle.std.specs.Cmp.Lexicographic.{slice_cmp}
use Rattle.std.specs.declared.cmp.Ordering.{Ordering}
use Rattle.ikey.specs.Comparator.{ShortKeys}
use Rattle.ikey.specs.Bytewise.{bytewise_head}

-- the comparator's name
abbrev pub shortlex_name : List ℕ
shortlex_name = codes "subcompaction.ShortlexComparator"

-- shorter user keys first, equally long ones as unsigned bytes
abbrev pub shortlex_cmp : List ℕ → List ℕ → Ordering
shortlex_cmp a b = ordering_then (nat_cmp (length a) (length b)) (slice_cmp nat_cmp a b)

-- every separator is its first key
abbrev pub shortlex_separator : List ℕ → List ℕ → List ℕ
shortlex_separator start limit = start

-- every successor is the key
abbrev pub shortlex_successor : List ℕ → List ℕ
shortlex_successor key = key

-- the short keys of the order by length first
abbrev pub shortlex_short_keys : ShortKeys
shortlex_short_keys = record { separator = shortlex_separator; successor = shortlex_successor }

-- the head of a key: its length, and then its first eight bytes
unfoldable pub shortlex_head : List ℕ → ℕ
shortlex_head key = length key * 2 ^ 64 + bytewise_head key / 2 ^ 64
