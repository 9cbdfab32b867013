-- The lengths of entries.
use Rattle.std.specs.Prelude.{ℕ, ◌+◌, ◌-◌, nat_eq, List, [], ◌∷◌, length}
use Rattle.std.specs.List.{common_prefix_len}
use Rattle.coding.specs.Varint.{varint}
use Rattle.reads.specs.EncodedEntry.{Entry}

-- the length of an entry in a block, by the lengths of its parts
abbrev pub encoded_entry_size : ℕ → ℕ → ℕ → ℕ
encoded_entry_size shared unshared value = length (varint shared) + length (varint unshared) +
    length (varint value) + unshared + value

-- the length that an entry has in a block if no restart points at it; `before` is the key before it
abbrev pub later_entry_size : List ℕ → Entry → ℕ
later_entry_size before e =
    encoded_entry_size (common_prefix_len nat_eq before e.key)
    (length e.key - common_prefix_len nat_eq before e.key) (length e.value)

-- these lengths of entries, added up; `before` is the key before the first
abbrev pub later_entries_size : List ℕ → List Entry → ℕ
later_entries_size before [] = 0
later_entries_size before (e ∷ es) = later_entry_size before e + later_entries_size e.key es
