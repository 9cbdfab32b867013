-- Which entries are deletions, and which a newer entry hides.
use Rattle.std.specs.Prelude.{ℕ, nat_lt, nat_le, Bool, true, false, ◌&&◌, List}
use Rattle.std.specs.List.{list_any}
use Rattle.std.specs.Str.{bytes_eq}
use Rattle.reads.specs.kind.Kind.{Kind}
use Rattle.reads.specs.kind.Kind.TheVariants.{Put, Delete}
use Rattle.table.specs.Key.{user_of, sequence_of, kind_of}
use Rattle.block.specs.EncodedEntry.{Entry}

-- whether a type is that of deletions
abbrev pub is_delete : Kind → Bool
is_delete Put = false
is_delete Delete = true

-- whether an entry is a deletion
abbrev pub is_deletion_entry : Entry → Bool
is_deletion_entry e = is_delete (kind_of e.key)

-- whether an entry hides another one: it has the same user key and a greater sequence, which is at
-- most `last`
abbrev pub hides : ℕ → Entry → Entry → Bool
hides last e f = bytes_eq (user_of e.key) (user_of f.key)
    && (nat_lt (sequence_of f.key) (sequence_of e.key) && nat_le (sequence_of e.key) last)

-- whether one of these entries hides an entry
abbrev pub is_hidden_among : ℕ → List Entry → Entry → Bool
is_hidden_among last entries f = list_any (λ e. hides last e f) entries
