-- What a version answers of a user key.
use Rattle.std.specs.Prelude.{ℕ, nat_lt, nat_le, Bool, ◌&&◌, if◌then◌else◌, List, [], ◌∷◌, filter}
use Rattle.std.specs.Prelude.{Option, Some, None}
use Rattle.std.specs.Option.{option_and_then}
use Rattle.std.specs.Str.{bytes_eq}
use Rattle.ikey.specs.declared.kind.Kind.{Kind}
use Rattle.ikey.specs.declared.kind.Kind.TheVariants.{Put, Delete}
use Rattle.ikey.specs.Key.{user_of, sequence_of, kind_of}
use Rattle.table.specs.EncodedEntry.{Entry}
use Rattle.edit.specs.Version.{State}
use Rattle.reads.specs.Tables.{NumberedContents, all_entries}

-- whether an entry has this user key, and a sequence of at most `at`
abbrev pub is_visible : List ℕ → ℕ → Entry → Bool
is_visible user at e = bytes_eq (user_of e.key) user && nat_le (sequence_of e.key) at

-- of two entries the one of the greater sequence; the first if they are equal
abbrev pub newer_entry : Entry → Option Entry → Entry
newer_entry e None = e
newer_entry e (Some other) = if nat_lt (sequence_of e.key) (sequence_of other.key) then other else e

-- the entry of the greatest sequence
abbrev pub newest_entry : List Entry → Option Entry
newest_entry [] = None
newest_entry (e ∷ es) = Some (newer_entry e (newest_entry es))

-- the value of an entry of this kind; None for a deletion
abbrev pub value_by : Kind → List ℕ → Option (List ℕ)
value_by Put value = Some value
value_by Delete value = None

-- the value of an entry; None if it is a deletion
abbrev pub value_in : Entry → Option (List ℕ)
value_in e = value_by (kind_of e.key) e.value

-- What a version answers of a user key at a sequence. Of all its entries in all tables of the
-- version with a sequence of at most that, it is the value of the one of the greatest sequence.
-- None if that is a deletion, or if there is no such entry.
abbrev pub get_of : State → List NumberedContents → List ℕ → ℕ → Option (List ℕ)
get_of v tables user at = option_and_then value_in
    (newest_entry (filter (is_visible user at) (all_entries tables v.files)))
