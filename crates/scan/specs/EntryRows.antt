-- The rows of sorted entries, as a walk finds them.
use Rattle.std.specs.Prelude.{ℕ, zero, suc, nat_le, Bool, false, not, ◌||◌, if◌then◌else◌}
use Rattle.std.specs.Prelude.{List, [], ◌∷◌, ◌++◌, Option, Some, None}
use Rattle.std.specs.Str.{bytes_eq}
use Rattle.reads.specs.kind.Kind.{Kind}
use Rattle.reads.specs.kind.Kind.TheVariants.{Put, Delete}
use Rattle.table.specs.Comparator.{KeyOrder}
use Rattle.table.specs.Key.{user_of, sequence_of, kind_of}
use Rattle.block.specs.EncodedEntry.{Entry}
use Rattle.folder.specs.meta.FileMeta.{FileMeta}
use Rattle.merge.specs.MergedLists.{entries_of_lists, sorted_entries}
use Rattle.reads.specs.Ranges.{KeyRange, range_at}
use Rattle.merge.specs.InRange.{entries_in}
use Rattle.reads.specs.TableOrder.{lists_of_files}
use Rattle.reads.specs.Tables.{NumberedContents}
use Rattle.checks.specs.RangeOrder.{common_of}
use Rattle.scan.specs.Row.{Row}

-- whether a user key is the one that an entry decided last
abbrev pub is_decided : Option (List ℕ) → List ℕ → Bool
is_decided None user = false
is_decided (Some decided) user = bytes_eq decided user

-- the user key that was decided last, if one was
abbrev pub decided_by : Bool → List ℕ → Option (List ℕ)
decided_by is_some user = if is_some then Some user else None

-- whether a walk passes over an entry: the sequence doesn't see it, or a newer one of its user key
-- decided
abbrev pub is_passed_over : ℕ → Option (List ℕ) → Entry → Bool
is_passed_over at decided e = not (nat_le (sequence_of e.key) at)
    || is_decided decided (user_of e.key)

-- the row of an entry of this kind; none of a deletion
abbrev pub rows_by : Kind → List ℕ → List ℕ → List Row
rows_by Put key value = record { key = key; value = value } ∷ []
rows_by Delete key value = []

-- the rows that an entry adds
abbrev pub entry_rows : ℕ → Option (List ℕ) → Entry → List Row
entry_rows at decided e = if is_passed_over at decided e then [] else rows_by (kind_of e.key)
    (user_of e.key) e.value

-- the user key that is decided after an entry
abbrev pub decided_after : ℕ → Option (List ℕ) → Entry → Option (List ℕ)
decided_after at decided e = if is_passed_over at decided e then decided else Some (user_of e.key)

-- the rows of entries, if this user key was decided before them
abbrev pub rows_after : ℕ → Option (List ℕ) → List Entry → List Row
rows_after at decided [] = []
rows_after at decided (e ∷ es) =
    entry_rows at decided e ++ rows_after at (decided_after at decided e) es

-- the rows of the entries that lists have in a range
abbrev pub sorted_rows : KeyOrder → KeyRange → ℕ → List (List Entry) → List Row
sorted_rows cmp range at lists =
    rows_after at None (sorted_entries cmp (entries_in cmp range (entries_of_lists lists)))

-- the rows of the tables of files, in a range
abbrev pub file_rows : KeyOrder → List NumberedContents → List FileMeta → ℕ → KeyRange → List Row
file_rows cmp tables files at range = sorted_rows cmp range at (lists_of_files tables files)

-- the rows in what a range has of each of n ranges, from the i-th of a split on
abbrev pub rows_from : (KeyRange → List Row) → KeyOrder → KeyRange → List (List ℕ) → ℕ → ℕ →
    List Row
rows_from rows_in cmp range boundaries i zero = []
rows_from rows_in cmp range boundaries i (suc n) =
    rows_in (common_of cmp range (range_at boundaries i))
    ++ rows_from rows_in cmp range boundaries (suc i) n
