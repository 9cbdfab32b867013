-- Runs that a host hands back, each in its places of three arrays.
use Rattle.std.specs.Prelude.{ℕ, nat_le, Bool, true, ◌&&◌, List, [], ◌∷◌, length, map, take, drop}
use Rattle.std.specs.Result.{is_ok}
use Rattle.ikey.specs.Key.{internal_key_reading}
use Rattle.reads.specs.EncodedEntry.{Entry}
use Rattle.keep.specs.Runs.{Run}
use Rattle.keep.specs.declared.mark.Mark.{Mark}
use Rattle.c_api.specs.Places.{is_within, part_at}
use Rattle.c_api.specs.Runs.{Arrays, rooms}
use Rattle.c_api.specs.declared.place.Place.{Place}
use Rattle.c_api.specs.declared.run_arrays.EntryLengths.{EntryLengths}
use Rattle.c_api.specs.declared.run_arrays.RunMark.{RunMark}
use Rattle.c_api.specs.declared.run_places.LentArrays.{LentArrays}
use Rattle.c_api.specs.declared.run_places.RunPlaces.{RunPlaces}

-- where the value lies, if bytes begin with an entry of these lengths
abbrev pub value_place : EntryLengths → Place
value_place l = record { from = l.key; len = l.value }

-- the entry of these lengths with which bytes begin: its key, and its value after it
abbrev pub first_entry : List ℕ → EntryLengths → Entry
first_entry bytes l =
    record { key = take l.key bytes; value = part_at bytes (value_place l) }

-- the bytes after it
abbrev pub after_entry : List ℕ → EntryLengths → List ℕ
after_entry bytes l = drop l.value (drop l.key bytes)

-- whether bytes begin with an entry of these lengths, and its key is an internal key
abbrev pub begins_entry : List ℕ → EntryLengths → Bool
begins_entry bytes l =
    is_within bytes (value_place l) && is_ok (internal_key_reading (take l.key bytes))

-- whether entries of these lengths lie in bytes, one after the other
abbrev pub are_entries : List ℕ → List EntryLengths → Bool
are_entries bytes [] = true
are_entries bytes (l ∷ ls) = begins_entry bytes l && are_entries (after_entry bytes l) ls

-- these entries
abbrev pub entries_told : List ℕ → List EntryLengths → List Entry
entries_told bytes [] = []
entries_told bytes (l ∷ ls) = first_entry bytes l ∷ entries_told (after_entry bytes l) ls

-- whether marks lie between entries in order: each has at least as many entries before it as the
-- mark before, the first at least `from`, and the last at most `count`
abbrev pub are_marks : ℕ → ℕ → List RunMark → Bool
are_marks from count [] = nat_le from count
are_marks from count (m ∷ ms) = nat_le from m.kept && are_marks m.kept count ms

-- the mark that is told
abbrev pub mark_told : RunMark → Mark
mark_told m = record { below = m.below; kept = m.kept }

-- whether arrays tell a run
abbrev pub is_told : Arrays → Bool
is_told a = are_entries a.bytes a.lengths && are_marks 0 (length a.lengths) a.marks

-- the run that they tell
abbrev pub run_told : Arrays → Run
run_told a = record { kept = entries_told a.bytes a.lengths; marks = map mark_told a.marks }

-- the arrays that are lent
abbrev pub arrays_lent : LentArrays → Arrays
arrays_lent a = rooms a.bytes.now a.lengths.now a.marks.now

-- the arrays of a run, in its places
abbrev pub arrays_at : Arrays → RunPlaces → Arrays
arrays_at a p =
    rooms (part_at a.bytes p.bytes) (part_at a.lengths p.lengths) (part_at a.marks p.marks)

-- whether all places of a run lie in arrays
abbrev pub has_parts : Arrays → RunPlaces → Bool
has_parts a p =
    is_within a.bytes p.bytes && is_within a.lengths p.lengths && is_within a.marks p.marks

-- whether a run is told at its places
abbrev pub is_run : Arrays → RunPlaces → Bool
is_run a p = has_parts a p && is_told (arrays_at a p)

-- that run
abbrev pub run_at : Arrays → RunPlaces → Run
run_at a p = run_told (arrays_at a p)
