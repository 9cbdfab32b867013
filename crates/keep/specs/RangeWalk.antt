-- How far the entries of a range were walked, and what the next one does.
use Rattle.std.specs.Prelude.{ℕ, nat_eq, nat_lt, nat_le, Bool, false, not, ◌&&◌, ◌||◌}
use Rattle.std.specs.Prelude.{if◌then◌else◌, List, [], ◌∷◌, ◌++◌, length, Option, Some, None}
use Rattle.std.specs.List.{list_any}
use Rattle.std.specs.Option.{is_none}
use Rattle.ikey.specs.Key.{user_of, sequence_of}
use Rattle.ikey.specs.Comparator.{KeyOrder}
use Rattle.reads.specs.EncodedEntry.{Entry}
use Rattle.keep.specs.declared.mark.Mark.{Mark}
use Rattle.keep.specs.WalkedRange.{WalkedRange}
use Rattle.keep.specs.Versions.{EntryVersion, version_of, newer_of}
use Rattle.keep.specs.Readable.{Readable}
use Rattle.keep.specs.DropRule.{is_obsolete}
use Rattle.keep.specs.Marks.{CompactionContext, grandparents_below}

-- whether the previous entry, of sequence `newer` in the same user key, has the sequence of this
-- key
abbrev pub is_repeated : Option ℕ → List ℕ → Bool
is_repeated None key = false
is_repeated (Some newer) key = nat_eq newer (sequence_of key)

-- whether a listed sequence is at or above `older` and below `newer`
abbrev pub is_needed : List ℕ → ℕ → ℕ → Bool
is_needed listed newer older = list_any (λ s. nat_le older s && nat_lt s newer) listed

-- whether the previous entry, of sequence `newer` in the same user key, hides this key's entry
abbrev pub is_hidden_by : Readable → Option ℕ → List ℕ → Bool
is_hidden_by r None key = false
is_hidden_by r (Some newer) key = nat_le newer r.floor
    && not (is_needed r.listed newer (sequence_of key))

-- whether an entry is kept; `newer` is the sequence of the previous entry if it has the same user
-- key
abbrev pub keeps_after : KeyOrder → CompactionContext → Option ℕ → Entry → Bool
keeps_after cmp b newer e = not (is_hidden_by b.readable newer e.key)
    && not (is_obsolete cmp b.readable b.deeper e)

-- Whether the first entry of a user key sets a mark. It does if it is the first of the range, or
-- the number of grandparents below it is not that of the user key before.
abbrev pub sets_mark : Option EntryVersion → ℕ → ℕ → Bool
sets_mark last passed below = is_none last || not (nat_eq below passed)

-- the marks that it sets, with `kept` kept entries before it
abbrev pub new_marks : Option EntryVersion → ℕ → ℕ → ℕ → List Mark
new_marks last passed below kept =
    if sets_mark last passed below then record { below = below; kept = kept } ∷ [] else []

-- the walk after the marks of the first entry of a user key
abbrev pub walk_after_first : KeyOrder → CompactionContext → WalkedRange → List ℕ → WalkedRange
walk_after_first cmp b w key = record {
  run = record {
    kept = w.run.kept;
    marks = w.run.marks
        ++ new_marks w.last w.passed (grandparents_below cmp b.grandparents key)
        (length w.run.kept);
  };
  last = w.last;
  passed = grandparents_below cmp b.grandparents key;
}

-- the walk after an entry's marks: only the first entry of a user key may set one
abbrev pub walk_after_head : KeyOrder → CompactionContext → Option ℕ → WalkedRange → List ℕ →
    WalkedRange
walk_after_head cmp b None w key = walk_after_first cmp b w key
walk_after_head cmp b (Some newer) w key = w

-- the walk after an entry was kept or dropped
abbrev pub walk_after_entry : Bool → WalkedRange → Entry → WalkedRange
walk_after_entry keeps w e = record {
  run = record {
    kept = w.run.kept ++ (if keeps then e ∷ [] else []);
    marks = w.run.marks;
  };
  last = Some (version_of e.key);
  passed = w.passed;
}

-- the walk after an entry
abbrev pub walk_after : KeyOrder → CompactionContext → WalkedRange → Entry → WalkedRange
walk_after cmp b w e =
    walk_after_entry (keeps_after cmp b (newer_of w.last (user_of e.key)) e)
    (walk_after_head cmp b (newer_of w.last (user_of e.key)) w e.key) e
