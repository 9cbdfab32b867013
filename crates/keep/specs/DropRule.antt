-- The drop rule: which entries a compaction keeps.
use Rattle.std.specs.Prelude.{ℕ, nat_lt, nat_le, Bool, true, false, not, ◌&&◌, if◌then◌else◌, List}
use Rattle.std.specs.Prelude.{[], ◌∷◌, ◌++◌, Option, Some, None}
use Rattle.std.specs.List.{list_any, list_all}
use Rattle.std.specs.Str.{bytes_eq}
use Rattle.ikey.specs.declared.kind.Kind.{Kind}
use Rattle.ikey.specs.declared.kind.Kind.TheVariants.{Delete, Put}
use Rattle.ikey.specs.Key.{user_of, sequence_of, kind_of}
use Rattle.ikey.specs.Comparator.{KeyOrder}
use Rattle.reads.specs.EncodedEntry.{Entry}
use Rattle.reads.specs.meta.FileMeta.{FileMeta}
use Rattle.pick.specs.Ranges.{is_in_none}
use Rattle.keep.specs.Readable.{Readable}

-- whether two entries have one user key
abbrev pub is_same_user : Entry → Entry → Bool
is_same_user a b = bytes_eq (user_of a.key) (user_of b.key)

-- whether an entry is a deletion
abbrev pub is_deletion : Kind → Bool
is_deletion Delete = true
is_deletion Put = false

-- whether a sequence is at or above an older entry's and below a newer one's: it sees the older
-- entry and not the newer one
abbrev pub is_snapshot_between : Entry → Entry → ℕ → Bool
is_snapshot_between newer older at = nat_le (sequence_of older.key) at
    && nat_lt at (sequence_of newer.key)

-- Whether an entry is hidden, that is, if all of these hold:
-- - the previous entry has the same user key;
-- - the previous entry's sequence is at or below the floor;
-- - no listed sequence is below that and at or above the entry's own.
abbrev pub is_hidden : Readable → Option Entry → Entry → Bool
is_hidden r None e = false
is_hidden r (Some newer) e = is_same_user newer e && nat_le (sequence_of newer.key) r.floor
    && not (list_any (is_snapshot_between newer e) r.listed)

-- Whether an entry is a deletion that nothing needs, that is, a deletion of which both of these
-- hold:
-- - its sequence is at or below the floor and each listed one, so each readable sequence sees it;
-- - no deeper file's range holds its user key.
abbrev pub is_obsolete : KeyOrder → Readable → List FileMeta → Entry → Bool
is_obsolete cmp r deeper e = is_deletion (kind_of e.key) && nat_le (sequence_of e.key) r.floor
    && list_all (nat_le (sequence_of e.key)) r.listed && is_in_none cmp deeper (user_of e.key)

-- whether a compaction keeps an entry of the union, with `before` as the previous one
abbrev pub keeps : KeyOrder → Readable → List FileMeta → Option Entry → Entry → Bool
keeps cmp r deeper before e = not (is_hidden r before e) && not (is_obsolete cmp r deeper e)

-- the kept ones of entries, with `before` as the entry previous to the first
abbrev pub kept_after : KeyOrder → Readable → List FileMeta → Option Entry → List Entry →
    List Entry
kept_after cmp r deeper before [] = []
kept_after cmp r deeper before (e ∷ es) =
    (if keeps cmp r deeper before e then e ∷ [] else []) ++ kept_after cmp r deeper (Some e) es

-- the entries of the union that a compaction keeps
abbrev pub kept : KeyOrder → Readable → List FileMeta → List Entry → List Entry
kept cmp r deeper union = kept_after cmp r deeper None union
