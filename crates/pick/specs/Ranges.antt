-- Ranges of user keys: that of a file goes from the user key of its smallest key to that of its
-- largest.
use Rattle.std.specs.Prelude.{ℕ, Bool, not, ◌&&◌, List}
use Rattle.std.specs.List.{list_any}
use Rattle.std.specs.Ordering.{is_le}
use Rattle.edit.specs.Key.{user_of}
use Rattle.edit.specs.Comparator.{KeyOrder}
use Rattle.edit.specs.declared.meta.FileMeta.{FileMeta}

-- whether a user key is at or before another
abbrev pub is_at_most : KeyOrder → List ℕ → List ℕ → Bool
is_at_most cmp a b = is_le (cmp a b)

-- whether the range of the files begins at or before the user key: some file's does
abbrev pub begins_by : KeyOrder → List FileMeta → List ℕ → Bool
begins_by cmp files user = list_any (λ (f : FileMeta). is_at_most cmp (user_of f.smallest) user)
    files

-- whether the range of the files ends at or after the user key: some file's does
abbrev pub ends_at_or_after : KeyOrder → List FileMeta → List ℕ → Bool
ends_at_or_after cmp files user =
    list_any (λ (f : FileMeta). is_at_most cmp user (user_of f.largest)) files

-- Whether the range of a file overlaps that of the files, which goes from the least of their user
-- keys to the greatest.
abbrev pub overlaps : KeyOrder → List FileMeta → FileMeta → Bool
overlaps cmp files f = begins_by cmp files (user_of f.largest)
    && ends_at_or_after cmp files (user_of f.smallest)

-- whether the range of a file holds the user key
abbrev pub holds_user : KeyOrder → List ℕ → FileMeta → Bool
holds_user cmp user f = is_at_most cmp (user_of f.smallest) user
    && is_at_most cmp user (user_of f.largest)

-- whether no file's range holds the user key: it is at its base
abbrev pub is_in_none : KeyOrder → List FileMeta → List ℕ → Bool
is_in_none cmp files user = not (list_any (holds_user cmp user) files)
