-- A range of user keys, as it widens over files.
use Rattle.std.specs.Prelude.{ℕ, Bool, ◌&&◌, if◌then◌else◌, List, fold}
use Rattle.std.specs.Ordering.{is_lt}
use Rattle.edit.specs.Key.{user_of}
use Rattle.edit.specs.Comparator.{KeyOrder}
use Rattle.edit.specs.declared.meta.FileMeta.{FileMeta}
use Rattle.pick.specs.Ranges.{is_at_most}

-- the lesser of two user keys
abbrev pub lesser_user : KeyOrder → List ℕ → List ℕ → List ℕ
lesser_user cmp a b = if is_lt (cmp b a) then b else a

-- the greater of two user keys
abbrev pub greater_user : KeyOrder → List ℕ → List ℕ → List ℕ
greater_user cmp a b = if is_lt (cmp a b) then b else a

-- the least of a user key and those of the files' smallest keys
abbrev pub least_user : KeyOrder → List ℕ → List FileMeta → List ℕ
least_user cmp user files =
    fold (λ least (f : FileMeta). lesser_user cmp least (user_of f.smallest)) user files

-- the greatest of a user key and those of the files' largest keys
abbrev pub greatest_user : KeyOrder → List ℕ → List FileMeta → List ℕ
greatest_user cmp user files =
    fold (λ greatest (f : FileMeta). greater_user cmp greatest (user_of f.largest)) user files

-- whether the range of a file overlaps the one from smallest to largest
abbrev pub is_overlapping : KeyOrder → List ℕ → List ℕ → FileMeta → Bool
is_overlapping cmp smallest largest f = is_at_most cmp smallest (user_of f.largest)
    && is_at_most cmp (user_of f.smallest) largest

-- whether the range from smallest to largest covers that of a file
abbrev pub is_covering : KeyOrder → List ℕ → List ℕ → FileMeta → Bool
is_covering cmp smallest largest f = is_at_most cmp smallest (user_of f.smallest)
    && is_at_most cmp (user_of f.largest) largest
