-- What a version states of a file beside its number.
use Rattle.std.specs.Prelude.{ℕ, nat_eq, Bool, ◌&&◌, List}
use Rattle.std.specs.Ordering.{is_le}
use Rattle.std.specs.Str.{bytes_eq}
use Rattle.ikey.specs.Comparator.{KeyOrder}
use Rattle.ikey.specs.Key.{user_of}
use Rattle.edit.specs.declared.meta.FileMeta.{FileMeta}

-- whether the version states this length, first key and last key of a file
abbrev pub has_bounds : FileMeta → ℕ → List ℕ → List ℕ → Bool
has_bounds f size smallest largest =
    nat_eq f.size size && (bytes_eq f.smallest smallest && bytes_eq f.largest largest)

-- whether a file's range of user keys holds this one
abbrev pub may_hold : KeyOrder → FileMeta → List ℕ → Bool
may_hold cmp f user = is_le (cmp (user_of f.smallest) user) && is_le (cmp user (user_of f.largest))
