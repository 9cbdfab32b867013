-- Which files the test of a range of user keys needs.
use Rattle.std.specs.Prelude.{Bool, true, false, not, ◌&&◌, ◌||◌}
use Rattle.ikey.specs.Key.{user_of}
use Rattle.ikey.specs.Comparator.{KeyOrder}
use Rattle.split.specs.Bounds.{is_user_before}
use Rattle.split.specs.Ranges.{KeyRange}
use Rattle.folder.specs.meta.FileMeta.{FileMeta}

-- whether a file begins in a range, or begins before it and doesn't end before it
abbrev pub is_file_needed : KeyOrder → KeyRange → FileMeta → Bool
is_file_needed cmp range f = is_user_before cmp range.upper true (user_of f.smallest)
    && (not (is_user_before cmp range.lower false (user_of f.smallest))
    || not (is_user_before cmp range.lower false (user_of f.largest)))
