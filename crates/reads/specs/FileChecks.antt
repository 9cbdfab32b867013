-- What is tested of a version's files, one by one and in order.
use Rattle.std.specs.Prelude.{◌≡◌, ℕ, ◌+◌, ◌<◌, nat_lt, nat_le, nat_eq, Bool, true, not}
use Rattle.std.specs.Prelude.{◌&&◌, ◌||◌, if◌then◌else◌, List, length, map}
use Rattle.std.specs.Prelude.{slice_index_or, Option, AllPairs}
use Rattle.std.specs.Option.{option_map_or}
use Rattle.std.specs.List.Sorted.{IsSortedBy}
use Rattle.std.specs.Ordering.{nat_cmp, ordering_then, is_lt}
use Rattle.std.specs.declared.cmp.Ordering.{Ordering}
use Rattle.std.specs.Str.{bytes_eq}
use Rattle.ikey.specs.Key.{user_of, sequence_of}
use Rattle.ikey.specs.Order.{internal_cmp}
use Rattle.ikey.specs.Comparator.{KeyOrder}
use Rattle.split.specs.Ranges.{KeyRange}
use Rattle.edit.specs.declared.meta.FileMeta.{FileMeta}
use Rattle.edit.specs.declared.meta.NewFile.{NewFile}
use Rattle.reads.specs.declared.level_file.LevelFile.{LevelFile}
use Rattle.reads.specs.FileList.{level_file_in, AreAll}
pub use Rattle.reads.specs.StatedFiles.{is_below, matches_metadata, IsStatedFile}
use Rattle.reads.specs.Tables.{NumberedContents, table_entries}
use Rattle.reads.specs.Lawful.{IsFileOf, IsBelowNextFile, AreDistinct}

-- whether a user key is at or after a range's lower bound, if it has one
abbrev pub is_from : KeyOrder → KeyRange → List ℕ → Bool
is_from cmp range user = option_map_or (λ lower. not (is_lt (cmp user lower))) range.lower true

-- Whether the next key in a merge breaks the order after the last one. It does if it has the same
-- user key, and comes from an earlier list or has no lower sequence.
abbrev pub steps_back : List ℕ → ℕ → List ℕ → ℕ → Bool
steps_back last place key next = bytes_eq (user_of key) (user_of last)
    && (nat_lt next place || nat_le (sequence_of last) (sequence_of key))

-- what is asked of each file alone
pub record IsSoundFile (cmp : KeyOrder) (tables : List NumberedContents) (next : Option ℕ)
    (f : FileMeta) : Type 0 where
  pub file : IsFileOf cmp tables f
  pub below_next : IsBelowNextFile next f.number
  pub distinct : AllPairs AreDistinct (table_entries tables f.number)

-- Whether a file comes before another, that is, if one of these holds:
-- - it is at a shallower level;
-- - both are at level 0, and it has the higher number;
-- - both are at one level from 1 on, and its range of internal keys is below that of the other.
abbrev pub stands_before : KeyOrder → NewFile → NewFile → Bool
stands_before cmp f g =
    nat_lt f.level g.level
    || (nat_eq f.level g.level
    && (if nat_eq f.level 0 then nat_lt g.meta.number f.meta.number else is_lt
    (internal_cmp cmp f.meta.largest g.meta.smallest)))

-- the number of a file of level 0; 0 for the others
abbrev pub rank_of : NewFile → ℕ
rank_of f = if nat_eq f.level 0 then f.meta.number else 0

-- The order of files, newer entries first: by level, at level 0 by falling number, at each other
-- level by smallest key.
abbrev pub newest_first_cmp : KeyOrder → NewFile → NewFile → Ordering
newest_first_cmp cmp f g =
    ordering_then (nat_cmp f.level g.level)
    (ordering_then (nat_cmp (rank_of g) (rank_of f))
    (internal_cmp cmp f.meta.smallest g.meta.smallest))

-- the listed files are all files of a version, in that order
pub record AreListed (cmp : KeyOrder) (files : List NewFile) (listed : List LevelFile)
    : Type 0 where
  pub all : AreAll files (map level_file_in listed)
  pub sorted : IsSortedBy (λ f g. is_lt (newest_first_cmp cmp (level_file_in f) (level_file_in g)))
      listed

-- each file comes before the next one
abbrev pub AreInTurn : KeyOrder → List LevelFile → Type 0
AreInTurn cmp listed = (k : ℕ) (d : LevelFile) → k + 1 < length listed →
    stands_before cmp (level_file_in (slice_index_or listed k d))
    (level_file_in (slice_index_or listed (k + 1) d)) ≡ true
