-- Files as the code lends them.
use Rattle.std.specs.Prelude.{◌≡◌, ℕ, ◌+◌, ◌<◌, true, List, length, slice_index_or}
use denote.Ref.{Bor}
use Rattle.std.specs.Ordering.{is_lt}
use Rattle.folder.specs.Order.{internal_cmp}
use Rattle.folder.specs.Comparator.{KeyOrder}
use Rattle.folder.specs.meta.FileMeta.{FileMeta}

-- the ranges of these files rise
abbrev pub LentRangesRise : KeyOrder → List (Bor FileMeta) → Type 0
LentRangesRise cmp files = (k : ℕ) (d : Bor FileMeta) → k + 1 < length files →
    is_lt (internal_cmp cmp (slice_index_or files k d).now.largest
    (slice_index_or files (k + 1) d).now.smallest)
    ≡ true
