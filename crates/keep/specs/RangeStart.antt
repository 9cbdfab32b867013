-- Entries before a range take no part in it.
use Rattle.std.specs.Prelude.{◌≡◌, false, List}
use Rattle.ikey.specs.Comparator.{KeyOrder}
use Rattle.reads.specs.EncodedEntry.{Entry}
use Rattle.split.specs.Ranges.{KeyRange}
use Rattle.merge.specs.CursorsLeft.{is_before, EachLosesOnly}
use Rattle.keep.specs.Marks.{CompactionContext}
use Rattle.keep.specs.Runs.{range_run}

-- lists that lost some entries before a range have the run of it that they had
abbrev pub RangeStartLaw : KeyOrder → Type 0
RangeStartLaw cmp =
    (b : CompactionContext) (range : KeyRange) (olds news : List (List Entry)) →
    EachLosesOnly (is_before cmp range.lower false) olds news → range_run cmp b news range
    ≡ range_run cmp b olds range
