use Rattle.std.proofs.Common.{◌<◌, ◌^◌, false, length}
use Rattle.std.specs.List.{AllByRecursion}
use Rattle.table.specs.EncodedEntry.{Entry}
use Rattle.table.specs.Key.{sequence_of}
use Rattle.split.specs.Ranges.{key_range}
use Rattle.merge.specs.CursorsLeft.{is_before, LosesOnly}
use Rattle.merge.proofs.range_start.seek_range.Given as goal

abbrev pub invariant-loop-cursor : goal.invariant-loop-cursor
invariant-loop-cursor g l =
    AllByRecursion (λ (e : Entry). sequence_of e.key < 2 ^ 56) (g.S.Entries.remaining l.fn.cursor) → LosesOnly (is_before g.C.Comparator.cmp (key_range l.range).lower false) (g.S.Entries.remaining l.fn.cursor) (g.S.Entries.remaining l.cursor)

abbrev pub decreases-loop-cursor : goal.decreases-loop-cursor
decreases-loop-cursor g l = length (g.S.Entries.remaining l.cursor)
