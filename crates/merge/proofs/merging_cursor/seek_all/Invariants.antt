use Rattle.std.proofs.Common.{◌≡◌, map}
use Rattle.merge.proofs.Seeks.{sought}
use Rattle.merge.proofs.merging_cursor.seek_all.Given as goal

abbrev pub invariant-loop-cursor : goal.invariant-loop-cursor
invariant-loop-cursor g l = map g.S.Entries.remaining l.cursors ≡ sought g.C.Comparator.cmp l.target.bytes.now l.cursor-index (map g.S.Entries.remaining l.initial.cursors)
