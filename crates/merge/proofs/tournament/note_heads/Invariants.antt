use Rattle.std.proofs.Common.{map, take}
use Rattle.std.specs.List.{AllByRecursion}
use Rattle.table.specs.EntriesFrom.{NeverFalls}
use Rattle.merge.proofs.Heads.{AreNoted}
use Rattle.merge.proofs.tournament.note_heads.Given as goal

abbrev pub invariant-loop-place : goal.invariant-loop-place
invariant-loop-place g l = record {
  ordered : AllByRecursion (NeverFalls g.C.Comparator.cmp) (take l.place (map g.S.Entries.remaining l.cursors));
  noted : AreNoted g.C.Comparator.head_of (map g.S.Entries.remaining l.cursors) l.heads l.place;
}
