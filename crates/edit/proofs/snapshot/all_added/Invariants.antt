use Rattle.edit.proofs.Snapshots.{Levels}
use Rattle.edit.proofs.snapshot.all_added.Given as goal

abbrev pub invariant-loop-level : goal.invariant-loop-level
invariant-loop-level g l = Levels g.C.Comparator.cmp l.files l.added.items l.level
