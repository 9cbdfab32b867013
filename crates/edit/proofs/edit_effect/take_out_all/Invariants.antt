use Rattle.edit.proofs.Kept.{TakesOut}
use Rattle.edit.proofs.edit_effect.take_out_all.Given as goal

abbrev pub invariant-loop-place : goal.invariant-loop-place
invariant-loop-place l = TakesOut l.fn.files l.deleted.keys l.files l.place-iterator
