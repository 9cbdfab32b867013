use Rattle.std.proofs.Common.{◌≡◌, drop}
use Rattle.c_api.specs.ToldRuns.{are_marks}
use Rattle.c_api.proofs.told_run.are_marks.Given as goal

abbrev pub invariant-loop-mark : goal.invariant-loop-mark
invariant-loop-mark l = are_marks l.kept l.count (drop l.mark-index l.marks) ≡ are_marks 0 l.count l.marks
