use Rattle.std.proofs.Common.{◌≡◌, ◌++◌, map, drop}
use Rattle.c_api.specs.Runs.{mark_of}
use Rattle.c_api.proofs.run_arrays.marks_of.Given as goal

abbrev pub invariant-loop-mark : goal.invariant-loop-mark
invariant-loop-mark l = l.all.items ++ map mark_of (drop l.mark-index l.marks) ≡ map mark_of l.marks
