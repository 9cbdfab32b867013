use Rattle.std.proofs.Common.{ℕ, ◌<◌}
use Rattle.store.specs.InputsCompaction.{IsOrderlyLevel}
use Rattle.store.proofs.version_files.test_files.Given as goal

-- the levels so far are orderly
abbrev pub invariant-loop-level : goal.invariant-loop-level
invariant-loop-level g l = (k : ℕ) → k < l.level → IsOrderlyLevel g.C.Comparator.cmp l.version k
