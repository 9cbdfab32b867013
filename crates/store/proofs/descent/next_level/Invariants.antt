use Rattle.std.proofs.Common.{◌<◌, ℕ}
use Rattle.store.specs.Descent.{IsEmptyLevel}
use Rattle.store.proofs.descent.next_level.Given as goal

-- the levels so far have no file
abbrev pub invariant-loop-level : goal.invariant-loop-level
invariant-loop-level l = (k : ℕ) → k < l.level → IsEmptyLevel l.version k
