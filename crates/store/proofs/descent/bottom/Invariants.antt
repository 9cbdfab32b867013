use Rattle.std.proofs.Common.{◌≡◌, ◌⊎◌, ◌≤◌, ◌<◌, ℕ}
use Rattle.store.specs.Descent.{IsEmptyLevel}
use Rattle.store.proofs.descent.bottom.Given as goal

-- the bottom so far is that of the levels so far
abbrev pub invariant-loop-level : goal.invariant-loop-level
invariant-loop-level l =
    (1 ≤ l.bottom) × (l.bottom ≤ 6) × (l.bottom < l.level) × ((l.bottom ≡ 1) ⊎ (IsEmptyLevel l.version l.bottom → ⊥))
    × ((k : ℕ) → l.bottom < k → k < l.level → IsEmptyLevel l.version k)
