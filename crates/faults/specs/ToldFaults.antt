-- How far faults were told.
use Rattle.std.specs.Prelude.{◌≡◌, ◌⊎◌, ℕ, ◌+◌, Bool, true, false}
use Rattle.std.specs.Prelude.{List, [], ◌∷◌, ◌++◌, Result, Ok, Err}
use Rattle.table.specs.Saturated.{saturated}
use Rattle.table.specs.fault.Fault.{Fault}
use Rattle.checks.specs.Takers.{AreToldInTurn}
use Rattle.faults.specs.VersionFault.{VersionFault}
use Rattle.faults.specs.declared.fault_count.FaultCount.{FaultCount}

-- one more, 2^64 - 1 at most
abbrev pub next_count : ℕ → ℕ
next_count n = saturated (n + 1)

-- the count after these, if it was n before
abbrev pub count_after : ℕ → List VersionFault → ℕ
count_after n [] = n
count_after n (f ∷ faults) = count_after (next_count n) faults

-- Of these faults a first part was told, and `untold` are left. Before it `before` were told.
pub record IsPart {T : Type 0} (tells : T → VersionFault → Bool → T → Type 0)
    (faults : List VersionFault) (old : T) (before : ℕ) (untold : List VersionFault) (new : T)
    (after : FaultCount) : Type 0 where
  pub told : List VersionFault
  pub parts : faults ≡ told ++ untold
  pub taker : AreToldInTurn tells old told after.goes new
  pub counted : after.count ≡ count_after before told

-- all were told, or the taker said to stop
pub record IsTold {T : Type 0} (tells : T → VersionFault → Bool → T → Type 0)
    (faults : List VersionFault) (old : T) (before : ℕ) (new : T) (after : FaultCount)
    : Type 0 where
  pub untold : List VersionFault
  pub part : IsPart tells faults old before untold new after
  pub ended : (untold ≡ []) ⊎ (after.goes ≡ false)

-- some were told, and the taker wants more
pub record IsBegun {T : Type 0} (tells : T → VersionFault → Bool → T → Type 0)
    (faults : List VersionFault) (old : T) (before : ℕ) (new : T) : Type 0 where
  pub untold : List VersionFault
  pub after : FaultCount
  pub part : IsPart tells faults old before untold new after
  pub goes : after.goes ≡ true

-- what a call leaves that tells these faults
abbrev pub IsTelling : {T : Type 0} → (T → VersionFault → Bool → T → Type 0) →
    List VersionFault → T → ℕ → T → Result FaultCount Fault → Type 0
IsTelling tells faults old before new (Ok after) = IsTold tells faults old before new after
IsTelling tells faults old before new (Err e) = IsBegun tells faults old before new
