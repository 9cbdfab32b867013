-- How far rows were told.
use Rattle.std.specs.Prelude.{◌≡◌, ◌⊎◌, ℕ, ◌+◌, ◌<◌, Bool, true, false}
use Rattle.std.specs.Prelude.{List, [], ◌++◌, length, Option, Some, None, Result, Ok, Err}
use Rattle.std.specs.Option.{option_map}
use Rattle.table.specs.fault.Fault.{Fault}
use Rattle.checks.specs.Takers.{AreToldInTurn}
use Rattle.scan.specs.Row.{Row}
use Rattle.scan.specs.ToldRows.{RowTelling, telling_by}
use Rattle.scan.specs.declared.row_limit.RowLimit.{RowLimit}
use Rattle.scan.specs.declared.row_limit.RowLimit.TheVariants.{More, Enough}

-- at least one more row is wanted
abbrev pub AreWanted : Option ℕ → Type 0
AreWanted None = Unit {0}
AreWanted (Some left) = 0 < left

-- what is wanted after one more row
abbrev pub IsAfterOne : Option ℕ → RowLimit → Type 0
IsAfterOne None (More None) = Unit {0}
IsAfterOne None (More (Some less)) = ⊥
IsAfterOne None Enough = ⊥
IsAfterOne (Some left) (More None) = ⊥
IsAfterOne (Some left) (More (Some less)) = (left ≡ less + 1) × (0 < less)
IsAfterOne (Some left) Enough = left ≡ 1

-- Of these rows a first part was told, and `untold` are left. Of `limit` rows, `left` may be told
-- still. `goes` is what the taker said last.
pub record IsRowPart {T : Type 0} (taker : RowTelling T) (rows : List Row) (limit : Option ℕ)
    (untold : List Row) (left : Option ℕ) (goes : Bool) : Type 0 where
  pub told : List Row
  pub parts : rows ≡ told ++ untold
  pub taken : AreToldInTurn taker.tells taker.old told goes taker.new
  pub counted : limit ≡ option_map (λ n. n + length told) left

-- some were told, and no more are wanted
pub record AreEnough {T : Type 0} (tells : T → Row → Bool → T → Type 0) (rows : List Row) (old : T)
    (limit : Option ℕ) (new : T) : Type 0 where
  pub untold : List Row
  pub left : Option ℕ
  pub goes : Bool
  pub part : IsRowPart (telling_by tells old new) rows limit untold left goes
  pub ended : (goes ≡ false) ⊎ (left ≡ Some 0)

-- some were told, and more are wanted
pub record AreBegun {T : Type 0} (tells : T → Row → Bool → T → Type 0) (rows : List Row) (old : T)
    (limit : Option ℕ) (new : T) : Type 0 where
  pub untold : List Row
  pub left : Option ℕ
  pub part : IsRowPart (telling_by tells old new) rows limit untold left true

-- what a call leaves that tells these rows: all were told, or enough, or it was refused before
abbrev pub AreTelling : {T : Type 0} → (T → Row → Bool → T → Type 0) → List Row → T → Option ℕ →
    T → Result RowLimit Fault → Type 0
AreTelling tells rows old limit new (Ok (More left)) =
    AreWanted left × IsRowPart (telling_by tells old new) rows limit [] left true
AreTelling tells rows old limit new (Ok Enough) = AreEnough tells rows old limit new
AreTelling tells rows old limit new (Err e) = AreBegun tells rows old limit new

-- the same of a call that tells all ranges
abbrev pub AreScanned : {T : Type 0} → (T → Row → Bool → T → Type 0) → List Row → T → Option ℕ →
    T → Result (Unit {0}) Fault → Type 0
AreScanned tells rows old limit new (Ok none) =
    AreEnough tells rows old limit new
    ⊎ ((left : Option ℕ) × IsRowPart (telling_by tells old new) rows limit [] left true)
AreScanned tells rows old limit new (Err e) = AreBegun tells rows old limit new
