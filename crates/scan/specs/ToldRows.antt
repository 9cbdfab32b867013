-- What a scan of a version tells.
use Rattle.std.specs.Prelude.{◌≡◌, ◌⊎◌, ℕ, Bool, false, List, [], ◌++◌, Result, Ok}
use Rattle.table.specs.fault.Fault.{Fault}
use Rattle.table.specs.Comparator.{KeyOrder}
use Rattle.folder.specs.Version.{State}
use Rattle.folder.specs.OpenAnswer.{FolderAnswers}
use Rattle.folder.specs.declared.folder.Folder.{Ghosts}
use Rattle.reads.specs.Tables.{NumberedContents}
use Rattle.checks.specs.Takers.{AreToldInTurn}
use Rattle.scan.specs.Row.{Row}
use Rattle.scan.specs.Rows.{AreRows}
use Rattle.scan.specs.ChosenRows.{chosen_range, chosen_sequence, rows_within}
use Rattle.scan.specs.declared.row_choice.RowChoice.{RowChoice}

-- Who is told of rows, before and after a call. `tells` is the change that it makes of them to be
-- told of a row, with whether they say to go on.
pub record RowTelling (T : Type 0) : Type 1 where
  pub tells : T → Row → Bool → T → Type 0
  pub old : T
  pub new : T

abbrev pub telling_by : {T : Type 0} → (T → Row → Bool → T → Type 0) → T → T → RowTelling T
telling_by tells old new = record { tells = tells; old = old; new = new }

-- how often the device of a folder had failed before a call, and has after it
pub record FailureCounts : Type 0 where
  pub before : ℕ
  pub now : ℕ

abbrev pub counts_by : ℕ → ℕ → FailureCounts
counts_by before now = record { before = before; now = now }

abbrev pub counts_of : {F : Type 0} → Ghosts F → F → F → FailureCounts
counts_of g old new = counts_by (g.failed old) (g.failed new)

-- What a scan tells of a version, lawful with these tables. The taker is told a first part of the
-- chosen rows, whatever the scan answers. At Ok these are all of them, unless the taker said to
-- stop. Else the device failed, or memory ran out.
pub record IsScan {T : Type 0} (cmp : KeyOrder) (v : State) (tables : List NumberedContents)
    (choice : RowChoice) (taker : RowTelling T) (failures : FailureCounts)
    (result : Result (Unit {0}) Fault) : Type 0 where
  pub rows : List Row
  pub are : AreRows cmp v tables (chosen_range choice) (chosen_sequence v choice.at) rows
  pub told : List Row
  pub untold : List Row
  pub parts : rows_within choice.limit rows ≡ told ++ untold
  pub goes : Bool
  pub taken : AreToldInTurn taker.tells taker.old told goes taker.new
  pub answer : FolderAnswers (λ none. none) failures.before failures.now result
      (λ answer. (answer ≡ Ok tt) × ((untold ≡ []) ⊎ (goes ≡ false)))
