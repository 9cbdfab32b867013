-- Rows that are told to who counts them.
use Rattle.std.specs.Prelude.{◌≡◌, ◌+◌, ◌<◌, ◌^◌, Bool, true, List, length}
use Rattle.table.specs.Saturated.{saturated}
use Rattle.checks.specs.Takers.{AreToldInTurn}
use Rattle.scan.specs.Row.{Row}
use Rattle.scan.specs.declared.row_counter.RowCounter.{RowCounter}

-- one more row is counted, and the scan goes on
abbrev pub CountsRow : RowCounter → Row → Bool → RowCounter → Type 0
CountsRow old row goes new = (goes ≡ true) × (new.rows ≡ saturated (old.rows + 1))

-- All rows that a counter is told are counted, and it never stops a scan. The number saturates at
-- 2 ^ 64 - 1.
abbrev pub CountsRows : Type 0
CountsRows = (old new : RowCounter) (rows : List Row) (goes : Bool) → old.rows < 2 ^ 64 →
    AreToldInTurn CountsRow old rows goes new →
    (goes ≡ true) × (new.rows ≡ saturated (old.rows + length rows))
