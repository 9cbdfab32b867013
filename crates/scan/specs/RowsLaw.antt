-- A lawful version has rows, and just one list of them.
use Rattle.std.specs.Prelude.{◌≡◌, ℕ, List}
use Rattle.table.specs.Comparator.{KeyOrder}
use Rattle.folder.specs.Version.{State}
use Rattle.reads.specs.Ranges.{KeyRange}
use Rattle.reads.specs.Lawful.{IsLawful}
use Rattle.reads.specs.Tables.{NumberedContents}
use Rattle.scan.specs.Row.{Row}
use Rattle.scan.specs.Rows.{AreRows}

pub record RowsLaw (cmp : KeyOrder) : Type 0 where
  -- a lawful version has rows in each range of user keys, at each sequence
  pub some : (v : State) (tables : List NumberedContents) (range : KeyRange) (at : ℕ) →
      IsLawful cmp v tables → (rows : List Row) × AreRows cmp v tables range at rows
  -- it has no others
  pub one : (v : State) (tables : List NumberedContents) (range : KeyRange) (at : ℕ)
      (rows others : List Row) → AreRows cmp v tables range at rows →
      AreRows cmp v tables range at others → rows ≡ others
