-- The rows of a version: the user keys that have a value, each with that value.
use Rattle.std.specs.Prelude.{◌≡◌, ℕ, List, map, Some, Contains}
use Rattle.std.specs.List.{All}
use Rattle.table.specs.Comparator.{KeyOrder}
use Rattle.folder.specs.Version.{State}
use Rattle.reads.specs.Boundaries.{KeysRise}
use Rattle.reads.specs.Ranges.{KeyRange, IsIn}
use Rattle.reads.specs.Gets.{get_of}
use Rattle.reads.specs.Tables.{NumberedContents}
use Rattle.scan.specs.Row.{Row}

-- The rows of a version in a range of user keys, at a sequence. They are exactly the user keys of
-- the range whose get answers a value, each once and with that value, in the order of the keys.
pub record AreRows (cmp : KeyOrder) (v : State) (tables : List NumberedContents) (range : KeyRange)
    (at : ℕ) (rows : List Row) : Type 0 where
  pub rising : KeysRise cmp (map (λ r. r.key) rows)
  pub each : All (λ (r : Row). IsIn cmp range r.key × (get_of v tables r.key at ≡ Some r.value))
      rows
  pub all : (key value : List ℕ) → IsIn cmp range key → get_of v tables key at ≡ Some value →
      Contains rows (record { key = key; value = value })
