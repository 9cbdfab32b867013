-- Consecutive entries of runs.
use Rattle.std.specs.Prelude.{List}
use Rattle.block.specs.EncodedEntry.{Entry}

-- consecutive entries, and those after them
pub record EntrySpanView : Type 0 where
  pub entries : List Entry
  pub behind : List Entry
