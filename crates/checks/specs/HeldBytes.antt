-- The bytes of held tables, and a table that a folder tells.
use Rattle.std.specs.Prelude.{◌≡◌, ℕ, List, map}
use Rattle.std.specs.Prelude.{Ok}
use Rattle.ikey.specs.Comparator.{KeyOrder}
use Rattle.table.specs.TableContents.{contents_reading}
use Rattle.folder.specs.Calls.{ToldFiles}
use Rattle.folder.specs.LoadedTables.{IsTableAnswer}
use Rattle.reads.specs.Tables.{NumberedContents}

-- what the table of a number holds, as a folder tells it
pub record IsToldTable (cmp : KeyOrder) (tells : ToldFiles) (t : NumberedContents) (number : ℕ)
    : Type 0 where
  pub numbered : t.number ≡ number
  pub there : IsTableAnswer tells number (Ok t.contents.bytes)
  pub read : contents_reading cmp t.contents.bytes ≡ Ok t.contents

-- the numbers and the bytes of tables
abbrev pub held_bytes : List NumberedContents → List (ℕ × List ℕ)
held_bytes tables = map (λ (t : NumberedContents). (t.number, t.contents.bytes)) tables
