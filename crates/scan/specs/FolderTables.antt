-- Tables that a folder holds.
use Rattle.std.specs.Prelude.{◌≡◌, ◌⊎◌, ℕ, List, Option, Some, None}
use Rattle.folder.specs.Names.{old_table_name, table_name}
use Rattle.reads.specs.Tables.{NumberedContents, table_of_number}
use Rattle.table.specs.TableContents.{Contents}

-- the folder tells this of a name, and nothing else
abbrev pub TellsJust : (List ℕ → Option (List ℕ) → Type 0) → List ℕ → Option (List ℕ) → Type 0
TellsJust tells name held = (other : Option (List ℕ)) → tells name other → other ≡ held

-- the folder tells just these bytes of the table of a number: under its name, or under its older
-- one if no file has that
abbrev pub HoldsTable : (List ℕ → Option (List ℕ) → Type 0) → ℕ → List ℕ → Type 0
HoldsTable tells number bytes =
    TellsJust tells (table_name number) (Some bytes)
    ⊎ (TellsJust tells (table_name number) None
    × TellsJust tells (old_table_name number) (Some bytes))

-- the folder tells just these tables
abbrev pub HoldTables : (List ℕ → Option (List ℕ) → Type 0) → List NumberedContents → Type 0
HoldTables tells tables = (number : ℕ) (table : Contents) →
    table_of_number tables number ≡ Some table → HoldsTable tells number table.bytes
