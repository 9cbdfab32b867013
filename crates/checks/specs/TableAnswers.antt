-- What is answered of a table that is read.
use Rattle.std.specs.Prelude.{◌≡◌, ℕ, List, map, Result, Ok}
use Rattle.ikey.specs.fault.Fault.{Fault}
use Rattle.ikey.specs.Comparator.{KeyOrder}
use Rattle.reads.specs.Tables.{NumberedContents}
use Rattle.checks.specs.TableReadings.{numbered_reading, tables_reading}

-- the answer for each table by itself
abbrev pub table_answers : KeyOrder → List (ℕ × List ℕ) → List (Result NumberedContents Fault)
table_answers cmp tables = map (numbered_reading cmp) tables

-- these tables are read, each is valid
abbrev pub IsRead : KeyOrder → List (ℕ × List ℕ) → List NumberedContents → Type 0
IsRead cmp loaded tables = tables_reading cmp loaded ≡ Ok tables

-- one of the tables is invalid
abbrev pub IsInvalid : KeyOrder → List (ℕ × List ℕ) → Type 0
IsInvalid cmp loaded = (tables : List NumberedContents) → IsRead cmp loaded tables → ⊥
