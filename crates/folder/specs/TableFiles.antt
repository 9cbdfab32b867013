-- Tables as files with their names.
use Rattle.std.specs.Prelude.{ℕ, List, map}
use Rattle.std.specs.Global.{Vec}
use Rattle.folder.specs.Names.{table_name}

-- tables by their numbers as files by their names
abbrev pub named_tables : List (ℕ × List ℕ) → List (List ℕ × List ℕ)
named_tables tables = map (λ (t : ℕ × List ℕ). (table_name t.0, t.1)) tables

-- tables of the code as files by their names
abbrev pub table_files : List (ℕ × Vec ℕ) → List (List ℕ × List ℕ)
table_files tables = named_tables (map (λ (t : ℕ × Vec ℕ). (t.0, t.1.items)) tables)
