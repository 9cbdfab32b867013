-- The tables of a version's files.
use Rattle.std.specs.Prelude.{ℕ, nat_eq, List, [], find, Option, Result, Ok, Err, if◌then◌else◌}
use Rattle.std.specs.List.{flat_map, list_all}
use Rattle.std.specs.Option.{option_map, option_map_or, is_some}
use Rattle.ikey.specs.Answers.{fault}
use Rattle.ikey.specs.fault.Fault.{Fault}
use Rattle.ikey.specs.fault.FaultName.TheVariants.{Missing}
use Rattle.table.specs.EncodedEntry.{Entry}
use Rattle.table.specs.TableContents.{Contents}
use Rattle.edit.specs.declared.meta.NewFile.{NewFile}

-- a table: the number of its file, and what it holds
pub record NumberedContents : Type 0 where
  pub number : ℕ
  pub contents : Contents

-- the table of a number: the first that has it
abbrev pub table_of_number : List NumberedContents → ℕ → Option Contents
table_of_number tables number =
    option_map (λ t. t.contents) (find (λ t. nat_eq t.number number) tables)

-- the entries of the table of a number; none if there is no such table
abbrev pub table_entries : List NumberedContents → ℕ → List Entry
table_entries tables number = option_map_or (λ t. t.entries) (table_of_number tables number) []

-- all entries of the tables of files
abbrev pub all_entries : List NumberedContents → List NewFile → List Entry
all_entries tables files = flat_map (λ f. table_entries tables f.meta.number) files

-- Missing if one of the files has no table
abbrev pub tables_test : List NumberedContents → List NewFile → Result (Unit {0}) Fault
tables_test tables files = if list_all (λ f. is_some (table_of_number tables f.meta.number)) files
    then Ok tt else Err (fault Missing)
