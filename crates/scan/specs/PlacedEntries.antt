-- Entries with the places that they were found at.
use Rattle.std.specs.Prelude.{ℕ, nat_eq, Bool, ◌&&◌}
use Rattle.block.specs.EncodedEntry.{Entry}
use Rattle.scan.specs.declared.placed_entry.PlacedEntry.{PlacedEntry}
use Rattle.table.specs.Key.{sequence_of}

-- an entry of the file of this level and number
abbrev pub placed : ℕ → ℕ → Entry → PlacedEntry
placed level file entry = record { level = level; file = file; entry = entry }

-- whether two were found in one file, and have one sequence
abbrev pub same_place : PlacedEntry → PlacedEntry → Bool
same_place a b = nat_eq a.file b.file
    && nat_eq (sequence_of a.entry.key) (sequence_of b.entry.key)
