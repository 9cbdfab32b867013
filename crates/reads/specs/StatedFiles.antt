-- What a version states of a file, and of its table.
use Rattle.std.specs.Prelude.{◌≡◌, ℕ, ◌-◌, nat_lt, Bool, false, ◌&&◌, List, length, slice_get}
use Rattle.std.specs.Prelude.{Option, Some, None, Ok}
use Rattle.std.specs.Option.{option_map}
use Rattle.ikey.specs.Comparator.{KeyOrder}
use Rattle.table.specs.TableContents.{Contents, contents_reading}
use Rattle.table.specs.EntriesFrom.{EntriesRise}
use Rattle.edit.specs.declared.meta.FileMeta.{FileMeta}
use Rattle.reads.specs.Bounds.{has_bounds}
use Rattle.reads.specs.Tables.{NumberedContents, table_of_number}
use Rattle.reads.specs.Lawful.{IsBelowNextFile}

-- whether a number is below next file; false if next file was never set
abbrev pub is_below : Option ℕ → ℕ → Bool
is_below None number = false
is_below (Some next) number = nat_lt number next

-- whether the version states this length, first key and last key of a file, and its number is below
-- next file
abbrev pub matches_metadata : Option ℕ → FileMeta → ℕ → List ℕ → List ℕ → Bool
matches_metadata next f size smallest largest =
    is_below next f.number && has_bounds f size smallest largest

-- a file's table is what the version states, and its number is below next file
pub record IsStatedFile (cmp : KeyOrder) (tables : List NumberedContents)
    (next : Option ℕ) (f : FileMeta) : Type 0 where
  pub table : Contents
  pub there : table_of_number tables f.number ≡ Some table
  pub accepted : contents_reading cmp table.bytes ≡ Ok table
  pub rising : EntriesRise cmp table.entries
  pub size : f.size ≡ length table.bytes
  pub smallest : option_map (λ e. e.key) (slice_get table.entries 0) ≡ Some f.smallest
  pub largest : option_map (λ e. e.key) (slice_get table.entries (length table.entries - 1))
      ≡ Some f.largest
  pub below_next : IsBelowNextFile next f.number
