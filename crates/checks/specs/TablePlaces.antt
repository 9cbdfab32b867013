-- Held tables that are kept, and those that are read.
use Rattle.std.specs.Prelude.{◌≡◌, ℕ, List, [], ◌∷◌, map, Contains, Option, Some, None}
use Rattle.std.specs.Prelude.{Result, Ok, Err, IfSome}
use Rattle.std.specs.List.{filter_map}
use Rattle.ikey.specs.Answers.{fault}
use Rattle.ikey.specs.fault.Fault.{Fault}
use Rattle.ikey.specs.fault.FaultName.TheVariants.{Missing}
use Rattle.ikey.specs.Comparator.{KeyOrder}
use Rattle.folder.specs.Calls.{ToldFiles}
use Rattle.folder.specs.LoadedTables.{IsLoaded}
use Rattle.reads.specs.Tables.{NumberedContents}
use Rattle.checks.specs.HeldBytes.{IsToldTable}

-- ---- which are kept

-- the place of this number has no table, or the one of the number as a folder tells it
abbrev pub IsToldPlace : KeyOrder → ToldFiles → ℕ × Option NumberedContents → ℕ → Type 0
IsToldPlace cmp tells place number = (place.0 ≡ number)
    × IfSome place.1 (λ (t : NumberedContents). IsToldTable cmp tells t number)

-- the place of a number has no table, or one of those that are held, of this number
abbrev pub HasKept : List NumberedContents → ℕ × Option NumberedContents → Type 0
HasKept held (number, None) = Unit {0}
HasKept held (number, Some t) = (t.number ≡ number) × Contains held t

-- the numbers of the places
abbrev pub place_numbers : List (ℕ × Option NumberedContents) → List ℕ
place_numbers places = map (λ (p : ℕ × Option NumberedContents). p.0) places

-- the number of a place that has no table
abbrev pub wanted_number : ℕ × Option NumberedContents → Option ℕ
wanted_number (number, None) = Some number
wanted_number (number, Some t) = None

-- the numbers of the places that have no table
abbrev pub wanted_numbers : List (ℕ × Option NumberedContents) → List ℕ
wanted_numbers places = filter_map wanted_number places

-- the tables of all places; each place without a table takes the next of those that were read
abbrev pub placed_tables : List (ℕ × Option NumberedContents) → List NumberedContents →
    List NumberedContents
placed_tables [] fresh = []
placed_tables ((number, Some t) ∷ places) fresh = t ∷ placed_tables places fresh
placed_tables ((number, None) ∷ places) [] = placed_tables places []
placed_tables ((number, None) ∷ places) (t ∷ fresh) = t ∷ placed_tables places fresh

-- ---- which are read

-- the tables of these numbers; None if one of them is missing
abbrev pub IsLoadedIfThere : ToldFiles → List ℕ → Result (Option (List (ℕ × List ℕ))) Fault → Type 0
IsLoadedIfThere tells numbers (Ok (Some loaded)) = IsLoaded tells numbers (Ok loaded)
IsLoadedIfThere tells numbers (Ok None) = IsLoaded tells numbers (Err (fault Missing))
IsLoadedIfThere tells numbers (Err e) = ⊥
