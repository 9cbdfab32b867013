-- Tables, found by a map from their numbers to their places.
use Rattle.std.specs.Prelude.{◌≡◌, ℕ, suc, nat_eq, if◌then◌else◌, List, [], ◌∷◌, Option, Some, None}
use Rattle.std.specs.Map.{lookup}
use Rattle.std.specs.Ordering.{nat_cmp}
use Rattle.std.specs.BTreeMap.{is_at}
use Rattle.reads.specs.Tables.{NumberedContents}

-- the place of the first table of a number, if the first of all is at `place`
abbrev pub first_place : List NumberedContents → ℕ → ℕ → Option ℕ
first_place [] place number = None
first_place (t ∷ tables) place number = if nat_eq t.number number then Some place else first_place
    tables (suc place) number

-- under each number is the place of the first table that has it
abbrev pub AreFirstPlaces : List NumberedContents → List (ℕ × ℕ) → Type 0
AreFirstPlaces tables places = (number : ℕ) → lookup (is_at (nat_cmp number)) places
    ≡ first_place tables 0 number
