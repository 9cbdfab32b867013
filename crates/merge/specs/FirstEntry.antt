-- How entries begin.
use Rattle.std.specs.Prelude.{Bool, false, List, [], ◌∷◌}
use Rattle.table.specs.EncodedEntry.{Entry}

-- whether there is a first entry, and it passes a test
abbrev pub first_is : (Entry → Bool) → List Entry → Bool
first_is test [] = false
first_is test (e ∷ es) = test e
