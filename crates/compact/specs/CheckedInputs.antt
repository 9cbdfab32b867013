-- Checked tables, as those of inputs.
use Rattle.std.specs.Prelude.{◌≡◌, true, List, [], ◌∷◌, Ok}
use Rattle.ikey.specs.Comparator.{KeyOrder}
use Rattle.table.specs.TableContents.{Contents, contents_reading}
use Rattle.pick.specs.declared.picked_inputs.InputFile.{InputFile}
use Rattle.compact.specs.Inputs.{table_matches_metadata}

-- each table is that of the input at its place: its bytes read as it, and it is as the version
-- states
abbrev pub AreInputs : KeyOrder → List InputFile → List Contents → Type 0
AreInputs cmp [] [] = Unit {0}
AreInputs cmp [] (t ∷ ts) = ⊥
AreInputs cmp (i ∷ is) [] = ⊥
AreInputs cmp (i ∷ is) (t ∷ ts) = (contents_reading cmp t.bytes ≡ Ok t)
    × ((table_matches_metadata i.meta t ≡ true) × AreInputs cmp is ts)
