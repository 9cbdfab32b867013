-- A seek of each of several lists.
use Rattle.std.specs.Prelude.{ℕ, List, [], ◌∷◌, map}
use Rattle.table.specs.Comparator.{KeyOrder}
use Rattle.table.specs.EncodedEntry.{Entry}
use Rattle.table.specs.EntriesFrom.{entries_from, LeavesFrom}

-- of each list the entries from the first one at or above this internal key
abbrev pub each_from : KeyOrder → List ℕ → List (List Entry) → List (List Entry)
each_from cmp target lists = map (entries_from cmp target) lists

-- of each list what a refused seek to this internal key may leave
abbrev pub EachLeavesFrom : KeyOrder → List ℕ → List (List Entry) → List (List Entry) → Type 0
EachLeavesFrom cmp target [] [] = Unit {0}
EachLeavesFrom cmp target [] (new ∷ news) = ⊥
EachLeavesFrom cmp target (old ∷ olds) [] = ⊥
EachLeavesFrom cmp target (old ∷ olds) (new ∷ news) = LeavesFrom cmp target old new
    × EachLeavesFrom cmp target olds news
