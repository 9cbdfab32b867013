-- A block that is being built.
use Rattle.std.specs.Prelude.{ℕ, List, [], ◌∷◌, ◌++◌}
use Rattle.block.specs.EncodedEntry.{Entry}

-- the number of entries from one restart to the next, and the entries so far
pub record BlockBuilding : Type 0 where
  pub interval : ℕ
  pub entries : List Entry

-- the list with one more entry at its end
abbrev pub with_entry : List Entry → List ℕ → List ℕ → List Entry
with_entry entries key value = entries ++ record { key = key; value = value } ∷ []

-- the key of the last entry; `before` if there is none
abbrev pub last_key : List ℕ → List Entry → List ℕ
last_key before [] = before
last_key before (e ∷ es) = last_key e.key es
