-- The user keys that begin with given bytes.
use Rattle.std.specs.Prelude.{◌≡◌, ◌↔◌, ℕ, List, length, take, Option, Some}
use Rattle.table.specs.TableBytes.{AreBytes}
use Rattle.table.specs.Bytewise.{bytewise_cmp}
use Rattle.reads.specs.Ranges.{IsIn}

-- a key begins with these bytes
abbrev pub Begins : List ℕ → List ℕ → Type 0
Begins prefix key = take (length prefix) key ≡ prefix

-- By unsigned bytes, the keys from `prefix` on and before `end`, if there is an end, are exactly
-- those that begin with `prefix`.
abbrev pub IsPrefixEnd : List ℕ → Option (List ℕ) → Type 0
IsPrefixEnd prefix end = (key : List ℕ) → AreBytes key →
    IsIn bytewise_cmp (record { lower = Some prefix; upper = end }) key ↔ Begins prefix key
