-- The boundaries between ranges of user keys.
use Rattle.std.specs.Prelude.{◌≡◌, ℕ, ◌<◌, List, length, AllPairs}
use Rattle.std.specs.declared.cmp.Ordering.TheVariants.{Less}
use Rattle.table.specs.Comparator.{KeyOrder}
use Rattle.split.specs.declared.split.TheConstants.{MAX_RANGES}

-- each key is before all later ones
abbrev pub KeysRise : KeyOrder → List (List ℕ) → Type 0
KeysRise cmp keys = AllPairs (λ key later. cmp key later ≡ Less) keys

-- the boundaries of a split: at most 4,095 user keys that rise strictly
pub record IsSplit (cmp : KeyOrder) (boundaries : List (List ℕ)) : Type 0 where
  pub few : length boundaries < MAX_RANGES
  pub rising : KeysRise cmp boundaries
