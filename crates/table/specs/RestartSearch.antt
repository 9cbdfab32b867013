-- Where a walk to an internal key begins in a block: at a restart, since the whole key is there.
use Rattle.std.specs.Prelude.{◌≡◌, ℕ, ◌<◌, Bool, true, false, List, [], ◌∷◌, length, drop}
use Rattle.std.specs.Prelude.{slice_index}
use Rattle.std.specs.Ordering.{is_lt}
use Rattle.block.specs.EncodedEntry.{Entry}
use Rattle.block.specs.BlockView.{BlockView}
use Rattle.ikey.specs.Order.{internal_cmp}
use Rattle.ikey.specs.Comparator.{KeyOrder}

-- whether the first entry, if there is one, is below this internal key
abbrev pub first_is_below : KeyOrder → List ℕ → List Entry → Bool
first_is_below cmp target [] = false
first_is_below cmp target (e ∷ es) = is_lt (internal_cmp cmp e.key target)

-- whether the entry at a restart, if there is one, is below this internal key
abbrev pub restart_is_below : KeyOrder → List ℕ → BlockView → ℕ → Bool
restart_is_below cmp target block restart =
    first_is_below cmp target (drop (slice_index block.restarts restart) block.entries)

-- the last restart whose key is below this internal key, or the first restart if there is none
pub record IsLastBelow (cmp : KeyOrder) (target : List ℕ) (block : BlockView) (restart : ℕ)
    : Type 0 where
  pub within : restart < length block.restarts
  pub below : 0 < restart → restart_is_below cmp target block restart ≡ true
  pub last : (later : ℕ) → restart < later → later < length block.restarts →
      restart_is_below cmp target block later ≡ false
