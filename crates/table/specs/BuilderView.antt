-- A table that is being written.
use Rattle.std.specs.Prelude.{◌≡◌, ℕ, List, [], ◌∷◌}
use Rattle.std.specs.declared.cmp.Ordering.TheVariants.{Less}
use Rattle.ikey.specs.Order.{internal_cmp}
use Rattle.ikey.specs.Comparator.{KeyOrder}
use Rattle.block.specs.EncodedEntry.{Entry}
use Rattle.block.specs.BuilderView.{last_key}
use Rattle.table.specs.declared.options.Options.{Options}

-- the options of a table, and its entries so far
pub record TableBuilding : Type 0 where
  pub options : Options
  pub entries : List Entry

-- the key is above the last of these entries, if there is one
abbrev pub IsAboveLast : KeyOrder → List Entry → List ℕ → Type 0
IsAboveLast cmp [] key = Unit {0}
IsAboveLast cmp (e ∷ es) key = internal_cmp cmp (last_key e.key es) key ≡ Less
