-- The list that is next in a merge.
use Rattle.std.specs.Prelude.{◌≡◌, ℕ, ◌+◌, true, List, [], ◌∷◌, take, drop, slice_get, slice_set}
use Rattle.std.specs.Prelude.{Option, Some, None}
use Rattle.std.specs.List.{AllByRecursion}
use Rattle.std.specs.Ordering.{is_le}
use Rattle.std.specs.declared.cmp.Ordering.TheVariants.{Less}
use Rattle.table.specs.EncodedEntry.{Entry}
use Rattle.table.specs.Order.{internal_cmp}
use Rattle.table.specs.Comparator.{KeyOrder}
use Rattle.table.specs.EntriesFrom.{NeverFalls}

-- the list's first entry, if it has one, is above this internal key
abbrev pub StartsAbove : KeyOrder → List ℕ → List Entry → Type 0
StartsAbove cmp key [] = Unit {0}
StartsAbove cmp key (e ∷ es) = internal_cmp cmp key e.key ≡ Less

-- the list's first entry, if it has one, is at or above this internal key
abbrev pub StartsFrom : KeyOrder → List ℕ → List Entry → Type 0
StartsFrom cmp key [] = Unit {0}
StartsFrom cmp key (e ∷ es) = is_le (internal_cmp cmp key e.key) ≡ true

-- The place of the list whose first entry comes next. Lists before it start above that entry, and
-- lists after it start at or above it.
pub record IsLeast (cmp : KeyOrder) (lists : List (List Entry)) (place : ℕ) : Type 0 where
  pub first : Entry
  pub others : List Entry
  pub here : slice_get lists place ≡ Some (first ∷ others)
  pub before : AllByRecursion (StartsAbove cmp first.key) (take place lists)
  pub behind : AllByRecursion (StartsFrom cmp first.key) (drop (place + 1) lists)

-- One list has lost its first entry, the one that comes next. The others are unchanged.
pub record IsAdvanced (cmp : KeyOrder) (old new : List (List Entry)) : Type 0 where
  pub place : ℕ
  pub least : IsLeast cmp old place
  pub lost : new ≡ slice_set old place least.others

-- the place of the list whose first entry comes next; None if no list has an entry
abbrev pub IsLeastPlace : KeyOrder → List (List Entry) → Option ℕ → Type 0
IsLeastPlace cmp lists None = AllByRecursion (λ list. list ≡ []) lists
IsLeastPlace cmp lists (Some place) = IsLeast cmp lists place

-- no list falls, and this is the place of the list whose first entry comes next
pub record IsMerging (cmp : KeyOrder) (lists : List (List Entry)) (place : Option ℕ) : Type 0 where
  pub ordered : AllByRecursion (NeverFalls cmp) lists
  pub least : IsLeastPlace cmp lists place
