-- Lists of entries that are still to come.
use Rattle.std.specs.Prelude.{◌≡◌, ◌⊎◌, ℕ, true, if◌then◌else◌, List, [], ◌∷◌}
use Rattle.std.specs.List.{AllByRecursion}
use Rattle.std.specs.Ordering.{is_le, is_lt}
use Rattle.std.specs.declared.cmp.Ordering.TheVariants.{Less}
use Rattle.block.specs.EncodedEntry.{Entry}
use Rattle.ikey.specs.Order.{internal_cmp}
use Rattle.ikey.specs.Comparator.{KeyOrder}

-- each entry's internal key is below those of all later ones
abbrev pub EntriesRise : KeyOrder → List Entry → Type 0
EntriesRise cmp [] = Unit {0}
EntriesRise cmp (e ∷ es) = AllByRecursion (λ f. internal_cmp cmp e.key f.key ≡ Less) es
    × EntriesRise cmp es

-- each entry's internal key is at or below those of all later ones
abbrev pub NeverFalls : KeyOrder → List Entry → Type 0
NeverFalls cmp [] = Unit {0}
NeverFalls cmp (e ∷ es) = AllByRecursion (λ f. is_le (internal_cmp cmp e.key f.key) ≡ true) es
    × NeverFalls cmp es

-- the entries from the first one at or above this internal key
abbrev pub entries_from : KeyOrder → List ℕ → List Entry → List Entry
entries_from cmp target [] = []
entries_from cmp target (e ∷ es) = if is_lt (internal_cmp cmp e.key target) then entries_from cmp
    target es else e ∷ es

-- What a refused seek may leave: the entries in their order, less some that are below the target.
abbrev pub LeavesFrom : KeyOrder → List ℕ → List Entry → List Entry → Type 0
LeavesFrom cmp target [] new = new ≡ []
LeavesFrom cmp target (e ∷ es) new =
    ((internal_cmp cmp e.key target ≡ Less) × LeavesFrom cmp target es new)
    ⊎ ((left : List Entry) × ((new ≡ e ∷ left) × LeavesFrom cmp target es left))
