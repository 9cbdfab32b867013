-- Files in version order, of which a file can overlap only the first ones.
use Rattle.std.specs.Prelude.{nat_eq, nat_lt, Bool, true, ◌&&◌, ◌||◌, List, [], ◌∷◌}
use Rattle.std.specs.Ordering.{is_le}
use Rattle.table.specs.Comparator.{KeyOrder}
use Rattle.table.specs.Order.{internal_cmp}
use Rattle.folder.specs.meta.NewFile.{NewFile}
use Rattle.faults.specs.FileFaults.{lies_before}

-- whether a file is above another one, or at its level and doesn't begin after it
abbrev pub is_in_order : KeyOrder → NewFile → NewFile → Bool
is_in_order cmp f g =
    nat_lt f.level g.level
    || (nat_eq f.level g.level && is_le (internal_cmp cmp f.meta.smallest g.meta.smallest))

-- whether each file is so to the next one
abbrev pub are_in_order : KeyOrder → List NewFile → Bool
are_in_order cmp [] = true
are_in_order cmp (f ∷ []) = true
are_in_order cmp (f ∷ g ∷ files) = is_in_order cmp f g && are_in_order cmp (g ∷ files)

-- whether a file overlaps neither another one nor any that comes after that in order: it is at
-- level 0, or above the other, or at its level and ends before it begins
abbrev pub is_past : KeyOrder → NewFile → NewFile → Bool
is_past cmp f g =
    nat_eq f.level 0
    || (nat_lt f.level g.level || (nat_eq f.level g.level && lies_before cmp f.meta g.meta))
