-- What two ranges have in common.
use Rattle.std.specs.Prelude.{◌≡◌, ◌↔◌, ℕ, Bool, true, List}
use Rattle.ikey.specs.Comparator.{KeyOrder}
use Rattle.table.specs.EncodedEntry.{Entry}
use Rattle.reads.specs.MergedLists.{entries_of_lists}
use Rattle.split.specs.Ranges.{KeyRange, range_at, IsIn}
use Rattle.reads.specs.TableOrder.{AreFallingIn}

-- the user key is in both ranges
abbrev pub IsInBoth : KeyOrder → KeyRange → KeyRange → List ℕ → Type 0
IsInBoth cmp one two key = IsIn cmp one key × IsIn cmp two key

-- whether the entries of the lists, read one after the other, fall in what `within` has of the
-- range of this number
abbrev pub TellsRange : KeyOrder → KeyRange → List (List ℕ) → List (List Entry) → ℕ → Bool → Type 0
TellsRange cmp within boundaries lists number falls = (falls ≡ true)
    ↔ AreFallingIn (IsInBoth cmp within (range_at boundaries number)) (entries_of_lists lists)
