-- The entries of a range of user keys.
use Rattle.std.specs.Prelude.{◌≡◌, ◌↔◌, ℕ, Bool, true, not, ◌&&◌, List, filter}
use Rattle.std.specs.Option.{option_map_or}
use Rattle.std.specs.Ordering.{is_lt}
use Rattle.table.specs.Key.{user_of}
use Rattle.table.specs.Comparator.{KeyOrder}
use Rattle.table.specs.EncodedEntry.{Entry}
use Rattle.split.specs.Ranges.{KeyRange, IsIn}

-- whether a range holds a user key: it is at or after the lower bound, if there is one, and before
-- the upper bound, if there is one
abbrev pub is_in_range : KeyOrder → KeyRange → List ℕ → Bool
is_in_range cmp range user =
    option_map_or (λ lower. not (is_lt (cmp user lower))) range.lower true
    && option_map_or (λ upper. is_lt (cmp user upper)) range.upper true

-- the entries whose user keys the range holds
abbrev pub entries_in : KeyOrder → KeyRange → List Entry → List Entry
entries_in cmp range entries = filter (λ e. is_in_range cmp range (user_of e.key)) entries

-- the test holds of just the user keys that a split states of a range
abbrev pub HoldsLaw : KeyOrder → Type 0
HoldsLaw cmp = (range : KeyRange) (user : List ℕ) → (is_in_range cmp range user ≡ true)
    ↔ IsIn cmp range user
