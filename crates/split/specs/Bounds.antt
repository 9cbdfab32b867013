-- A user key and a bound of a range.
use Rattle.std.specs.Prelude.{ℕ, Bool, List, Option}
use Rattle.std.specs.Option.{option_map_or}
use Rattle.std.specs.Ordering.{is_lt}
use Rattle.table.specs.Comparator.{KeyOrder}

-- whether a user key is before a bound; `otherwise` if there is no bound
abbrev pub is_user_before : KeyOrder → Option (List ℕ) → Bool → List ℕ → Bool
is_user_before cmp bound otherwise user =
    option_map_or (λ limit. is_lt (cmp user limit)) bound otherwise
