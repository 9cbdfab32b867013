-- Ranges of user keys, whose bounds lie in lent bytes.
use Rattle.std.specs.Prelude.{ℕ, nat_eq, Bool, ◌&&◌, ◌||◌, if◌then◌else◌, List, Option, None}
use Rattle.std.specs.Prelude.{Some}
use Rattle.reads.specs.Ranges.{KeyRange}
use Rattle.c_api.specs.Places.{is_within, part_at}
use Rattle.c_api.specs.declared.place.Place.{Place}
use Rattle.c_api.specs.declared.user_range.UserRange.{UserRange}

-- whether a bound lies in what is lent, if there is one
abbrev pub is_bound : List ℕ → ℕ → Place → Bool
is_bound keys has place = nat_eq has 0 || is_within keys place

-- whether the bounds of a range lie in what is lent
abbrev pub is_range : List ℕ → UserRange → Bool
is_range keys r = is_bound keys r.has_lower r.lower && is_bound keys r.has_upper r.upper

-- the bound at a place, if there is one
abbrev pub bound_at : List ℕ → ℕ → Place → Option (List ℕ)
bound_at keys has place = if nat_eq has 0 then None else Some (part_at keys place)

-- the range with these bounds
abbrev pub range_in : List ℕ → UserRange → KeyRange
range_in keys r = record {
  lower = bound_at keys r.has_lower r.lower;
  upper = bound_at keys r.has_upper r.upper;
}
