-- Places in what is lent.
use Rattle.std.specs.Prelude.{◌-◌, nat_le, Bool, ◌&&◌, List, length, take, drop}
use Rattle.c_api.specs.declared.place.Place.{Place}

-- whether all of a place lies within items
abbrev pub is_within : {A : Type 0} → List A → Place → Bool
is_within items place =
    nat_le place.from (length items) && nat_le place.len (length items - place.from)

-- the items at a place
abbrev pub part_at : {A : Type 0} → List A → Place → List A
part_at items place = take place.len (drop place.from items)
