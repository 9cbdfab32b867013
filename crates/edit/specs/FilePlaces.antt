-- Files in a list, and a map from their numbers to their places.
use Rattle.std.specs.Prelude.{◌≡◌, ℕ, suc, List, [], ◌∷◌, Option, Some, None, slice_get}
use Rattle.std.specs.List.Sorted.{IsStrictlySortedBy}
use Rattle.std.specs.Map.{keys_of, lookup, set_value}
use Rattle.std.specs.Option.{option_map}
use Rattle.std.specs.Ordering.{nat_cmp}
use Rattle.std.specs.BTreeMap.{is_at, insert_entry}
use Rattle.edit.specs.declared.meta.NewFile.{NewFile}

-- the number of the file at a place
abbrev pub number_at : List NewFile → ℕ → Option ℕ
number_at files i = option_map (λ (f : NewFile). f.meta.number) (slice_get files i)

-- the place of a number in the map
abbrev pub place_under : List (ℕ × ℕ) → ℕ → Option ℕ
place_under places n = lookup (is_at (nat_cmp n)) places

-- the map's numbers rise, and it has each file's number with the file's place, and no other
pub record AreFilePlaces (files : List NewFile) (places : List (ℕ × ℕ)) : Type 0 where
  pub rises : IsStrictlySortedBy nat_cmp (keys_of places)
  pub sound : (n i : ℕ) → place_under places n ≡ Some i → number_at files i ≡ Some n
  pub complete : (n i : ℕ) → number_at files i ≡ Some n → place_under places n ≡ Some i

-- a number with its file before others, if there is a file
abbrev pub with_found : ℕ → Option NewFile → List (ℕ × NewFile) → List (ℕ × NewFile)
with_found n None es = es
with_found n (Some f) es = (n, f) ∷ es

-- each number with the file at its place
abbrev pub numbered_files : List NewFile → List (ℕ × ℕ) → List (ℕ × NewFile)
numbered_files files [] = []
numbered_files files (p ∷ places) =
    with_found p.0 (slice_get files p.1) (numbered_files files places)

-- the numbers of files, with places that count from i
abbrev pub file_places_from : ℕ → List NewFile → List (ℕ × ℕ)
file_places_from i [] = []
file_places_from i (f ∷ files) = (f.meta.number, i) ∷ file_places_from (suc i) files

-- the map after a place is put under a number, replacing one that was there
abbrev pub with_place : List (ℕ × ℕ) → ℕ × ℕ → List (ℕ × ℕ)
with_place places p = insert_entry nat_cmp places p.0 p.1

-- the map after the file at i, if there is one, got the place i, if its number is in the map
abbrev pub with_place_of : Option NewFile → ℕ → List (ℕ × ℕ) → List (ℕ × ℕ)
with_place_of None i places = places
with_place_of (Some f) i places = set_value (is_at (nat_cmp f.meta.number)) places i
