-- The arrays of a run, entry by entry.
use Rattle.std.proofs.Common.{◌≡◌, ℕ, ◌+◌, ◌<◌, List, [], ◌∷◌, ◌++◌, map, take, length, get_or, Some, sym, ap, ◌∙◌}
use Rattle.std.specs.Prelude.{flat_map, slice_get}
use Rattle.std.specs.Option.{option_map}
use Rattle.std.proofs.lemmas.List.{take_more, flat_map_more, map-append}
use Rattle.std.proofs.lemmas.Option.{same_Some, slice_get-get_or}
use Rattle.reads.specs.EncodedEntry.{Entry}
use Rattle.c_api.specs.Runs.{bytes_of}

-- one more of a list that is seen, if it is what a place has
pub map_got : {X Y : Type 0} (f : X → Y) (xs : List X) (i : ℕ) (d : X) (y : Y) → i < length xs → option_map f (slice_get xs i) ≡ Some y
    → map f (take (i + 1) xs) ≡ map f (take i xs) ++ y ∷ []
map_got f xs i d y lt h =
    ap (map f) (take_more xs i d lt) ∙ map-append f (take i xs) (get_or xs i d ∷ [])
    ∙ ap (λ (z : _). map f (take i xs) ++ z ∷ []) (same_Some (f (get_or xs i d)) y (ap (option_map f) (sym (slice_get-get_or xs i d lt)) ∙ h))

-- the same of items that are joined
pub flat_map_got : {X Y : Type 0} (f : X → List Y) (xs : List X) (i : ℕ) (d : X) (ys : List Y) → i < length xs → option_map f (slice_get xs i) ≡ Some ys
    → flat_map f (take (i + 1) xs) ≡ flat_map f (take i xs) ++ ys
flat_map_got f xs i d ys lt h =
    ap (flat_map f) (take_more xs i d lt) ∙ sym (flat_map_more f [] (take i xs) (get_or xs i d))
    ∙ ap (λ (z : _). flat_map f (take i xs) ++ z) (same_Some (f (get_or xs i d)) ys (ap (option_map f) (sym (slice_get-get_or xs i d lt)) ∙ h))

module _ (xs : List Entry) (i : ℕ) (k v : List ℕ) (lt : i < length xs) (key : option_map (λ (e : Entry). e.key) (slice_get xs i) ≡ Some k) (value : option_map (λ (e : Entry). e.value) (slice_get xs i) ≡ Some v) where
  abbrev here : Entry
  here = get_or xs i (record { key = k; value = v })

  at : slice_get xs i ≡ Some here
  at = slice_get-get_or xs i (record { key = k; value = v }) lt

  keyed : here.key ≡ k
  keyed = same_Some here.key k (ap (option_map (λ (e : Entry). e.key)) (sym at) ∙ key)

  valued : here.value ≡ v
  valued = same_Some here.value v (ap (option_map (λ (e : Entry). e.value)) (sym at) ∙ value)

  -- the bytes of one more entry
  pub bytes_more : bytes_of (take (i + 1) xs) ≡ bytes_of (take i xs) ++ (k ++ v)
  bytes_more =
      let done : List ℕ = bytes_of (take i xs) in
      ap bytes_of (take_more xs i (record { key = k; value = v }) lt)
      ∙ sym (flat_map_more (λ (e : Entry). e.key ++ e.value) [] (take i xs) here)
      ∙ ap (λ (a : List ℕ). done ++ (a ++ here.value)) keyed
      ∙ ap (λ (b : List ℕ). done ++ (k ++ b)) valued
