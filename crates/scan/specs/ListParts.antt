-- A list in parts.
use Rattle.std.specs.Prelude.{ℕ, List, [], ◌∷◌, take, drop}

-- a list in parts of these lengths, one after the other
abbrev pub in_parts : {X : Type 0} → List ℕ → List X → List (List X)
in_parts [] xs = []
in_parts (n ∷ ns) xs = take n xs ∷ in_parts ns (drop n xs)
