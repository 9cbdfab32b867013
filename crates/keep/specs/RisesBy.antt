-- Whether a list rises.
use Rattle.std.specs.Prelude.{Bool, true, ◌&&◌, List, ◌∷◌}

-- whether each element of a list is below the next one
abbrev pub rises_by : {A : Type 0} → (A → A → Bool) → List A → Bool
rises_by is_below (x ∷ y ∷ more) = is_below x y && rises_by is_below (y ∷ more)
rises_by is_below _ = true
