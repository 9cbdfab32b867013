-- Who is told of what is done.
use Rattle.std.specs.Prelude.{◌≡◌, ℕ, List, [], ◌∷◌}

-- somebody was told these texts, one after the other
abbrev pub AreTold : {W : Type 0} → (W → List ℕ → W → Type 0) → W → List (List ℕ) → W → Type 0
AreTold tells told [] now = now ≡ told
AreTold {W} tells told (text ∷ texts) now = (next : W) × tells told text next
    × AreTold tells next texts now
