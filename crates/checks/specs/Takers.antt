-- What a taker is told that says whether to go on.
use Rattle.std.specs.Prelude.{◌≡◌, ◌⊎◌, Bool, true, List, [], ◌∷◌}

-- A taker was told these, one after the other. After each but the last one it said to go on; `goes`
-- is what it said after the last, and true if there was none.
abbrev pub AreToldInTurn : {T X : Type 0} → (T → X → Bool → T → Type 0) → T → List X → Bool → T →
    Type 0
AreToldInTurn tells old [] goes new = (goes ≡ true) × (new ≡ old)
AreToldInTurn {T} tells old (x ∷ xs) goes new =
    ((xs ≡ []) × tells old x goes new)
    ⊎ ((next : T) × tells old x true next × AreToldInTurn tells next xs goes new)
