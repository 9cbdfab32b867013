-- Keys, one after the other in one buffer.
use Rattle.std.specs.Prelude.{◌≡◌, ℕ, zero, suc, ◌+◌, ◌-◌, ◌≤◌, List, [], ◌∷◌, length, take, drop}

-- the bytes from place `from` on, cut at each place where a key ends
abbrev pub cut_at : ℕ → List ℕ → List ℕ → List (List ℕ)
cut_at from [] bytes = []
cut_at from (end ∷ ends) bytes = take (end - from) bytes ∷ cut_at end ends (drop (end - from) bytes)

-- the places are the ends of keys that are together all bytes from place `from` on
abbrev pub AreKeyEnds : ℕ → List ℕ → List ℕ → Type 0
AreKeyEnds from [] bytes = bytes ≡ []
AreKeyEnds from (end ∷ ends) bytes = (from ≤ end) × (end ≤ from + length bytes)
    × AreKeyEnds end ends (drop (end - from) bytes)

-- where the key at a place begins
abbrev pub key_start : ℕ → List ℕ → ℕ → ℕ
key_start from ends zero = from
key_start from [] (suc i) = from
key_start from (end ∷ ends) (suc i) = key_start end ends i
