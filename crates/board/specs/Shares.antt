-- How jobs are shared among w seats. Shares and the places of their jobs are counted from 0.
use Rattle.std.specs.Prelude.{◌≡◌, ℕ, ◌+◌, ◌%◌, cond, ◌==◌, List, [], ◌∷◌}

-- 1 if the numbers are the same, else 0
abbrev pub one_if_same : ℕ → ℕ → ℕ
one_if_same x y = cond (x == y) 1 0

-- how often x is in the list
abbrev pub times : ℕ → List ℕ → ℕ
times x [] = 0
times x (y ∷ ys) = one_if_same x y + times x ys

-- x is a job of share k
abbrev pub IsInShare : ℕ → ℕ → ℕ → Type 0
IsInShare w k x = x % w ≡ k

-- the share in turn after i others, beginning with that of seat s and going round all w
abbrev pub share_in_turn : ℕ → ℕ → ℕ → ℕ
share_in_turn w s i = (s + i) % w
