-- Which numbers were claimed, by the claim words.
use Rattle.std.specs.Prelude.{ℕ, ◌+◌, ◌*◌, ◌/◌, ◌%◌, cond, ltb, ◌&&◌, List, [], ◌∷◌, slice_index}

-- the job at place c of share k, of w shares
abbrev pub job_at : ℕ → ℕ → ℕ → ℕ
job_at w k c = k + c * w

-- the sum of f over the list
abbrev pub total : {A : Type 0} → (A → ℕ) → List A → ℕ
total f [] = 0
total f (x ∷ xs) = f x + total f xs

-- 1 if x is below m, else 0
abbrev pub once_below : ℕ → ℕ → ℕ
once_below x m = cond (ltb x m) 1 0

-- The claim word of share k of w. Why: there are 64 words in a row, and those in use are as far
-- apart as they can be.
unfoldable pub word_of : ℕ → ℕ → ℕ
word_of w k = k * (64 / w)

-- how often share k was claimed from
abbrev pub claims_of : ℕ → List ℕ → ℕ → ℕ
claims_of w words k = slice_index words (word_of w k)

-- 1 if x is below n and among the first jobs of its share, share k being claimed `claims k` times;
-- else 0
abbrev pub claim_count : ℕ → ℕ → (ℕ → ℕ) → ℕ → ℕ
claim_count n w claims x = cond (ltb x n && ltb (x / w) (claims (x % w))) 1 0
