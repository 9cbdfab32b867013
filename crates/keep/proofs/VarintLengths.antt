-- How long a varint is, counted group by group.
use Rattle.std.proofs.Common.{◌≡◌, ℕ, zero, suc, ◌+◌, ◌*◌, ◌/◌, ◌%◌, ◌<◌, ◌≤◌, ◌^◌, [], ◌∷◌, length, refl, ap, arith}
use Rattle.std.proofs.lemmas.Bool.{lt-ltb, le-ltb}
use Rattle.coding.specs.Varint.{groups, varint}

-- where the numbers end of which n + 1 groups are what is left of 64 bits
abbrev pub limit_of : ℕ → ℕ
limit_of zero = 2
limit_of (suc n) = 128 * limit_of n

groups_small : (n x : ℕ) → x < 128 → groups n x ≡ x ∷ []
groups_small zero x lt = refl
groups_small (suc n) x lt = rw (lt-ltb x 128 lt) refl

groups_large : (n x : ℕ) → 128 ≤ x → groups (suc n) x ≡ (128 + x % 128) ∷ groups n (x / 128)
groups_large n x le = rw (le-ltb x 128 le) refl

-- len groups of a number are counted, and the one that is counted now begins what is left
pub record IsCounted (number len rest : ℕ) : Type 0 where
  pub left : ℕ
  pub place : left + len ≡ 10
  pub below : rest < limit_of left
  pub all : length (varint number) + 1 ≡ len + length (groups left rest)

pub counted_first : (number : ℕ) → number < 2 ^ 64 → IsCounted number 1 number
unfolding varint
counted_first number lt = record { left = 9; place = refl; below = omega arith; all = omega arith }

more_by : (left number len rest : ℕ) → left + len ≡ 10 → rest < limit_of left → length (varint number) + 1 ≡ len + length (groups left rest) → 128 ≤ rest → IsCounted number (len + 1) (rest / 128)
more_by zero number len rest place below all large = absurd (omega arith)
more_by (suc n) number len rest place below all large = record {
  left = n;
  place = omega arith;
  below = omega arith;
  all = omega (arith, ap length (groups_large n rest large));
}

pub counted_more : (number len rest : ℕ) → IsCounted number len rest → 128 ≤ rest → IsCounted number (len + 1) (rest / 128)
counted_more number len rest h large = more_by h.left number len rest h.place h.below h.all large

pub counted_last : (number len rest : ℕ) → IsCounted number len rest → rest < 128 → len ≡ length (varint number)
counted_last number len rest h small = omega (arith, h.all, ap length (groups_small h.left rest small))
