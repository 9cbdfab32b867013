-- Lists of bytes, and numbers at their front.
use Rattle.std.proofs.Common.{◌≡◌, ℕ, ◌+◌, ◌^◌, ◌<◌, ◌≤◌, List, ◌++◌, length, take, drop, get_or, sym, ap, ◌∙◌, arith, inl, inr}
use Rattle.std.proofs.lemmas.List.{take-append-drop, length-take, length-take-le, get_or-take, get_or-drop, get_or_past}
use Rattle.std.proofs.lemmas.Bool.{cases_lt}
use Rattle.std.proofs.lemmas.Nat.{le_bytes_4}
use Rattle.byteorder.specs.Endian.{little_bytes, little_number}
use Rattle.byteorder.specs.Numbers.{little_from-lt}

-- each element is a byte
abbrev pub IsBytes : List ℕ → Type 0
IsBytes bytes = (i : ℕ) → get_or bytes i 0 < 256

pub IsBytes-take : (n : ℕ) (bytes : List ℕ) → IsBytes bytes → IsBytes (take n bytes)
IsBytes-take n bytes h i =
    elim (cases_lt i n) [
      | inl lt ↦ rw (get_or-take n bytes i 0 lt) (h i)
      | inr le ↦ rw (get_or_past (take n bytes) i 0 (omega (arith, length-take n bytes))) (omega arith)
    ]

pub IsBytes-drop : (n : ℕ) (bytes : List ℕ) → IsBytes bytes → IsBytes (drop n bytes)
IsBytes-drop n bytes h i = rw get_or-drop (h (n + i))

-- four bytes are those of the number that they spell
pub word_parts : (bytes : List ℕ) → IsBytes bytes → 4 ≤ length bytes → bytes ≡ little_bytes 4 (little_number 4 bytes) ++ drop 4 bytes
word_parts bytes fits le =
    let four : length (take 4 bytes) ≡ 4 = length-take-le 4 bytes le in
    let fits4 : IsBytes (take 4 bytes) = IsBytes-take 4 bytes fits in
    let spelt : little_bytes 4 (little_number 4 bytes) ≡ take 4 bytes =
    le_bytes_4 (take 4 bytes) (little_number 4 bytes) four fits4
    (omega (arith, get_or-take 4 bytes 0 0 (omega arith), get_or-take 4 bytes 1 0 (omega arith), get_or-take 4 bytes 2 0 (omega arith), get_or-take 4 bytes 3 0 (omega arith))) in
    sym (take-append-drop 4 bytes) ∙ ap (λ (t : List ℕ). t ++ drop 4 bytes) (sym spelt)

pub word_fits : (bytes : List ℕ) → IsBytes bytes → little_number 4 bytes < 2 ^ 32
word_fits bytes fits = little_from-lt 0 4 bytes fits
