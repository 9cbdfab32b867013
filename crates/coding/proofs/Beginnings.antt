-- Words of eight bytes, and the common beginning of two of them.
use Rattle.std.proofs.Common.{◌≡◌, ◌≢◌, ℕ, zero, suc, ◌+◌, ◌*◌, ◌/◌, ◌%◌, ◌<◌, ◌≤◌, Bool, true, false, eqb, List, [], ◌∷◌, length, get_or, min, take, drop, inl, inr, refl, sym, ap, subst, ◌∙◌, arith}
use Rattle.std.specs.List.{common_prefix_len}
use Rattle.std.specs.Int.{trailing_zeros, w64}
use Rattle.std.specs.Int.Bits.{bit_xor, xor_self, xor_add_and}
use Rattle.std.specs.Int.Count.{count_trailing_zeros, under}
use Rattle.std.proofs.lemmas.Bool.{cases_lt, eqb-true, eq-eqb}
use Rattle.std.proofs.lemmas.Nat.{and_le_l, and_le_r, xor_mod, xor_shr}
use Rattle.std.proofs.lemmas.List.{length-drop}
use Rattle.std.proofs.Math.Seq.{take-add}
use Rattle.std.proofs.lemmas.List.Sums.{common_prefix_len-le}
use Rattle.byteorder.specs.Endian.{little_from, little_number}
use Rattle.byteorder.specs.Numbers.{little_from-cons}
use Rattle.coding.proofs.Bytes.{IsBytes, IsBytes-drop}

-- how many bytes two lists share at their beginnings
abbrev pub common : List ℕ → List ℕ → ℕ
common xs ys = common_prefix_len eqb xs ys

-- ---- beginnings that are the same

-- a shorter beginning is the same if a longer one is
pub take_fewer : (m n : ℕ) (xs ys : List ℕ) → m ≤ n → take n xs ≡ take n ys → take m xs ≡ take m ys
take_fewer zero n xs ys le same = refl
take_fewer (suc m) zero xs ys le same = absurd (omega arith)
take_fewer (suc m) (suc n) [] [] le same = refl
take_fewer (suc m) (suc n) [] (y ∷ ys) le same = let no : 0 ≡ suc (length (take n ys)) = ap length same in absurd (omega arith)
take_fewer (suc m) (suc n) (x ∷ xs) [] le same = let no : suc (length (take n xs)) ≡ 0 = ap length same in absurd (omega arith)
take_fewer (suc m) (suc n) (x ∷ xs) (y ∷ ys) le same =
    let heads : x ≡ y = ap (λ (l : List ℕ). get_or l 0 0) same in
    let rest : take m xs ≡ take m ys = take_fewer m n xs ys (omega arith) (ap (drop 1) same) in
    rw (heads, rest) refl

-- the same beginning, and after it the same one, is the same beginning
pub take_further : (m n : ℕ) (xs ys : List ℕ) → take m xs ≡ take m ys → take n (drop m xs) ≡ take n (drop m ys) → take (m + n) xs ≡ take (m + n) ys
take_further m n xs ys front back = rw (take-add m n xs, take-add m n ys, front, back) refl

-- what two lists have in common, after a beginning that is the same
pub common_behind : (m : ℕ) (xs ys : List ℕ) → m ≤ length xs → m ≤ length ys → take m xs ≡ take m ys → common xs ys ≡ m + common (drop m xs) (drop m ys)
common_behind zero xs ys a b same = omega arith
common_behind (suc m) [] ys a b same = absurd (omega arith)
common_behind (suc m) (x ∷ xs) [] a b same = absurd (omega arith)
common_behind (suc m) (x ∷ xs) (y ∷ ys) a b same =
    let heads : x ≡ y = ap (λ (l : List ℕ). get_or l 0 0) same in
    let rest = common_behind m xs ys (omega arith) (omega arith) (ap (drop 1) same) in
    rw (eq-eqb x y heads) (omega (arith, rest))

-- ---- the lowest bit of an exclusive or

xor_none : (a b : ℕ) → bit_xor a b ≡ 0 → a ≡ b
xor_none a b none = omega (arith, none, xor_add_and a b, and_le_l a b, and_le_r a b)

even : (k n : ℕ) → n % 2 ≡ 0 → count_trailing_zeros (suc k) n ≡ suc (count_trailing_zeros k (n / 2))
unfolding count_trailing_zeros
even k n e = ap (λ (d : ℕ). under d (count_trailing_zeros k (n / 2))) e

odd : (k n : ℕ) → n % 2 ≡ 1 → count_trailing_zeros (suc k) n ≡ 0
unfolding count_trailing_zeros
odd k n e = ap (λ (d : ℕ). under d (count_trailing_zeros k (n / 2))) e

-- eight bits that are not set are counted
pub zeros_past : (k n : ℕ) → n % 256 ≡ 0 → count_trailing_zeros (suc (suc (suc (suc (suc (suc (suc (suc k)))))))) n ≡ 8 + count_trailing_zeros k (n / 256)
zeros_past k n none =
    let first = even (suc (suc (suc (suc (suc (suc (suc k))))))) n (omega arith) in
    let second = even (suc (suc (suc (suc (suc (suc k)))))) (n / 2) (omega arith) in
    let third = even (suc (suc (suc (suc (suc k))))) (n / 2 / 2) (omega arith) in
    let fourth = even (suc (suc (suc (suc k)))) (n / 2 / 2 / 2) (omega arith) in
    let fifth = even (suc (suc (suc k))) (n / 2 / 2 / 2 / 2) (omega arith) in
    let sixth = even (suc (suc k)) (n / 2 / 2 / 2 / 2 / 2) (omega arith) in
    let seventh = even (suc k) (n / 2 / 2 / 2 / 2 / 2 / 2) (omega arith) in
    let eighth = even k (n / 2 / 2 / 2 / 2 / 2 / 2 / 2) (omega arith) in
    let halved : n / 2 / 2 / 2 / 2 / 2 / 2 / 2 / 2 ≡ n / 256 = omega arith in
    let counted = ap (count_trailing_zeros k) halved in
    omega (arith, first, second, third, fourth, fifth, sixth, seventh, eighth, counted)

within_one : (k j n : ℕ) → (n % 2 ≡ 0 → count_trailing_zeros k (n / 2) < j) → count_trailing_zeros (suc k) n < suc j
within_one k j n below =
    elim (cases_lt 0 (n % 2)) [
      | inl set ↦ rw (odd k n (omega arith)) (omega arith)
      | inr unset ↦ let none : n % 2 ≡ 0 = omega arith in rw (even k n none) (omega (arith, below none))
    ]

-- one of eight bits is set
pub zeros_within : (k n : ℕ) → (n % 256 ≡ 0 → ⊥) → count_trailing_zeros (suc (suc (suc (suc (suc (suc (suc (suc k)))))))) n < 8
zeros_within k n some =
    within_one _ _ n (λ a.
    within_one _ _ (n / 2) (λ b.
    within_one _ _ (n / 2 / 2) (λ c.
    within_one _ _ (n / 2 / 2 / 2) (λ d.
    within_one _ _ (n / 2 / 2 / 2 / 2) (λ e.
    within_one _ _ (n / 2 / 2 / 2 / 2 / 2) (λ f.
    within_one _ _ (n / 2 / 2 / 2 / 2 / 2 / 2) (λ g.
    within_one _ _ (n / 2 / 2 / 2 / 2 / 2 / 2 / 2) (λ h. absurd (some (omega arith))))))))))

-- ---- two words, the lowest byte first

-- what the exclusive or of two words tells of the bytes that they spell
pub record Tells (n : ℕ) (xs ys : List ℕ) (difference : ℕ) : Type 0 where
  pub none : difference ≡ 0 → take n xs ≡ take n ys
  pub some : difference ≢ 0 → common xs ys ≡ count_trailing_zeros (8 * n) difference / 8

bits_after : (n : ℕ) → 8 * suc n ≡ suc (suc (suc (suc (suc (suc (suc (suc (8 * n))))))))
bits_after n = omega arith

-- one byte more in front: of two that are the same
told_same : (n x : ℕ) (xs ys : List ℕ) (r s : ℕ) → x < 256 → Tells n xs ys (bit_xor r s) → Tells (suc n) (x ∷ xs) (x ∷ ys) (bit_xor (x + 256 * r) (x + 256 * s))
told_same n x xs ys r s small told =
    let z = bit_xor (x + 256 * r) (x + 256 * s) in
    let low : z % 256 ≡ 0 =
    xor_mod (x + 256 * r) (x + 256 * s) 8
    ∙ ap (λ (b : ℕ). bit_xor b ((x + 256 * s) % 256)) (let e : (x + 256 * r) % 256 ≡ x = omega arith in e)
    ∙ ap (bit_xor x) (let e : (x + 256 * s) % 256 ≡ x = omega arith in e)
    ∙ xor_self x in
    let high : z / 256 ≡ bit_xor r s =
    xor_shr (x + 256 * r) (x + 256 * s) 8
    ∙ ap (λ (b : ℕ). bit_xor b ((x + 256 * s) / 256)) (let e : (x + 256 * r) / 256 ≡ r = omega arith in e)
    ∙ ap (bit_xor r) (let e : (x + 256 * s) / 256 ≡ s = omega arith in e) in
    record {
      none = λ zero_z. ap (λ (l : List ℕ). x ∷ l) (told.none (omega (arith, high, zero_z)));
      some = λ some_z.
          let rest = told.some (λ none_rest. some_z (omega (arith, low, high, none_rest))) in
          let counted = zeros_past (8 * n) z low in
          let moved = ap (count_trailing_zeros (8 * n)) high in
          rw (eq-eqb x x refl, bits_after n) (omega (arith, rest, counted, moved));
    }

-- one byte more in front: of two that are not
told_other : (n x y : ℕ) (xs ys : List ℕ) (r s : ℕ) → x < 256 → y < 256 → eqb x y ≡ false → Tells (suc n) (x ∷ xs) (y ∷ ys) (bit_xor (x + 256 * r) (y + 256 * s))
told_other n x y xs ys r s small_x small_y other =
    let z = bit_xor (x + 256 * r) (y + 256 * s) in
    let low : z % 256 ≡ bit_xor x y =
    xor_mod (x + 256 * r) (y + 256 * s) 8
    ∙ ap (λ (b : ℕ). bit_xor b ((y + 256 * s) % 256)) (let e : (x + 256 * r) % 256 ≡ x = omega arith in e)
    ∙ ap (bit_xor x) (let e : (y + 256 * s) % 256 ≡ y = omega arith in e) in
    let apart : z % 256 ≡ 0 → ⊥ = λ none.
    let same : true ≡ false = sym (eq-eqb x y (xor_none x y (sym low ∙ none))) ∙ other in absurd cc in
    record {
      none = λ zero_z. absurd (apart (omega (arith, zero_z)));
      some = λ some_z.
          let counted = zeros_within (8 * n) z apart in
          rw (other, bits_after n) (omega (arith, counted));
    }

told_by : (same : Bool) (n x y : ℕ) (xs ys : List ℕ) (r s : ℕ) → eqb x y ≡ same → x < 256 → y < 256 → Tells n xs ys (bit_xor r s) → Tells (suc n) (x ∷ xs) (y ∷ ys) (bit_xor (x + 256 * r) (y + 256 * s))
told_by true n x y xs ys r s e small_x small_y told =
    subst (λ (b : ℕ). Tells (suc n) (x ∷ xs) (b ∷ ys) (bit_xor (x + 256 * r) (b + 256 * s))) (eqb-true x y e) (told_same n x xs ys r s small_x told)
told_by false n x y xs ys r s e small_x small_y told = told_other n x y xs ys r s small_x small_y e

pub told : (n : ℕ) (xs ys : List ℕ) → n ≤ length xs → n ≤ length ys → IsBytes xs → IsBytes ys → Tells n xs ys (bit_xor (little_from 0 n xs) (little_from 0 n ys))
told zero xs ys a b bx by = record { none = λ _. refl; some = λ some. absurd (some refl) }
told (suc n) [] ys a b bx by = absurd (omega arith)
told (suc n) (x ∷ xs) [] a b bx by = absurd (omega arith)
told (suc n) (x ∷ xs) (y ∷ ys) a b bx by =
    let rest = told n xs ys (omega arith) (omega arith) (λ i. bx (suc i)) (λ i. by (suc i)) in
    let step = told_by (eqb x y) n x y xs ys (little_from 0 n xs) (little_from 0 n ys) refl (bx 0) (by 0) rest in
    rw (little_from-cons 0 n x xs, little_from-cons 0 n y ys) step

-- ---- two words within bytes

-- words at a place before which the bytes are the same
pub apart_at : (p : ℕ) (xs ys : List ℕ) (x y : ℕ) → p + 8 ≤ length xs → p + 8 ≤ length ys → IsBytes xs → IsBytes ys → take p xs ≡ take p ys → x ≡ little_number 8 (drop p xs) → y ≡ little_number 8 (drop p ys) → bit_xor x y ≢ 0
    → p + trailing_zeros w64 (bit_xor x y) / 8 ≡ common xs ys
apart_at p xs ys x y a b bx by same is_x is_y some =
    let words = told 8 (drop p xs) (drop p ys) (omega (arith, length-drop p xs)) (omega (arith, length-drop p ys)) (IsBytes-drop p xs bx) (IsBytes-drop p ys by) in
    let these : bit_xor x y ≡ bit_xor (little_number 8 (drop p xs)) (little_number 8 (drop p ys)) = ap (λ (n : ℕ). bit_xor n y) is_x ∙ ap (bit_xor (little_number 8 (drop p xs))) is_y in
    let front = common_behind p xs ys (omega arith) (omega arith) same in
    let behind = words.some (λ none. some (these ∙ none)) in
    let counted = ap (count_trailing_zeros 64) these in
    omega (arith, front, behind, counted)

pub alike_at : (p : ℕ) (xs ys : List ℕ) (x y : ℕ) → p + 8 ≤ length xs → p + 8 ≤ length ys → IsBytes xs → IsBytes ys → take p xs ≡ take p ys → x ≡ little_number 8 (drop p xs) → y ≡ little_number 8 (drop p ys) → bit_xor x y ≡ 0
    → take (p + 8) xs ≡ take (p + 8) ys
alike_at p xs ys x y a b bx by same is_x is_y none =
    let words = told 8 (drop p xs) (drop p ys) (omega (arith, length-drop p xs)) (omega (arith, length-drop p ys)) (IsBytes-drop p xs bx) (IsBytes-drop p ys by) in
    let these : bit_xor x y ≡ bit_xor (little_number 8 (drop p xs)) (little_number 8 (drop p ys)) = ap (λ (n : ℕ). bit_xor n y) is_x ∙ ap (bit_xor (little_number 8 (drop p xs))) is_y in
    take_further p 8 xs ys same (words.none (sym these ∙ none))

-- all of the shorter one is the same
pub all_alike : (n : ℕ) (xs ys : List ℕ) → n ≡ min (length xs) (length ys) → take n xs ≡ take n ys → n ≡ common xs ys
all_alike n xs ys is same =
    let front = common_behind n xs ys (omega arith) (omega arith) same in
    let rest = common_prefix_len-le eqb (drop n xs) (drop n ys) in
    omega (arith, front, rest.0, rest.1, length-drop n xs, length-drop n ys)
