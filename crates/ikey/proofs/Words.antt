-- Words of eight bytes, the most significant first, are ordered as the bytes are.
use Rattle.std.proofs.Common.{◌≡◌, ◌≢◌, ℕ, zero, suc, ◌+◌, ◌*◌, ◌^◌, ◌<◌, ◌≤◌, List, [], ◌∷◌, length, get_or, min, take, drop, inl, inr, refl, sym, ap, subst, ◌∙◌, arith}
use Rattle.std.specs.declared.cmp.Ordering.{Ordering}
use Rattle.std.specs.declared.cmp.Ordering.TheVariants.{Less, Equal, Greater}
use Rattle.std.specs.Ordering.{nat_cmp, ordering_then, MatchOrdering}
use Rattle.std.specs.Cmp.{nat_cmp_is, ranks}
use Rattle.std.specs.Cmp.Lexicographic.{slice_cmp}
use Rattle.std.proofs.lemmas.Bool.{cases_lt}
use Rattle.std.proofs.lemmas.List.{length-drop}
use Rattle.byteorder.specs.Endian.{big_from, big_number}
use Rattle.byteorder.specs.Numbers.{big_from-cons, big_from-lt}
use Rattle.coding.proofs.Bytes.{IsBytes, IsBytes-drop}
use Rattle.coding.proofs.Beginnings.{take_further}
use Rattle.ikey.specs.Bytewise.{bytewise_cmp}
use Rattle.ikey.specs.BytewiseLaws.{greater_byte}

-- ---- after a beginning that is the same

same_head : (x y : ℕ) (xs ys : List ℕ) → x ≡ y → bytewise_cmp (x ∷ xs) (y ∷ ys) ≡ bytewise_cmp xs ys
same_head x y xs ys same = ap (λ (o : Ordering). ordering_then o (slice_cmp nat_cmp xs ys)) (sym (nat_cmp_is x y Equal same))

-- a beginning that is the same decides nothing
pub cmp_behind : (m : ℕ) (xs ys : List ℕ) → m ≤ length xs → m ≤ length ys → take m xs ≡ take m ys → bytewise_cmp xs ys ≡ bytewise_cmp (drop m xs) (drop m ys)
cmp_behind zero xs ys a b same = refl
cmp_behind (suc m) [] ys a b same = absurd (omega arith)
cmp_behind (suc m) (x ∷ xs) [] a b same = absurd (omega arith)
cmp_behind (suc m) (x ∷ xs) (y ∷ ys) a b same =
    same_head x y xs ys (ap (λ (l : List ℕ). get_or l 0 0) same)
    ∙ cmp_behind m xs ys (omega arith) (omega arith) (ap (drop 1) same)

one_more : (m n : ℕ) (r : Ordering) → MatchOrdering r (m < n) (m ≡ n) (n < m) → nat_cmp (suc m) (suc n) ≡ r
one_more m n Less h = let less : m < n = h in sym (nat_cmp_is (suc m) (suc n) Less (omega arith))
one_more m n Equal h = let same : m ≡ n = h in sym (nat_cmp_is (suc m) (suc n) Equal (omega arith))
one_more m n Greater h = let greater : n < m = h in sym (nat_cmp_is (suc m) (suc n) Greater (omega arith))

-- if all of the shorter one is the same, the lengths decide
pub by_lengths : (n : ℕ) (xs ys : List ℕ) → n ≡ min (length xs) (length ys) → take n xs ≡ take n ys → nat_cmp (length xs) (length ys) ≡ bytewise_cmp xs ys
by_lengths zero [] [] is same = refl
by_lengths zero [] (y ∷ ys) is same = sym (nat_cmp_is 0 (suc (length ys)) Less (omega arith))
by_lengths zero (x ∷ xs) [] is same = sym (nat_cmp_is (suc (length xs)) 0 Greater (omega arith))
by_lengths zero (x ∷ xs) (y ∷ ys) is same = absurd (omega arith)
by_lengths (suc n) [] ys is same = absurd (omega arith)
by_lengths (suc n) (x ∷ xs) [] is same = absurd (omega arith)
by_lengths (suc n) (x ∷ xs) (y ∷ ys) is same =
    one_more (length xs) (length ys) (nat_cmp (length xs) (length ys)) (ranks (length xs) (length ys))
    ∙ by_lengths n xs ys (omega arith) (ap (drop 1) same)
    ∙ sym (same_head x y xs ys (ap (λ (l : List ℕ). get_or l 0 0) same))

-- ---- two words

-- what two words tell of the bytes that they spell
pub record Orders (n : ℕ) (xs ys : List ℕ) (x y : ℕ) : Type 0 where
  pub less : x < y → bytewise_cmp xs ys ≡ Less
  pub same : x ≡ y → take n xs ≡ take n ys
  pub greater : y < x → bytewise_cmp xs ys ≡ Greater

ordered_same : (n x : ℕ) (xs ys : List ℕ) (p r s : ℕ) → Orders n xs ys r s → Orders (suc n) (x ∷ xs) (x ∷ ys) (x * p + r) (x * p + s)
ordered_same n x xs ys p r s rest =
    record {
      less = λ h. same_head x x xs ys refl ∙ rest.less (omega arith);
      same = λ h. ap (λ (l : List ℕ). x ∷ l) (rest.same (omega arith));
      greater = λ h. same_head x x xs ys refl ∙ rest.greater (omega arith);
    }

ordered_less : (n x y : ℕ) (xs ys : List ℕ) (p r s : ℕ) → x < y → r < p → Orders (suc n) (x ∷ xs) (y ∷ ys) (x * p + r) (y * p + s)
ordered_less n x y xs ys p r s less small =
    let below = greater_byte x y p r s less small in
    record {
      less = λ h. ap (λ (o : Ordering). ordering_then o (slice_cmp nat_cmp xs ys)) (sym (nat_cmp_is x y Less less));
      same = λ h. absurd (omega (arith, below));
      greater = λ h. absurd (omega (arith, below));
    }

ordered_greater : (n x y : ℕ) (xs ys : List ℕ) (p r s : ℕ) → y < x → s < p → Orders (suc n) (x ∷ xs) (y ∷ ys) (x * p + r) (y * p + s)
ordered_greater n x y xs ys p r s greater small =
    let above = greater_byte y x p s r greater small in
    record {
      less = λ h. absurd (omega (arith, above));
      same = λ h. absurd (omega (arith, above));
      greater = λ h. ap (λ (o : Ordering). ordering_then o (slice_cmp nat_cmp xs ys)) (sym (nat_cmp_is x y Greater greater));
    }

ordered_by : (n x y : ℕ) (xs ys : List ℕ) (p r s : ℕ) → r < p → s < p → Orders n xs ys r s → Orders (suc n) (x ∷ xs) (y ∷ ys) (x * p + r) (y * p + s)
ordered_by n x y xs ys p r s small_r small_s rest =
    elim (cases_lt x y) [
      | inl less ↦ ordered_less n x y xs ys p r s less small_r
      | inr not_less ↦ elim (cases_lt y x) [
        | inl greater ↦ ordered_greater n x y xs ys p r s greater small_s
        | inr not_greater ↦ let same : x ≡ y = omega arith in subst (λ (b : ℕ). Orders (suc n) (x ∷ xs) (b ∷ ys) (x * p + r) (b * p + s)) same (ordered_same n x xs ys p r s rest)
      ]
    ]

-- two words of bytes are ordered as the bytes are
pub ordered : (n : ℕ) (xs ys : List ℕ) → n ≤ length xs → n ≤ length ys → IsBytes xs → IsBytes ys → Orders n xs ys (big_from 0 n xs) (big_from 0 n ys)
ordered zero xs ys a b bx by = record { less = λ h. absurd (omega arith); same = λ h. refl; greater = λ h. absurd (omega arith) }
ordered (suc n) [] ys a b bx by = absurd (omega arith)
ordered (suc n) (x ∷ xs) [] a b bx by = absurd (omega arith)
ordered (suc n) (x ∷ xs) (y ∷ ys) a b bx by =
    let bytes_x : IsBytes xs = λ i. bx (suc i) in
    let bytes_y : IsBytes ys = λ i. by (suc i) in
    let step = ordered_by n x y xs ys (256 ^ n) (big_from 0 n xs) (big_from 0 n ys) (big_from-lt 0 n xs bytes_x) (big_from-lt 0 n ys bytes_y)
    (ordered n xs ys (omega arith) (omega arith) bytes_x bytes_y) in
    rw (big_from-cons 0 n x xs, big_from-cons 0 n y ys) step

-- ---- two words within bytes

-- words at a place before which the bytes are the same
words_at : (p : ℕ) (xs ys : List ℕ) (x y : ℕ) → p + 8 ≤ length xs → p + 8 ≤ length ys → IsBytes xs → IsBytes ys → x ≡ big_number 8 (drop p xs) → y ≡ big_number 8 (drop p ys) → Orders 8 (drop p xs) (drop p ys) x y
words_at p xs ys x y a b bx by is_x is_y =
    subst (λ (n : ℕ). Orders 8 (drop p xs) (drop p ys) n y) (sym is_x)
    (subst (λ (n : ℕ). Orders 8 (drop p xs) (drop p ys) (big_number 8 (drop p xs)) n) (sym is_y)
    (ordered 8 (drop p xs) (drop p ys) (omega (arith, length-drop p xs)) (omega (arith, length-drop p ys)) (IsBytes-drop p xs bx) (IsBytes-drop p ys by)))

decided : (xs ys : List ℕ) (x y : ℕ) → Orders 8 xs ys x y → x ≢ y → nat_cmp x y ≡ bytewise_cmp xs ys
decided xs ys x y words apart =
    elim (cases_lt x y) [
      | inl less ↦ sym (nat_cmp_is x y Less less) ∙ sym (words.less less)
      | inr not_less ↦ let greater : y < x = omega arith in sym (nat_cmp_is x y Greater greater) ∙ sym (words.greater greater)
    ]

pub apart_at : (p : ℕ) (xs ys : List ℕ) (x y : ℕ) → p + 8 ≤ length xs → p + 8 ≤ length ys → IsBytes xs → IsBytes ys → take p xs ≡ take p ys → x ≡ big_number 8 (drop p xs) → y ≡ big_number 8 (drop p ys) → x ≢ y → nat_cmp x y ≡ bytewise_cmp xs ys
apart_at p xs ys x y a b bx by same is_x is_y apart =
    decided (drop p xs) (drop p ys) x y (words_at p xs ys x y a b bx by is_x is_y) apart
    ∙ sym (cmp_behind p xs ys (omega arith) (omega arith) same)

pub alike_at : (p : ℕ) (xs ys : List ℕ) (x y : ℕ) → p + 8 ≤ length xs → p + 8 ≤ length ys → IsBytes xs → IsBytes ys → take p xs ≡ take p ys → x ≡ big_number 8 (drop p xs) → y ≡ big_number 8 (drop p ys) → x ≡ y → take (p + 8) xs ≡ take (p + 8) ys
alike_at p xs ys x y a b bx by same is_x is_y alike =
    take_further p 8 xs ys same ((words_at p xs ys x y a b bx by is_x is_y).same alike)
