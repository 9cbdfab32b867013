-- Heads of keys: the number in their first bytes.
use Rattle.std.proofs.Common.{◌≡◌, ℕ, zero, suc, ◌+◌, ◌-◌, ◌*◌, ◌^◌, ◌<◌, List, [], ◌∷◌, ◌++◌, replicate, get_or, min, inl, inr, refl, sym, ap, ◌∙◌, arith}
use Rattle.std.proofs.Math.Nat.{min-eq_left, pow-succ'}
use Rattle.std.proofs.lemmas.Bool.{cases_lt}
use Rattle.std.proofs.lemmas.List.{get_or_past, get_or-replicate, length-replicate}
use Rattle.byteorder.specs.Endian.{big_from, big_number}
use Rattle.byteorder.specs.Numbers.{big_from-cons, big_from-lt}
use Rattle.coding.proofs.Bytes.{IsBytes}
use Rattle.ikey.specs.Bytewise.{leading_number, bytewise_head}
use Rattle.ikey.specs.BytewiseLaws.{greater_byte}

none_from : (i n : ℕ) → big_from i n [] ≡ 0
none_from i zero = refl
none_from i (suc n) =
    let none : get_or [] i 0 * 256 ^ n ≡ 0 * 256 ^ n = ap (λ (b : ℕ). b * 256 ^ n) (get_or_past [] i 0 (omega arith)) in
    omega (arith, none, none_from (suc i) n)

-- of bytes, the leading number is the number in them
pub leading_is : (n : ℕ) (xs : List ℕ) → IsBytes xs → leading_number n xs ≡ big_from 0 n xs
leading_is zero xs h = refl
leading_is (suc n) [] h = sym (none_from 0 (suc n))
leading_is (suc n) (x ∷ xs) h =
    let bytes : IsBytes xs = λ i. h (suc i) in
    let small : big_from 0 n xs < 256 ^ n = big_from-lt 0 n xs bytes in
    let fits : x * 256 ^ n + big_from 0 n xs < 256 * 256 ^ n + 0 = greater_byte x 256 (256 ^ n) (big_from 0 n xs) 0 (h 0) small in
    rw (leading_is n xs bytes, big_from-cons 0 n x xs) (min-eq_left (omega (arith, fits, pow-succ' 256 n)))

abbrev pub IsZeros : List ℕ → Type 0
IsZeros zs = (i : ℕ) → get_or zs i 0 ≡ 0

zeros_lead : (n : ℕ) (zs : List ℕ) → IsZeros zs → leading_number n zs ≡ 0
zeros_lead zero zs h = refl
zeros_lead (suc n) [] h = refl
zeros_lead (suc n) (z ∷ zs) h =
    let none : z * 256 ^ n ≡ 0 * 256 ^ n = ap (λ (b : ℕ). b * 256 ^ n) (h 0) in
    omega (arith, none, zeros_lead n zs (λ i. h (suc i)))

-- zeros after a list change nothing
pub padded : (n : ℕ) (xs zs : List ℕ) → IsZeros zs → leading_number n (xs ++ zs) ≡ leading_number n xs
padded zero xs zs h = refl
padded (suc n) [] zs h = zeros_lead (suc n) zs h
padded (suc n) (x ∷ xs) zs h = ap (λ (r : ℕ). min (x * 256 ^ n + r) (256 ^ suc n - 1)) (padded n xs zs h)

pub head_is : (key : List ℕ) (head : ℕ) → IsBytes key → head ≡ big_number 16 key → head ≡ bytewise_head key
unfolding bytewise_head
head_is key head h is = is ∙ sym (leading_is 16 key h)

zeros : (n : ℕ) → IsZeros (replicate n 0)
zeros n i =
    elim (cases_lt i n) [
      | inl low ↦ get_or-replicate {A = ℕ} n i 0 0 low
      | inr high ↦ get_or_past (replicate n 0) i 0 (omega (arith, high, length-replicate {A = ℕ} n 0))
    ]

bytes_padded : (xs zs : List ℕ) → IsBytes xs → IsZeros zs → IsBytes (xs ++ zs)
bytes_padded [] zs h none i = omega (arith, none i)
bytes_padded (x ∷ xs) zs h none zero = h 0
bytes_padded (x ∷ xs) zs h none (suc i) = bytes_padded xs zs (λ k. h (suc k)) none i

pub padded_head_is : (key bytes : List ℕ) (n head : ℕ) → IsBytes key → bytes ≡ key ++ replicate n 0 → head ≡ big_number 16 bytes → head ≡ bytewise_head key
unfolding bytewise_head
padded_head_is key bytes n head h all is =
    is ∙ ap (big_number 16) all
    ∙ sym (leading_is 16 (key ++ replicate n 0) (bytes_padded key (replicate n 0) h (zeros n)))
    ∙ padded 16 key (replicate n 0) (zeros n)
