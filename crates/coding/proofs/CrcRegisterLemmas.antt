-- The register of CRC-32C holds the remainder, and its steps are linear over exclusive or.
use Rattle.std.proofs.Common.{◌≡◌, ℕ, zero, suc, ◌+◌, ◌-◌, ◌*◌, ◌/◌, ◌%◌, ◌^◌, ◌<◌, Bool, true, false, not, nat_eq, if◌then◌else◌, List, [], ◌∷◌, ◌++◌, length, map, take, drop, replicate, bit_xor, refl, sym, ap, ap₂, ◌∙◌, arith, length-append, pow-suc, suc-add, mul_assoc}
use Rattle.std.proofs.lemmas.Nat.{xor_lt, xor_shr, xor_mod, shr_split, pow_pos, mod_below}
use lib.Bits.{xor_assoc, xor_comm, xor_zero_r, xor_shifted}
use Rattle.coding.specs.Crc.{low_bits, number_of, bits_of, coefficient_sum, leading_sum, division_step, division_steps, remainder, message, crc32c}
use Rattle.coding.specs.CrcRegister.{register_after_step, register_after_steps, register_after_bits}
use Rattle.coding.proofs.CrcDivision.{lower, divided_once-cons, length-leading_sum, leading_sum-nil, zeros_sum_at, coefficient_sum-false}

-- ---- exclusive or

pub xor_pairs : (a b c d : ℕ) → bit_xor (bit_xor a b) (bit_xor c d) ≡ bit_xor (bit_xor a c) (bit_xor b d)
xor_pairs a b c d =
    xor_assoc a b (bit_xor c d)
    ∙ ap (bit_xor a) (sym (xor_assoc b c d) ∙ ap (λ x. bit_xor x d) (xor_comm b c) ∙ xor_assoc c b d)
    ∙ sym (xor_assoc a c (bit_xor b d))

pub bit_cases : (P : ℕ → Type 0) → P 0 → P 1 → (d : ℕ) → d < 2 → P d
bit_cases P p0 p1 zero h = p0
bit_cases P p0 p1 (suc zero) h = p1
bit_cases P p0 p1 (suc (suc d)) h = absurd (omega arith)

xor_half : (a b : ℕ) → bit_xor a b / 2 ≡ bit_xor (a / 2) (b / 2)
xor_half a b = xor_shr a b 1

xor_lowest : (a b : ℕ) → bit_xor a b % 2 ≡ bit_xor (a % 2) (b % 2)
xor_lowest a b = xor_mod a b 1

-- a bit times a number
bits_times : (x : ℕ) → x < 2 → (y : ℕ) → y < 2 → bit_xor x y * 0x82f63b78 ≡ bit_xor (x * 0x82f63b78) (y * 0x82f63b78)
bits_times =
    bit_cases (λ x. (y : ℕ) → y < 2 → bit_xor x y * 0x82f63b78 ≡ bit_xor (x * 0x82f63b78) (y * 0x82f63b78))
    (bit_cases _ refl refl) (bit_cases _ refl refl)

-- a number by its high bits and its low ones
pub split_at : (n x : ℕ) → bit_xor (x / 2 ^ n * 2 ^ n) (x % 2 ^ n) ≡ x
split_at n x =
    let positive = pow_pos n in
    xor_shifted (x / 2 ^ n) n (x % 2 ^ n) (mod_below x (2 ^ n) positive) ∙ shr_split x n

-- ---- steps

pub after_step-xor : (a b : ℕ) → register_after_step (bit_xor a b) ≡ bit_xor (register_after_step a) (register_after_step b)
unfolding register_after_step
after_step-xor a b =
    let low : bit_xor a b % 2 * 0x82f63b78 ≡ bit_xor (a % 2 * 0x82f63b78) (b % 2 * 0x82f63b78) =
    ap (λ x. x * 0x82f63b78) (xor_lowest a b) ∙ bits_times (a % 2) (omega arith) (b % 2) (omega arith) in
    ap₂ bit_xor (xor_half a b) low ∙ xor_pairs (a / 2) (b / 2) (a % 2 * 0x82f63b78) (b % 2 * 0x82f63b78)

pub after_steps-xor : (n a b : ℕ) → register_after_steps n (bit_xor a b) ≡ bit_xor (register_after_steps n a) (register_after_steps n b)
unfolding register_after_steps
after_steps-xor zero a b = refl
after_steps-xor (suc n) a b = ap (register_after_steps n) (after_step-xor a b) ∙ after_steps-xor n (register_after_step a) (register_after_step b)

pub after_steps-add : (m n c : ℕ) → register_after_steps (m + n) c ≡ register_after_steps n (register_after_steps m c)
unfolding register_after_steps
after_steps-add zero n c =
    let same : zero + n ≡ n = omega arith in
    ap (λ k. register_after_steps k c) same
after_steps-add (suc m) n c = ap (λ k. register_after_steps k c) (suc-add m n) ∙ after_steps-add m n (register_after_step c)

pub after_steps-after_steps : (m n c : ℕ) → register_after_steps m (register_after_steps n c) ≡ register_after_steps n (register_after_steps m c)
after_steps-after_steps m n c =
    let same : n + m ≡ m + n = omega arith in
    sym (after_steps-add n m c) ∙ ap (λ k. register_after_steps k c) same ∙ after_steps-add m n c

after_step-even : (x : ℕ) → register_after_step (x * 2) ≡ x
unfolding register_after_step
after_step-even x =
    let half : x * 2 / 2 ≡ x = omega arith in
    let low : x * 2 % 2 ≡ 0 = omega arith in
    rw (half, low) (xor_zero_r x)

-- n steps of a number without its n low bits drop them
pub after_steps-shifted : (n x : ℕ) → register_after_steps n (x * 2 ^ n) ≡ x
unfolding register_after_steps
after_steps-shifted zero x = omega arith
after_steps-shifted (suc n) x =
    let even : x * 2 ^ suc n ≡ x * 2 ^ n * 2 = ap (λ p. x * p) (pow-suc 2 n) ∙ sym (mul_assoc x (2 ^ n) 2) in
    ap (λ y. register_after_steps n (register_after_step y)) even ∙ ap (register_after_steps n) (after_step-even (x * 2 ^ n)) ∙ after_steps-shifted n x

pub after_steps-split : (n x : ℕ) → register_after_steps n x ≡ bit_xor (x / 2 ^ n) (register_after_steps n (x % 2 ^ n))
after_steps-split n x =
    ap (register_after_steps n) (sym (split_at n x)) ∙ after_steps-xor n (x / 2 ^ n * 2 ^ n) (x % 2 ^ n)
    ∙ ap (λ y. bit_xor y (register_after_steps n (x % 2 ^ n))) (after_steps-shifted n (x / 2 ^ n))

pub after_step_fits : (c : ℕ) → c < 2 ^ 32 → register_after_step c < 2 ^ 32
unfolding register_after_step
after_step_fits c h =
    let high : c / 2 < 2 ^ 32 = omega arith in
    let low : c % 2 * 0x82f63b78 < 2 ^ 32 = omega arith in
    xor_lt 32 (c / 2) (c % 2 * 0x82f63b78) high low

-- ---- bits fed in

abbrev pub digit : Bool → ℕ
digit b = if b then 1 else 0

digit_of : (d : ℕ) → d < 2 → digit (nat_eq d 1) ≡ d
digit_of = bit_cases (λ d. digit (nat_eq d 1) ≡ d) refl refl

pub digit_below : (b : Bool) → digit b < 2
digit_below true = omega arith
digit_below false = omega arith

pub fed-append : (c : ℕ) (xs ys : List Bool) → register_after_bits c (xs ++ ys) ≡ register_after_bits (register_after_bits c xs) ys
unfolding register_after_bits
fed-append c [] ys = refl
fed-append c (x ∷ xs) ys = fed-append (register_after_step (bit_xor c (digit x))) xs ys

pub fed_fits : (c : ℕ) (bits : List Bool) → c < 2 ^ 32 → register_after_bits c bits < 2 ^ 32
unfolding register_after_bits
fed_fits c [] h = h
fed_fits c (b ∷ bits) h =
    let small : digit b < 2 ^ 32 = omega (arith, digit_below b) in
    fed_fits (register_after_step (bit_xor c (digit b))) bits (after_step_fits (bit_xor c (digit b)) (xor_lt 32 c (digit b) h small))

-- n bits may be added to the register before the n steps
pub fed_bits : (n c x : ℕ) → x < 2 ^ n → register_after_bits c (low_bits n x) ≡ register_after_steps n (bit_xor c x)
unfolding register_after_bits register_after_steps
fed_bits zero c x h =
    let none : x ≡ 0 = omega arith in
    rw none (sym (xor_zero_r c))
fed_bits (suc n) c x h =
    let d = digit (nat_eq (x % 2) 1) in
    let lowest : d ≡ x % 2 = digit_of (x % 2) (omega arith) in
    let half : x / 2 < 2 ^ n = omega (arith, pow-suc 2 n) in
    let whole : bit_xor (x % 2) (x / 2 * 2) ≡ x = xor_comm (x % 2) (x / 2 * 2) ∙ split_at 1 x in
    let step : bit_xor (register_after_step (bit_xor c d)) (x / 2) ≡ register_after_step (bit_xor c x) =
    ap₂ bit_xor (ap (λ e. register_after_step (bit_xor c e)) lowest) (sym (after_step-even (x / 2)))
    ∙ sym (after_step-xor (bit_xor c (x % 2)) (x / 2 * 2))
    ∙ ap register_after_step (xor_assoc c (x % 2) (x / 2 * 2) ∙ ap (bit_xor c) whole) in
    fed_bits n (register_after_step (bit_xor c d)) (x / 2) half ∙ ap (register_after_steps n) step

-- ---- the register is the remainder

pub length-low_bits : (n x : ℕ) → length (low_bits n x) ≡ n
length-low_bits zero x = refl
length-low_bits (suc n) x = ap suc (length-low_bits n (x / 2))

lowest-xor : (x : ℕ) → x < 2 → (y : ℕ) → y < 2 → nat_eq (bit_xor x y) 1 ≡ coefficient_sum (nat_eq x 1) (nat_eq y 1)
lowest-xor =
    bit_cases (λ x. (y : ℕ) → y < 2 → nat_eq (bit_xor x y) 1 ≡ coefficient_sum (nat_eq x 1) (nat_eq y 1))
    (bit_cases _ refl refl) (bit_cases _ refl refl)

pub low_bits-xor : (n x y : ℕ) → low_bits n (bit_xor x y) ≡ leading_sum (low_bits n x) (low_bits n y)
low_bits-xor zero x y = refl
low_bits-xor (suc n) x y =
    ap₂ (λ b bits. b ∷ bits)
    (ap (λ d. nat_eq d 1) (xor_lowest x y) ∙ lowest-xor (x % 2) (omega arith) (y % 2) (omega arith))
    (ap (low_bits n) (xor_half x y) ∙ low_bits-xor n (x / 2) (y / 2))

-- a leading 0 of a number adds nothing
leading_sum-low_bits : (n x : ℕ) (p : List Bool) → x < 2 ^ n → leading_sum p (low_bits (suc n) x) ≡ leading_sum p (low_bits n x)
leading_sum-low_bits n x [] h = refl
leading_sum-low_bits zero x (a ∷ p) h =
    let none : x ≡ 0 = omega arith in
    rw none (ap₂ (λ b bits. b ∷ bits) (coefficient_sum-false a) (leading_sum-nil p))
leading_sum-low_bits (suc n) x (a ∷ p) h =
    let half : x / 2 < 2 ^ n = omega (arith, pow-suc 2 n) in
    ap (λ bits. coefficient_sum a (nat_eq (x % 2) 1) ∷ bits) (leading_sum-low_bits n (x / 2) p half)

coefficient_sum-assoc : (a b c : Bool) → coefficient_sum (coefficient_sum a b) c ≡ coefficient_sum a (coefficient_sum b c)
coefficient_sum-assoc true true true = refl
coefficient_sum-assoc true true false = refl
coefficient_sum-assoc true false true = refl
coefficient_sum-assoc true false false = refl
coefficient_sum-assoc false b c = refl

leading_sum-assoc : (p q r : List Bool) → length r ≡ length q → leading_sum (leading_sum p q) r ≡ leading_sum p (leading_sum q r)
leading_sum-assoc [] q r h = refl
leading_sum-assoc (a ∷ p) [] [] h = refl
leading_sum-assoc (a ∷ p) [] (c ∷ r) h = absurd (omega arith)
leading_sum-assoc (a ∷ p) (b ∷ q) [] h = absurd (omega arith)
leading_sum-assoc (a ∷ p) (b ∷ q) (c ∷ r) h =
    ap₂ (λ b bits. b ∷ bits) (coefficient_sum-assoc a b c) (leading_sum-assoc p q r (omega arith))

-- the step's constant is the divisor below its leading coefficient
lower_is : (d : ℕ) → d < 2 → low_bits 32 (d * 0x82f63b78) ≡ lower (nat_eq d 1)
unfolding lower
lower_is = bit_cases (λ d. low_bits 32 (d * 0x82f63b78) ≡ lower (nat_eq d 1)) refl refl

-- the leading coefficient, of a message's bit and the register
leading_is : (c : ℕ) (b : Bool) → nat_eq (bit_xor c (digit b) % 2) 1 ≡ coefficient_sum b (nat_eq (c % 2) 1)
leading_is c false = ap (λ x. nat_eq (x % 2) 1) (xor_zero_r c)
leading_is c true =
    ap (λ d. nat_eq d 1) (xor_lowest c 1)
    ∙ bit_cases (λ d. nat_eq (bit_xor d 1) 1 ≡ not (nat_eq d 1)) refl refl (c % 2) (omega arith)

upper_is : (c : ℕ) (b : Bool) → bit_xor c (digit b) / 2 ≡ c / 2
upper_is c false = ap (λ x. x / 2) (xor_zero_r c)
upper_is c true = xor_half c 1 ∙ xor_zero_r (c / 2)

-- a step of long division is a step of the register
step_is : (c : ℕ) (b : Bool) (p : List Bool) → c < 2 ^ 32
    → division_step (leading_sum (b ∷ p) (low_bits 32 c)) ≡ leading_sum p (low_bits 32 (register_after_step (bit_xor c (digit b))))
unfolding register_after_step
step_is c b p h =
    let e = coefficient_sum b (nat_eq (c % 2) 1) in
    let x = bit_xor c (digit b) in
    let half : c / 2 < 2 ^ 31 = omega arith in
    let upper : low_bits 32 (x / 2) ≡ low_bits 32 (c / 2) = ap (low_bits 32) (upper_is c b) in
    let lows : low_bits 32 (x % 2 * 0x82f63b78) ≡ lower e = lower_is (x % 2) (omega arith) ∙ ap lower (leading_is c b) in
    let same : length (lower e) ≡ length (low_bits 32 (c / 2)) =
    ap length (sym lows) ∙ length-low_bits 32 (x % 2 * 0x82f63b78) ∙ sym (length-low_bits 32 (c / 2)) in
    divided_once-cons e (leading_sum p (low_bits 31 (c / 2)))
    ∙ ap (λ y. leading_sum y (lower e)) (sym (leading_sum-low_bits 31 (c / 2) p half))
    ∙ leading_sum-assoc p (low_bits 32 (c / 2)) (lower e) same
    ∙ ap (leading_sum p) (sym (low_bits-xor 32 (x / 2) (x % 2 * 0x82f63b78) ∙ ap₂ leading_sum upper lows))

divided_is : (c : ℕ) (bits : List Bool) → c < 2 ^ 32
    → division_steps (length bits) (leading_sum (bits ++ replicate 32 false) (low_bits 32 c)) ≡ low_bits 32 (register_after_bits c bits)
unfolding register_after_bits
divided_is c [] h = zeros_sum_at 32 (low_bits 32 c) (length-low_bits 32 c)
divided_is c (b ∷ bits) h =
    let next = register_after_step (bit_xor c (digit b)) in
    let small : digit b < 2 ^ 32 = omega (arith, digit_below b) in
    ap (division_steps (length bits)) (step_is c b (bits ++ replicate 32 false) h)
    ∙ divided_is next bits (after_step_fits (bit_xor c (digit b)) (xor_lt 32 c (digit b) h small))

-- ---- the ends

turned_over : (a : Bool) → not a ≡ coefficient_sum a true
turned_over true = refl
turned_over false = refl

front_turned_over : (n : ℕ) (p : List Bool) → map not (take n p) ++ drop n p ≡ leading_sum p (replicate n true)
front_turned_over zero p = sym (leading_sum-nil p)
front_turned_over (suc n) [] = refl
front_turned_over (suc n) (a ∷ p) = ap₂ (λ b bits. b ∷ bits) (turned_over a) (front_turned_over n p)

number_turned_over : (n x : ℕ) → x < 2 ^ n → number_of (map not (low_bits n x)) ≡ 2 ^ n - 1 - x
number_turned_over zero x h = omega arith
number_turned_over (suc n) x h =
    let half : x / 2 < 2 ^ n = omega (arith, pow-suc 2 n) in
    let lowest : digit (not (nat_eq (x % 2) 1)) ≡ 1 - x % 2 =
    bit_cases (λ d. digit (not (nat_eq d 1)) ≡ 1 - d) refl refl (x % 2) (omega arith) in
    omega (arith, number_turned_over n (x / 2) half, lowest, pow-suc 2 n)

-- the CRC is the register after the bytes' bits, turned over
pub crc32c_is : (bytes : List ℕ) → crc32c bytes ≡ 2 ^ 32 - 1 - register_after_bits (2 ^ 32 - 1) (bits_of bytes)
unfolding crc32c remainder
crc32c_is bytes =
    let bits = bits_of bytes in
    let ones : ℕ = 2 ^ 32 - 1 in
    let fits : ones < 2 ^ 32 = omega arith in
    let front : message bytes ≡ leading_sum (bits ++ replicate 32 false) (low_bits 32 ones) =
    front_turned_over 32 (bits ++ replicate 32 false) in
    let long : length (message bytes) ≡ length bits + 32 =
    ap length front ∙ length-leading_sum (bits ++ replicate 32 false) (low_bits 32 ones) ∙ length-append bits (replicate 32 false) in
    let steps : length (message bytes) - 32 ≡ length bits = omega arith in
    ap (λ r. number_of (map not r)) (ap₂ division_steps steps front ∙ divided_is ones bits fits)
    ∙ number_turned_over 32 (register_after_bits ones bits) (fed_fits ones bits fits)
