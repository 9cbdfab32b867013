-- Bytes that are taken out of a message, and added to those after them, leave the register as it is.
use Rattle.std.proofs.Common.{◌≡◌, ℕ, zero, suc, ◌+◌, ◌-◌, ◌*◌, ◌/◌, ◌%◌, ◌^◌, ◌<◌, ◌≤◌, Bool, true, false, ◌&&◌, nat_eq, get_or, slice_get, None, Some, List, [], ◌∷◌, ◌++◌, length, take, drop, replicate, bit_xor, refl, sym, ap, ap₂, ◌∙◌, arith, append_assoc, append-nil, length-append, length-take-le, length-drop, take-append-drop, take-take, take-add, take_at, drop-drop, drop_at, pow_pos, pow-suc}
use Rattle.std.proofs.lemmas.Bool.{and_parts, eqb-true}
use Rattle.std.proofs.lemmas.List.{drop-append-le, drop-take, drop-replicate, length-replicate, replicate-append-replicate, take-append-le, take-replicate}
use Rattle.std.proofs.lemmas.List.Edits.{take-paste}
use Rattle.std.proofs.lemmas.List.Folds.{concat-append}
use Rattle.std.proofs.lemmas.Nat.{div_below, mod_below, xor_lt}
use Rattle.std.proofs.lemmas.Simd.{length-zip2, put_chunk_is}
use Rattle.std.specs.List.{AllByRecursion, concat}
use Rattle.std.specs.Simd.{first_chunks}
use lib.Bits.{xor_assoc, xor_comm, xor_zero_l, xor_zero_r, xor_self}
use lib.Lanes.{zip2, put_chunk}
use lib.Seq.{paste}
use borrow.Rule.Slice.PartMut.{mid_of, post_of, put_mid}
use Rattle.coding.specs.Crc.{low_bits, bits_of, coefficient_sum, leading_sum}
use Rattle.coding.specs.CrcRegister.{register_after_step, register_after_steps, register_after_bits, register_of_lanes}
use Rattle.coding.specs.CrcWindow.{the_lags, last_bytes, chunk_sum, register_of_taken, IsRegisterOf}
use Rattle.coding.proofs.CrcKernel.{chunks_all, chunks_next, fed_byte, fed_bytes-append, fed_none, word, word_fed}
use Rattle.coding.proofs.CrcRegisterLemmas.{xor_pairs, bit_cases, split_at, after_step-xor, after_steps-xor, after_steps-add, after_steps-after_steps, after_step_fits, digit, fed_fits, low_bits-xor, length-low_bits}

-- ---- exclusive or

xor_undone : (a b : ℕ) → bit_xor (bit_xor a b) b ≡ a
xor_undone a b = xor_assoc a b b ∙ ap (bit_xor a) (xor_self b) ∙ xor_zero_r a

xor_cancel : (a b c : ℕ) → bit_xor a c ≡ bit_xor b c → a ≡ b
xor_cancel a b c h = sym (xor_undone a c) ∙ ap (λ x. bit_xor x c) h ∙ xor_undone b c

same_of_xor : (a b : ℕ) → bit_xor a b ≡ 0 → a ≡ b
same_of_xor a b h = xor_cancel a b b (h ∙ sym (xor_self b))

-- ---- steps

steps_zero : (n : ℕ) → register_after_steps n 0 ≡ 0
unfolding register_after_step register_after_steps
steps_zero zero = refl
steps_zero (suc n) = steps_zero n

steps_none : (c : ℕ) → register_after_steps 0 c ≡ c
unfolding register_after_steps
steps_none c = refl

-- m steps and then n are k steps
steps_are : (m n k c : ℕ) → m + n ≡ k → register_after_steps n (register_after_steps m c) ≡ register_after_steps k c
steps_are m n k c h = sym (after_steps-add m n c) ∙ ap (λ t. register_after_steps t c) h

-- only 0 is stepped to 0
no_step : (d : ℕ) → d < 2 → (h : ℕ) → h < 2 ^ 31 → bit_xor h (d * 0x82f63b78) ≡ 0 → h * 2 + d ≡ 0
no_step =
    bit_cases (λ d. (h : ℕ) → h < 2 ^ 31 → bit_xor h (d * 0x82f63b78) ≡ 0 → h * 2 + d ≡ 0)
    (λ h small e. omega (arith, same_of_xor h 0 e)) (λ h small e. absurd (omega (arith, same_of_xor h 0x82f63b78 e)))

step_to_zero : (c : ℕ) → c < 2 ^ 32 → register_after_step c ≡ 0 → c ≡ 0
unfolding register_after_step
step_to_zero c h e =
    let whole : c / 2 * 2 + c % 2 ≡ 0 = no_step (c % 2) (omega arith) (c / 2) (omega arith) e in
    omega arith

steps_to_zero : (n c : ℕ) → c < 2 ^ 32 → register_after_steps n c ≡ 0 → c ≡ 0
unfolding register_after_steps
steps_to_zero zero c h e = e
steps_to_zero (suc n) c h e = step_to_zero c h (steps_to_zero n (register_after_step c) (after_step_fits c h) e)

pub steps_injective : (n a b : ℕ) → a < 2 ^ 32 → b < 2 ^ 32 → register_after_steps n a ≡ register_after_steps n b → a ≡ b
steps_injective n a b ha hb e =
    same_of_xor a b (steps_to_zero n (bit_xor a b) (xor_lt 32 a b ha hb)
    (after_steps-xor n a b ∙ ap (λ x. bit_xor x (register_after_steps n b)) e ∙ xor_self (register_after_steps n b)))

-- ---- bytes are fed in linearly

abbrev pub fed : ℕ → List ℕ → ℕ
fed c bytes = register_after_bits c (bits_of bytes)

digit-sum : (a b : Bool) → digit (coefficient_sum a b) ≡ bit_xor (digit a) (digit b)
digit-sum true true = refl
digit-sum true false = refl
digit-sum false true = refl
digit-sum false false = refl

fed_bits-sum : (c d : ℕ) (p q : List Bool) → length p ≡ length q → register_after_bits (bit_xor c d) (leading_sum p q) ≡ bit_xor (register_after_bits c p) (register_after_bits d q)
unfolding register_after_bits
fed_bits-sum c d [] [] h = refl
fed_bits-sum c d [] (b ∷ q) h = absurd (omega arith)
fed_bits-sum c d (a ∷ p) [] h = absurd (omega arith)
fed_bits-sum c d (a ∷ p) (b ∷ q) h =
    ap (λ x. register_after_bits (register_after_step x) (leading_sum p q)) (ap (bit_xor (bit_xor c d)) (digit-sum a b) ∙ xor_pairs c d (digit a) (digit b))
    ∙ ap (λ x. register_after_bits x (leading_sum p q)) (after_step-xor (bit_xor c (digit a)) (bit_xor d (digit b)))
    ∙ fed_bits-sum (register_after_step (bit_xor c (digit a))) (register_after_step (bit_xor d (digit b))) p q (omega arith)

leading_sum-append : (p q r s : List Bool) → length p ≡ length q → leading_sum (p ++ r) (q ++ s) ≡ leading_sum p q ++ leading_sum r s
leading_sum-append [] [] r s h = refl
leading_sum-append [] (b ∷ q) r s h = absurd (omega arith)
leading_sum-append (a ∷ p) [] r s h = absurd (omega arith)
leading_sum-append (a ∷ p) (b ∷ q) r s h = ap (λ t. coefficient_sum a b ∷ t) (leading_sum-append p q r s (omega arith))

bits_of-xor : (xs ys : List ℕ) → length xs ≡ length ys → bits_of (zip2 bit_xor xs ys) ≡ leading_sum (bits_of xs) (bits_of ys)
bits_of-xor [] [] h = refl
bits_of-xor [] (y ∷ ys) h = absurd (omega arith)
bits_of-xor (x ∷ xs) [] h = absurd (omega arith)
bits_of-xor (x ∷ xs) (y ∷ ys) h =
    ap₂ (λ p q. p ++ q) (low_bits-xor 8 x y) (bits_of-xor xs ys (omega arith))
    ∙ sym (leading_sum-append (low_bits 8 x) (low_bits 8 y) (bits_of xs) (bits_of ys) (length-low_bits 8 x ∙ sym (length-low_bits 8 y)))

length-bits_of : (xs : List ℕ) → length (bits_of xs) ≡ 8 * length xs
length-bits_of [] = refl
length-bits_of (x ∷ xs) = omega (arith, length-append (low_bits 8 x) (bits_of xs), length-low_bits 8 x, length-bits_of xs)

fed-xor : (xs ys : List ℕ) → length xs ≡ length ys → fed 0 (zip2 bit_xor xs ys) ≡ bit_xor (fed 0 xs) (fed 0 ys)
fed-xor xs ys h =
    ap (register_after_bits 0) (bits_of-xor xs ys h)
    ∙ fed_bits-sum 0 0 (bits_of xs) (bits_of ys) (omega (arith, length-bits_of xs, length-bits_of ys))

fed_bits_apart : (c : ℕ) (bits : List Bool) → register_after_bits c bits ≡ bit_xor (register_after_steps (length bits) c) (register_after_bits 0 bits)
unfolding register_after_bits register_after_steps
fed_bits_apart c [] = sym (xor_zero_r c)
fed_bits_apart c (b ∷ bits) =
    let n = length bits in
    let rest = register_after_bits 0 bits in
    let first = register_after_steps n (register_after_step c) in
    let second = register_after_steps n (register_after_step (digit b)) in
    fed_bits_apart (register_after_step (bit_xor c (digit b))) bits
    ∙ ap (λ x. bit_xor x rest) (ap (register_after_steps n) (after_step-xor c (digit b)) ∙ after_steps-xor n (register_after_step c) (register_after_step (digit b)))
    ∙ xor_assoc first second rest
    ∙ ap (bit_xor first) (sym (ap (λ x. register_after_bits (register_after_step x) bits) (xor_zero_l (digit b)) ∙ fed_bits_apart (register_after_step (digit b)) bits))

-- the register so far and the bytes act apart
pub fed_apart : (c n : ℕ) (xs : List ℕ) → length xs ≡ n → fed c xs ≡ bit_xor (register_after_steps (8 * n) c) (fed 0 xs)
fed_apart c n xs h =
    let steps : length (bits_of xs) ≡ 8 * n = omega (arith, length-bits_of xs) in
    fed_bits_apart c (bits_of xs) ∙ ap (λ k. bit_xor (register_after_steps k c) (fed 0 xs)) steps

pub fed-zeros : (c n : ℕ) → fed c (replicate n 0) ≡ register_after_steps (8 * n) c
fed-zeros c zero = fed_none c ∙ sym (steps_none c)
fed-zeros c (suc n) =
    fed_byte c 0 (replicate n 0) (omega arith)
    ∙ ap (λ x. fed (register_after_steps 8 x) (replicate n 0)) (xor_zero_r c)
    ∙ fed-zeros (register_after_steps 8 c) n
    ∙ steps_are 8 (8 * n) (8 * suc n) c (omega arith)

fed_no_bytes : (n : ℕ) → fed 0 (replicate n 0) ≡ 0
fed_no_bytes n = fed-zeros 0 n ∙ steps_zero (8 * n)

fed_then : (n : ℕ) (xs ys : List ℕ) → length ys ≡ n → fed 0 (xs ++ ys) ≡ bit_xor (register_after_steps (8 * n) (fed 0 xs)) (fed 0 ys)
fed_then n xs ys h = fed_bytes-append 0 xs ys ∙ fed_apart (fed 0 xs) n ys h

-- ---- what one lag still adds

abbrev still_added : ℕ → List ℕ → ℕ
still_added lag taken = register_after_steps (8 * (266 - lag)) (fed 0 (last_bytes lag taken))

-- the lags of a list are such that a chunk lies within each
abbrev pub AreWithin : List ℕ → Type 0
AreWithin = AllByRecursion (λ lag. (16 ≤ lag) × (lag ≤ 266))

pub the_lags_within : AreWithin the_lags
the_lags_within =
    ((omega arith, omega arith), ((omega arith, omega arith), ((omega arith, omega arith), ((omega arith, omega arith), ((omega arith, omega arith), tt)))))

last_more : (lag : ℕ) (taken more : List ℕ) → 16 ≤ lag → lag ≤ length taken → length more ≡ 16
    → last_bytes lag (taken ++ more) ≡ drop 16 (last_bytes lag taken) ++ more
last_more lag taken more near inside h =
    let place : length (taken ++ more) - lag ≡ length taken - lag + 16 = omega (arith, length-append taken more) in
    ap (λ i. drop i (taken ++ more)) place
    ∙ drop-append-le (length taken - lag + 16) taken more (omega arith)
    ∙ ap (λ t. t ++ more) (sym (drop-drop 16 (length taken - lag) taken))

added_more : (lag : ℕ) (taken more : List ℕ) → 16 ≤ lag → lag ≤ 266 → lag ≤ length taken → length more ≡ 16
    → bit_xor (still_added lag (taken ++ more)) (register_after_steps 2128 (fed 0 (take 16 (last_bytes lag taken))))
    ≡ bit_xor (register_after_steps 128 (still_added lag taken)) (register_after_steps (8 * (266 - lag)) (fed 0 more))
added_more lag taken more near far inside h =
    let k = 8 * (266 - lag) in
    let front = fed 0 (take 16 (last_bytes lag taken)) in
    let back = drop 16 (last_bytes lag taken) in
    let rest = fed 0 back in
    let added = register_after_steps k (fed 0 more) in
    let left : length back ≡ lag - 16 = omega (arith, length-drop 16 (last_bytes lag taken), length-drop (length taken - lag) taken) in
    let new : still_added lag (taken ++ more) ≡ bit_xor (register_after_steps (128 + k) rest) added =
    ap (λ t. register_after_steps k (fed 0 t)) (last_more lag taken more near inside h)
    ∙ ap (register_after_steps k) (fed_then 16 back more h)
    ∙ after_steps-xor k (register_after_steps 128 rest) (fed 0 more)
    ∙ ap (λ x. bit_xor x added) (steps_are 128 k (128 + k) rest (omega arith)) in
    let old : register_after_steps 128 (still_added lag taken) ≡ bit_xor (register_after_steps 2128 front) (register_after_steps (128 + k) rest) =
    steps_are k 128 (128 + k) (fed 0 (last_bytes lag taken)) (omega arith)
    ∙ ap (λ t. register_after_steps (128 + k) (fed 0 t)) (sym (take-append-drop 16 (last_bytes lag taken)))
    ∙ ap (register_after_steps (128 + k)) (fed_then (lag - 16) (take 16 (last_bytes lag taken)) back left)
    ∙ after_steps-xor (128 + k) (register_after_steps (8 * (lag - 16)) front) rest
    ∙ ap (λ x. bit_xor x (register_after_steps (128 + k) rest)) (steps_are (8 * (lag - 16)) (128 + k) 2128 front (omega arith)) in
    ap (λ x. bit_xor x (register_after_steps 2128 front)) new
    ∙ xor_comm (bit_xor (register_after_steps (128 + k) rest) added) (register_after_steps 2128 front)
    ∙ sym (xor_assoc (register_after_steps 2128 front) (register_after_steps (128 + k) rest) added)
    ∙ ap (λ x. bit_xor x added) (sym old)

-- ---- and all of them

-- the bytes that are added to the next chunk, each lag's by themselves
chunk_added : List ℕ → List ℕ → ℕ
chunk_added [] taken = 0
chunk_added (lag ∷ lags) taken = bit_xor (fed 0 (take 16 (last_bytes lag taken))) (chunk_added lags taken)

-- what a register is at the lags' distances from the farthest
at_lags : List ℕ → ℕ → ℕ
at_lags [] c = 0
at_lags (lag ∷ lags) c = bit_xor (register_after_steps (8 * (266 - lag)) c) (at_lags lags c)

all_added_more : (lags taken more : List ℕ) → AreWithin lags → 266 ≤ length taken → length more ≡ 16
    → bit_xor (register_of_taken lags (taken ++ more)) (register_after_steps 2128 (chunk_added lags taken))
    ≡ bit_xor (register_after_steps 128 (register_of_taken lags taken)) (at_lags lags (fed 0 more))
unfolding register_of_taken chunk_added at_lags
all_added_more [] taken more within long h =
    ap (bit_xor 0) (steps_zero 2128) ∙ ap (λ x. bit_xor x 0) (sym (steps_zero 128))
all_added_more (lag ∷ lags) taken more within long h =
    let here = still_added lag (taken ++ more) in
    let there = register_of_taken lags (taken ++ more) in
    let front = fed 0 (take 16 (last_bytes lag taken)) in
    let fronts = chunk_added lags taken in
    let old = still_added lag taken in
    let olds = register_of_taken lags taken in
    let added = register_after_steps (8 * (266 - lag)) (fed 0 more) in
    ap (bit_xor (bit_xor here there)) (after_steps-xor 2128 front fronts)
    ∙ xor_pairs here there (register_after_steps 2128 front) (register_after_steps 2128 fronts)
    ∙ ap₂ bit_xor (added_more lag taken more within.0.0 within.0.1 (omega (arith, within.0.1)) h) (all_added_more lags taken more within.1 long h)
    ∙ xor_pairs (register_after_steps 128 old) added (register_after_steps 128 olds) (at_lags lags (fed 0 more))
    ∙ ap (λ x. bit_xor x (bit_xor added (at_lags lags (fed 0 more)))) (sym (after_steps-xor 128 old olds))

length-part : (lag : ℕ) (taken : List ℕ) → 16 ≤ lag → lag ≤ length taken → length (take 16 (last_bytes lag taken)) ≡ 16
length-part lag taken near inside = length-take-le 16 (last_bytes lag taken) (omega (arith, length-drop (length taken - lag) taken))

length-chunk_sum : (lags taken chunk : List ℕ) → AreWithin lags → 266 ≤ length taken → length chunk ≡ 16 → length (chunk_sum lags taken chunk) ≡ 16
length-chunk_sum [] taken chunk within long h = h
length-chunk_sum (lag ∷ lags) taken chunk within long h =
    let part = take 16 (last_bytes lag taken) in
    let same : length chunk ≡ length part = h ∙ sym (length-part lag taken within.0.0 (omega (arith, within.0.1))) in
    length-chunk_sum lags taken (zip2 bit_xor chunk part) within.1 long (length-zip2 bit_xor chunk part same ∙ h)

fed-chunk_sum : (lags taken chunk : List ℕ) → AreWithin lags → 266 ≤ length taken → length chunk ≡ 16
    → fed 0 (chunk_sum lags taken chunk) ≡ bit_xor (fed 0 chunk) (chunk_added lags taken)
unfolding chunk_added
fed-chunk_sum [] taken chunk within long h = sym (xor_zero_r (fed 0 chunk))
fed-chunk_sum (lag ∷ lags) taken chunk within long h =
    let part = take 16 (last_bytes lag taken) in
    let same : length chunk ≡ length part = h ∙ sym (length-part lag taken within.0.0 (omega (arith, within.0.1))) in
    fed-chunk_sum lags taken (zip2 bit_xor chunk part) within.1 long (length-zip2 bit_xor chunk part same ∙ h)
    ∙ ap (λ x. bit_xor x (chunk_added lags taken)) (fed-xor chunk part same)
    ∙ xor_assoc (fed 0 chunk) (fed 0 part) (chunk_added lags taken)

-- ---- the multiple of the divisor

at_lags-xor : (lags : List ℕ) (a b : ℕ) → at_lags lags (bit_xor a b) ≡ bit_xor (at_lags lags a) (at_lags lags b)
unfolding at_lags
at_lags-xor [] a b = refl
at_lags-xor (lag ∷ lags) a b =
    let k = 8 * (266 - lag) in
    ap₂ bit_xor (after_steps-xor k a b) (at_lags-xor lags a b)
    ∙ xor_pairs (register_after_steps k a) (register_after_steps k b) (at_lags lags a) (at_lags lags b)

at_lags-zero : (lags : List ℕ) → at_lags lags 0 ≡ 0
unfolding at_lags
at_lags-zero [] = refl
at_lags-zero (lag ∷ lags) = ap₂ bit_xor (steps_zero (8 * (266 - lag))) (at_lags-zero lags)

-- it is one for each of the n lowest bits
is_multiple : ℕ → Bool
is_multiple zero = true
is_multiple (suc n) = nat_eq (at_lags the_lags (2 ^ n)) (register_after_steps 2128 (2 ^ n)) && is_multiple n

is_multiple_by_computing : is_multiple 32 ≡ true
unfolding is_multiple at_lags register_after_steps register_after_step
is_multiple_by_computing = refl

multiple_at : (n : ℕ) → is_multiple n ≡ true → (c : ℕ) → c < 2 ^ n → at_lags the_lags c ≡ register_after_steps 2128 c
unfolding is_multiple
multiple_at zero all c h =
    let none : c ≡ 0 = omega arith in
    ap (at_lags the_lags) none ∙ at_lags-zero the_lags ∙ sym (steps_zero 2128) ∙ ap (register_after_steps 2128) (sym none)
multiple_at (suc n) all c h =
    let parts = and_parts (nat_eq (at_lags the_lags (2 ^ n)) (register_after_steps 2128 (2 ^ n))) (is_multiple n) all in
    let bit : at_lags the_lags (2 ^ n) ≡ register_after_steps 2128 (2 ^ n) = eqb-true (at_lags the_lags (2 ^ n)) (register_after_steps 2128 (2 ^ n)) parts.0 in
    let nothing : 0 * 2 ^ n ≡ 0 = omega arith in
    let itself : 1 * 2 ^ n ≡ 2 ^ n = omega arith in
    let top : at_lags the_lags (c / 2 ^ n * 2 ^ n) ≡ register_after_steps 2128 (c / 2 ^ n * 2 ^ n) =
    bit_cases (λ d. at_lags the_lags (d * 2 ^ n) ≡ register_after_steps 2128 (d * 2 ^ n))
    (ap (at_lags the_lags) nothing ∙ at_lags-zero the_lags ∙ sym (steps_zero 2128) ∙ ap (register_after_steps 2128) (sym nothing))
    (ap (at_lags the_lags) itself ∙ bit ∙ ap (register_after_steps 2128) (sym itself))
    (c / 2 ^ n) (div_below c (2 ^ n) 2 (pow_pos n) (omega (arith, pow-suc 2 n))) in
    let low : at_lags the_lags (c % 2 ^ n) ≡ register_after_steps 2128 (c % 2 ^ n) = multiple_at n parts.1 (c % 2 ^ n) (mod_below c (2 ^ n) (pow_pos n)) in
    ap (at_lags the_lags) (sym (split_at n c)) ∙ at_lags-xor the_lags (c / 2 ^ n * 2 ^ n) (c % 2 ^ n)
    ∙ ap₂ bit_xor top low
    ∙ sym (after_steps-xor 2128 (c / 2 ^ n * 2 ^ n) (c % 2 ^ n)) ∙ ap (register_after_steps 2128) (split_at n c)

-- ---- a chunk more

bytes_fit : (bytes : List ℕ) → fed 0 bytes < 2 ^ 32
bytes_fit bytes = fed_fits 0 (bits_of bytes) (omega arith)

-- what the bytes taken out are worth after sixteen more
taken_more : (taken more : List ℕ) → 266 ≤ length taken → length more ≡ 16
    → bit_xor (register_of_taken the_lags (taken ++ more)) (register_after_steps 2128 (chunk_added the_lags taken))
    ≡ bit_xor (register_after_steps 128 (register_of_taken the_lags taken)) (register_after_steps 2128 (fed 0 more))
taken_more taken more long h =
    all_added_more the_lags taken more the_lags_within long h
    ∙ ap (bit_xor (register_after_steps 128 (register_of_taken the_lags taken))) (multiple_at 32 is_multiple_by_computing (fed 0 more) (bytes_fit more))

-- a chunk is taken out
pub stands_more : (register : ℕ) (taken chunk : List ℕ) → 266 ≤ length taken → length chunk ≡ 16
    → IsRegisterOf taken register → IsRegisterOf (taken ++ chunk_sum the_lags taken chunk) (fed register chunk)
stands_more register taken chunk long h stands =
    let sum = chunk_sum the_lags taken chunk in
    let added = register_after_steps 2128 (chunk_added the_lags taken) in
    let own = register_after_steps 2128 (fed 0 chunk) in
    let old = register_after_steps 128 (register_of_taken the_lags taken) in
    let stood : old ≡ register_after_steps 2128 (register_after_steps 128 register) =
    ap (register_after_steps 128) stands ∙ after_steps-after_steps 128 2128 register in
    xor_cancel (register_of_taken the_lags (taken ++ sum)) (bit_xor old own) added
    (taken_more taken sum long (length-chunk_sum the_lags taken chunk the_lags_within long h)
    ∙ ap (bit_xor old) (ap (register_after_steps 2128) (fed-chunk_sum the_lags taken chunk the_lags_within long h) ∙ after_steps-xor 2128 (fed 0 chunk) (chunk_added the_lags taken))
    ∙ sym (xor_assoc old own added))
    ∙ ap (λ x. bit_xor x own) stood
    ∙ sym (after_steps-xor 2128 (register_after_steps 128 register) (fed 0 chunk))
    ∙ ap (register_after_steps 2128) (sym (fed_apart register 16 chunk h))

pub no_lanes : register_of_lanes (record { first = 0; second = 0; third = 0; fourth = 0 }) ≡ 0
unfolding register_of_lanes register_after_steps register_after_step
no_lanes = refl

-- what is still to be added, and a register that was fed what has been added, are together worth a register
abbrev pub StandWith : List ℕ → ℕ → ℕ → Type 0
StandWith taken done register = bit_xor (register_after_steps 2128 done) (register_of_taken the_lags taken) ≡ register_after_steps 2128 register

pub stand_first : (taken : List ℕ) (register : ℕ) → IsRegisterOf taken register → StandWith taken 0 register
stand_first taken register stands =
    ap (λ x. bit_xor x (register_of_taken the_lags taken)) (steps_zero 2128) ∙ xor_zero_l (register_of_taken the_lags taken) ∙ stands

-- a chunk is fed in, and 0 is taken out in its place
pub stand_more : (register done : ℕ) (taken chunk : List ℕ) → 266 ≤ length taken → length chunk ≡ 16
    → StandWith taken done register → StandWith (taken ++ replicate 16 0) (fed done (chunk_sum the_lags taken chunk)) (fed register chunk)
stand_more register done taken chunk long h stand =
    let sum = chunk_sum the_lags taken chunk in
    let added = register_after_steps 2128 (chunk_added the_lags taken) in
    let own = register_after_steps 2128 (fed 0 chunk) in
    let past = register_after_steps 2128 (register_after_steps 128 done) in
    let old = register_after_steps 128 (register_of_taken the_lags taken) in
    let new = register_of_taken the_lags (taken ++ replicate 16 0) in
    let nothing : register_after_steps 2128 (fed 0 (replicate 16 0)) ≡ 0 = ap (register_after_steps 2128) (fed_no_bytes 16) ∙ steps_zero 2128 in
    let rest : bit_xor added new ≡ old =
    xor_comm added new ∙ taken_more taken (replicate 16 0) long (length-replicate {A = ℕ} 16 0) ∙ ap (bit_xor old) nothing ∙ xor_zero_r old in
    let together : bit_xor past old ≡ register_after_steps 2128 (register_after_steps 128 register) =
    ap (λ x. bit_xor x old) (after_steps-after_steps 2128 128 done) ∙ sym (after_steps-xor 128 (register_after_steps 2128 done) (register_of_taken the_lags taken))
    ∙ ap (register_after_steps 128) stand ∙ after_steps-after_steps 128 2128 register in
    ap (λ x. bit_xor (register_after_steps 2128 x) new)
    (fed_apart done 16 sum (length-chunk_sum the_lags taken chunk the_lags_within long h) ∙ ap (bit_xor (register_after_steps 128 done)) (fed-chunk_sum the_lags taken chunk the_lags_within long h))
    ∙ ap (λ x. bit_xor x new)
    (after_steps-xor 2128 (register_after_steps 128 done) (bit_xor (fed 0 chunk) (chunk_added the_lags taken))
    ∙ ap (bit_xor past) (after_steps-xor 2128 (fed 0 chunk) (chunk_added the_lags taken)))
    ∙ xor_assoc past (bit_xor own added) new
    ∙ ap (bit_xor past) (xor_assoc own added new ∙ ap (bit_xor own) rest ∙ xor_comm own old)
    ∙ sym (xor_assoc past old own)
    ∙ ap (λ x. bit_xor x own) together
    ∙ sym (after_steps-xor 2128 (register_after_steps 128 register) (fed 0 chunk))
    ∙ ap (register_after_steps 2128) (sym (fed_apart register 16 chunk h))

-- ---- the ends

last_of_zeros : (lag n : ℕ) (taken : List ℕ) → lag ≤ n → last_bytes lag (taken ++ replicate n 0) ≡ replicate lag 0
last_of_zeros lag n taken h =
    let place : length (taken ++ replicate n 0) - lag ≡ length taken + (n - lag) = omega (arith, length-append taken (replicate n 0), length-replicate {A = ℕ} n 0) in
    let left : n - (n - lag) ≡ lag = omega arith in
    ap (λ i. drop i (taken ++ replicate n 0)) place
    ∙ sym (drop-drop (n - lag) (length taken) (taken ++ replicate n 0))
    ∙ ap (drop (n - lag)) (drop_at taken (replicate n 0) (length taken) refl)
    ∙ drop-replicate (n - lag) n 0
    ∙ ap (λ k. replicate k 0) left

zeros_add_nothing : (lag n : ℕ) (taken : List ℕ) → lag ≤ n → still_added lag (taken ++ replicate n 0) ≡ 0
zeros_add_nothing lag n taken h =
    ap (λ t. register_after_steps (8 * (266 - lag)) (fed 0 t)) (last_of_zeros lag n taken h)
    ∙ ap (register_after_steps (8 * (266 - lag))) (fed_no_bytes lag) ∙ steps_zero (8 * (266 - lag))

nothing_left : (lags taken : List ℕ) → AreWithin lags → register_of_taken lags (taken ++ replicate 272 0) ≡ 0
unfolding register_of_taken
nothing_left [] taken within = refl
nothing_left (lag ∷ lags) taken within =
    ap₂ bit_xor (zeros_add_nothing lag 272 taken (omega (arith, within.0.1))) (nothing_left lags taken within.1)

-- of a register's bytes and zeros, only the farthest lag adds the register
farthest_alone : (lags bytes : List ℕ) → AllByRecursion (λ lag. lag ≤ 262) lags → length bytes ≡ 4
    → register_of_taken (lags ++ 266 ∷ []) (bytes ++ replicate 262 0) ≡ register_after_steps 2096 (fed 0 bytes)
unfolding register_of_taken
farthest_alone [] bytes near h =
    let whole : length (bytes ++ replicate 262 0) - 266 ≡ 0 = omega (arith, length-append bytes (replicate 262 0), length-replicate {A = ℕ} 262 0) in
    xor_zero_r (still_added 266 (bytes ++ replicate 262 0))
    ∙ steps_none (fed 0 (last_bytes 266 (bytes ++ replicate 262 0)))
    ∙ ap (λ i. fed 0 (drop i (bytes ++ replicate 262 0))) whole
    ∙ fed_bytes-append 0 bytes (replicate 262 0) ∙ fed-zeros (fed 0 bytes) 262
farthest_alone (lag ∷ lags) bytes near h =
    ap₂ bit_xor (zeros_add_nothing lag 262 bytes near.0) (farthest_alone lags bytes near.1 h)
    ∙ xor_zero_l (register_after_steps 2096 (fed 0 bytes))

pub stands_first : (register a b c d : ℕ) → a < 256 → b < 256 → c < 256 → d < 256 → word a b c d ≡ register
    → IsRegisterOf (a ∷ b ∷ c ∷ d ∷ replicate 262 0) register
stands_first register a b c d ha hb hc hd is =
    farthest_alone (123 ∷ 145 ∷ 178 ∷ 195 ∷ []) (a ∷ b ∷ c ∷ d ∷ []) (omega arith, (omega arith, (omega arith, (omega arith, tt)))) refl
    ∙ ap (register_after_steps 2096)
    (word_fed 0 a b c d [] ha hb hc hd ∙ fed_none (register_after_steps 32 (bit_xor 0 (word a b c d)))
    ∙ ap (register_after_steps 32) (xor_zero_l (word a b c d) ∙ is))
    ∙ steps_are 32 2096 2128 register refl

-- after 272 zeros nothing is to be added, and the register that was fed is the register
pub stand_last : (register done : ℕ) (taken : List ℕ) → register < 2 ^ 32 → done < 2 ^ 32
    → StandWith (taken ++ replicate 272 0) done register → done ≡ register
stand_last register done taken hr hd stand =
    steps_injective 2128 done register hd hr
    (sym (xor_zero_r (register_after_steps 2128 done)) ∙ ap (bit_xor (register_after_steps 2128 done)) (sym (nothing_left the_lags taken the_lags_within)) ∙ stand)

-- the bytes before the last 266 count for nothing
last_of_last : (lag : ℕ) (taken : List ℕ) → lag ≤ 266 → 266 ≤ length taken → last_bytes lag (last_bytes 266 taken) ≡ last_bytes lag taken
last_of_last lag taken h long =
    let front = length taken - 266 in
    let count : length (last_bytes 266 taken) - lag ≡ 266 - lag = omega (arith, length-drop (length taken - 266) taken) in
    let place : length taken - 266 + (266 - lag) ≡ length taken - lag = omega arith in
    ap (λ i. drop i (last_bytes 266 taken)) count ∙ drop-drop (266 - lag) (length taken - 266) taken ∙ ap (λ i. drop i taken) place

worth_of_last : (lags taken : List ℕ) → AreWithin lags → 266 ≤ length taken → register_of_taken lags (last_bytes 266 taken) ≡ register_of_taken lags taken
unfolding register_of_taken
worth_of_last [] taken within long = refl
worth_of_last (lag ∷ lags) taken within long =
    ap₂ bit_xor (ap (λ t. register_after_steps (8 * (266 - lag)) (fed 0 t)) (last_of_last lag taken within.0.1 long)) (worth_of_last lags taken within.1 long)

pub stands_last : (register : ℕ) (taken : List ℕ) → 266 ≤ length taken → IsRegisterOf taken register → IsRegisterOf (last_bytes 266 taken) register
stands_last register taken long stands = worth_of_last the_lags taken the_lags_within long ∙ stands

-- ---- the lists of the loops

-- the part of a slice that is added is that of the bytes taken out
pub part_is : (lag place : ℕ) (xs : List ℕ) → 16 ≤ lag → lag ≤ place → place ≤ length xs → take 16 (drop (place - lag) xs) ≡ take 16 (last_bytes lag (take place xs))
part_is lag place xs near inside room =
    let count : length (take place xs) ≡ place = length-take-le place xs room in
    let whole : place ≡ place - lag + lag = omega arith in
    sym (ap (λ n. take 16 (drop (n - lag) (take place xs))) count
    ∙ ap (λ n. take 16 (drop (place - lag) (take n xs))) whole
    ∙ ap (take 16) (drop-take (place - lag) lag xs)
    ∙ take-take 16 lag (drop (place - lag) xs) near)

-- some chunks and then the others
pub chunks_apart : (r k : ℕ) (chunks : List (List ℕ)) → fed (fed r (concat (take k chunks))) (concat (drop k chunks)) ≡ fed r (concat chunks)
chunks_apart r k chunks =
    sym (fed_bytes-append r (concat (take k chunks)) (concat (drop k chunks)))
    ∙ ap (fed r) (sym (concat-append (take k chunks) (drop k chunks)) ∙ ap concat (take-append-drop k chunks))

-- a chunk is stored after the others
stored : (place n : ℕ) (taken sum : List ℕ) → length taken ≡ n → length sum ≡ 16 → place + 16 ≤ n
    → take (place + 16) (put_mid place (n - place) taken (put_chunk 0 (mid_of place (n - place) taken) sum)) ≡ take place taken ++ sum
stored place n taken sum h s room =
    let mid = mid_of place (n - place) taken in
    let rest = drop (length sum) mid in
    let post = post_of place (n - place) taken in
    let front = take place taken in
    let long : length mid ≡ n - place = length-take-le (n - place) (drop place taken) (omega (arith, length-drop place taken)) in
    let put : put_chunk 0 mid sum ≡ sum ++ rest = put_chunk_is 0 mid sum (omega arith) in
    let count : length (front ++ sum) ≡ place + 16 = omega (arith, length-append front sum, length-take-le place taken (omega arith)) in
    ap (take (place + 16))
    (ap (λ t. front ++ (t ++ post)) put ∙ ap (λ t. front ++ t) (append_assoc sum rest post) ∙ sym (append_assoc front sum (rest ++ post)))
    ∙ take_at (front ++ sum) (rest ++ post) (place + 16) count

-- one chunk more is taken out
pub out_more : (taken new chunk : List ℕ) (place : ℕ) (sum : List ℕ) → 266 ≤ place → place ≤ 1274 → length taken ≡ 1290
    → length chunk ≡ 16 → sum ≡ chunk_sum the_lags (take place taken) chunk
    → new ≡ put_mid place (1290 - place) taken (put_chunk 0 (mid_of place (1290 - place) taken) sum)
    → (r : ℕ) → IsRegisterOf (take place taken) r → IsRegisterOf (take (place + 16) new) (fed r chunk)
out_more taken new chunk place sum far room len h sum_is new_is r stands =
    let front = take place taken in
    let count : length front ≡ place = length-take-le place taken (omega arith) in
    let long : 266 ≤ length front = omega arith in
    let sixteen : length sum ≡ 16 = ap length sum_is ∙ length-chunk_sum the_lags front chunk the_lags_within long h in
    ap (register_of_taken the_lags) (ap (take (place + 16)) new_is ∙ stored place 1290 taken sum len sixteen (omega arith) ∙ ap (λ t. front ++ t) sum_is)
    ∙ stands_more r front chunk long h stands

-- two chunks are taken out
both_of : (pair : List (List ℕ)) → length pair ≡ 2 → concat pair ≡ get_or pair 0 [] ++ get_or pair 1 []
both_of [] h = absurd (omega arith)
both_of (a ∷ []) h = absurd (omega arith)
both_of (a ∷ b ∷ []) h = ap (λ t. a ++ t) (append-nil b)
both_of (a ∷ b ∷ c ∷ more) h = absurd (omega arith)

pub out_pair : (old middle new : List ℕ) (place : ℕ) (pair : List (List ℕ)) → length pair ≡ 2
    → ((r : ℕ) → IsRegisterOf (take place old) r → IsRegisterOf (take (place + 16) middle) (fed r (get_or pair 0 [])))
    → ((r : ℕ) → IsRegisterOf (take (place + 16) middle) r → IsRegisterOf (take (place + 16 + 16) new) (fed r (get_or pair 1 [])))
    → (r : ℕ) → IsRegisterOf (take place old) r → IsRegisterOf (take (place + 32) new) (fed r (concat pair))
out_pair old middle new place pair two first second r stands =
    let far : place + 32 ≡ place + 16 + 16 = omega arith in
    ap (λ n. register_of_taken the_lags (take n new)) far
    ∙ second (fed r (get_or pair 0 [])) (first r stands)
    ∙ ap (register_after_steps 2128)
    (sym (fed_bytes-append r (get_or pair 0 []) (get_or pair 1 [])) ∙ ap (fed r) (sym (both_of pair two)))

-- a pair of a list that is seen as pairs
pair_at : (i k : ℕ) (chunks : List (List ℕ)) → i < k → get_or (first_chunks 2 k chunks) i [] ≡ take 2 (drop (2 * i) chunks)
pair_at i zero chunks inside = absurd (omega arith)
pair_at zero (suc k) chunks inside = refl
pair_at (suc i) (suc k) chunks inside =
    let count : 2 * suc i ≡ 2 + 2 * i = omega arith in
    pair_at i k (drop 2 chunks) (omega arith)
    ∙ ap (take 2) (drop-drop (2 * i) 2 chunks ∙ ap (λ n. drop n chunks) (sym count))

-- a pair more is taken out
pub pairs_more : (taken new : List ℕ) (chunks pair : List (List ℕ)) (i k place next : ℕ) (pairs : List (List (List ℕ)))
    → pairs ≡ first_chunks 2 k chunks → pair ≡ get_or pairs i [] → i < k → next ≡ place + 32
    → ((r : ℕ) → IsRegisterOf (take place taken) r → IsRegisterOf (take (place + 32) new) (fed r (concat pair)))
    → (r : ℕ) → IsRegisterOf (take place taken) (fed r (concat (take (2 * i) chunks)))
    → IsRegisterOf (take next new) (fed r (concat (take (2 * (i + 1)) chunks)))
pairs_more taken new chunks pair i k place next pairs pairs_are pair_is inside next_is step r stands =
    let done = concat (take (2 * i) chunks) in
    let here : pair ≡ take 2 (drop (2 * i) chunks) =
    pair_is ∙ ap (λ t. get_or t i []) pairs_are ∙ pair_at i k chunks inside in
    let count : 2 * (i + 1) ≡ 2 * i + 2 = omega arith in
    let more : concat (take (2 * (i + 1)) chunks) ≡ done ++ concat pair =
    ap (λ n. concat (take n chunks)) count ∙ ap concat (take-add (2 * i) 2 chunks)
    ∙ concat-append (take (2 * i) chunks) (take 2 (drop (2 * i) chunks))
    ∙ ap (λ t. done ++ concat t) (sym here) in
    ap (λ n. register_of_taken the_lags (take n new)) next_is
    ∙ step (fed r done) stands
    ∙ ap (register_after_steps 2128) (sym (fed_bytes-append r done (concat pair)) ∙ ap (fed r) (sym more))

-- what is left after the pairs
pub is_one : (last : List (List ℕ)) (chunk : List ℕ) → slice_get last 0 ≡ Some chunk → 1 ≤ length last
is_one [] chunk h = absurd cc
is_one (x ∷ more) chunk h = omega arith

pub one_left : (last : List (List ℕ)) (chunk : List ℕ) → length last ≤ 1 → slice_get last 0 ≡ Some chunk → chunk ≡ concat last
one_left [] chunk few h = absurd cc
one_left (x ∷ []) chunk few h = let same : chunk ≡ x = cc in same ∙ sym (append-nil x)
one_left (x ∷ y ∷ more) chunk few h = absurd (omega arith)

pub none_left : (last : List (List ℕ)) → slice_get last 0 ≡ None → concat last ≡ []
none_left [] h = refl
none_left (x ∷ more) h = absurd cc

pub pairs_end : (r i k : ℕ) (chunks last : List (List ℕ)) → i ≡ k → last ≡ drop (k * 2) chunks
    → fed (fed r (concat (take (2 * i) chunks))) (concat last) ≡ fed r (concat chunks)
pairs_end r i k chunks last all last_is =
    let count : k * 2 ≡ 2 * i = omega arith in
    ap (λ t. fed (fed r (concat (take (2 * i) chunks))) (concat t)) (last_is ∙ ap (λ n. drop n chunks) count)
    ∙ chunks_apart r (2 * i) chunks

-- the last 266 bytes are moved to the front
pub moved : (place register : ℕ) (taken : List ℕ) → 266 ≤ place → place ≤ length taken → IsRegisterOf (take place taken) register
    → IsRegisterOf (take 266 (paste taken 0 (drop (place - 266) taken) (place - (place - 266)))) register
moved place register taken far room stands =
    let n : place - (place - 266) ≡ 266 = omega arith in
    let whole : place ≡ place - 266 + 266 = omega arith in
    let count : length (take place taken) ≡ place = length-take-le place taken room in
    let last : take 266 (drop (place - 266) taken) ≡ last_bytes 266 (take place taken) =
    sym (ap (λ k. drop (k - 266) (take place taken)) count ∙ ap (λ k. drop (place - 266) (take k taken)) whole ∙ drop-take (place - 266) 266 taken) in
    ap (register_of_taken the_lags)
    (ap (λ k. take 266 (paste taken 0 (drop (place - 266) taken) k)) n
    ∙ take-paste taken 0 (drop (place - 266) taken) 266 (omega arith) (omega (arith, length-drop (place - 266) taken))
    ∙ last)
    ∙ stands_last register (take place taken) (omega arith) stands

-- zeros that follow a window
pub zeros_to : (i place : ℕ) (front rest : List ℕ) → length front ≡ 266 → i ≤ 17 → place ≡ 266 + 16 * i
    → take place (front ++ (replicate 272 0 ++ rest)) ≡ front ++ replicate (16 * i) 0
zeros_to i place front rest h few is =
    let zeros : List ℕ = replicate 272 0 in
    let here : place ≡ length front + 16 * i = omega arith in
    ap (λ n. take n (front ++ (zeros ++ rest))) here
    ∙ take-add (length front) (16 * i) (front ++ (zeros ++ rest))
    ∙ ap₂ (λ x y. x ++ y) (take_at front (zeros ++ rest) (length front) refl)
    (ap (take (16 * i)) (drop_at front (zeros ++ rest) (length front) refl) ∙ take-append-le (16 * i) zeros rest (omega (arith, length-replicate {A = ℕ} 272 0)) ∙ take-replicate (16 * i) 272 0 (omega arith))

-- one of the last chunks more is fed in
pub left_more : (old filled : List ℕ) (chunks : List (List ℕ)) (i place done next : ℕ) (d sum : List ℕ) → length old ≡ 1290 → place ≡ 266 + 16 * i → i < length chunks → length chunks ≡ 17
    → length (get_or chunks i d) ≡ 16 → filled ≡ replicate (length (mid_of 266 272 old)) 0
    → sum ≡ chunk_sum the_lags (take place (put_mid 266 272 old filled)) (get_or chunks i d)
    → next ≡ fed done sum
    → ((r : ℕ) → IsRegisterOf (take 266 old) r → StandWith (take 266 old ++ replicate (16 * i) 0) done (fed r (concat (take i chunks))))
    → (r : ℕ) → IsRegisterOf (take 266 old) r → StandWith (take 266 old ++ replicate (16 * (i + 1)) 0) next (fed r (concat (take (i + 1) chunks)))
left_more old filled chunks i place done next d sum len place_is inside few h filled_is sum_is next_is stand r first =
    let front = take 266 old in
    let rest = drop 272 (drop 266 old) in
    let taken = front ++ replicate (16 * i) 0 in
    let chunk = get_or chunks i d in
    let window : length front ≡ 266 = length-take-le 266 old (omega arith) in
    let whole : 266 ≤ length taken = omega (arith, length-append front (replicate (16 * i) 0)) in
    let all : length (mid_of 266 272 old) ≡ 272 = length-take-le 272 (drop 266 old) (omega (arith, length-drop 266 old)) in
    let zeros : filled ≡ replicate 272 0 = filled_is ∙ ap (λ n. replicate n 0) all in
    let seen : take place (put_mid 266 272 old filled) ≡ taken =
    ap (λ t. take place (front ++ (t ++ rest))) zeros ∙ zeros_to i place front rest window (omega arith) place_is in
    let count : 16 * (i + 1) ≡ 16 * i + 16 = omega arith in
    let more : front ++ replicate (16 * (i + 1)) 0 ≡ taken ++ replicate 16 0 =
    ap (λ n. front ++ replicate n 0) count ∙ ap (λ t. front ++ t) (sym (replicate-append-replicate {A = ℕ} (16 * i) 16 0)) ∙ sym (append_assoc front (replicate (16 * i) 0) (replicate 16 0)) in
    ap₂ (λ x t. bit_xor (register_after_steps 2128 x) (register_of_taken the_lags t)) (next_is ∙ ap (fed done) (sum_is ∙ ap (λ t. chunk_sum the_lags t chunk) seen)) more
    ∙ stand_more (fed r (concat (take i chunks))) done taken chunk whole h (stand r first)
    ∙ ap (register_after_steps 2128) (chunks_next r chunks i d inside)

-- all of them were fed in
pub left_done : (old : List ℕ) (chunks : List (List ℕ)) (i done register : ℕ) → i ≡ 17 → length chunks ≤ i → register < 2 ^ 32 → done < 2 ^ 32
    → StandWith (take 266 old ++ replicate (16 * i) 0) done (fed register (concat (take i chunks))) → done ≡ fed register (concat chunks)
left_done old chunks i done register is all hr hd stand =
    let count : 272 ≡ 16 * i = omega arith in
    stand_last (fed register (concat chunks)) done (take 266 old) (fed_fits register (bits_of (concat chunks)) hr) hd
    (ap (λ n. bit_xor (register_after_steps 2128 done) (register_of_taken the_lags (take 266 old ++ replicate n 0))) count
    ∙ stand ∙ ap (register_after_steps 2128) (chunks_all register chunks i all))

-- before the first of them
pub left_first : (old : List ℕ) (r : ℕ) → IsRegisterOf (take 266 old) r
    → StandWith (take 266 old ++ []) (register_of_lanes (record { first = 0; second = 0; third = 0; fourth = 0 })) (register_after_bits r [])
left_first old r first =
    ap₂ (λ x t. bit_xor (register_after_steps 2128 x) (register_of_taken the_lags t)) no_lanes (append-nil (take 266 old))
    ∙ stand_first (take 266 old) r first ∙ ap (register_after_steps 2128) (sym (fed_none r))

pub lanes_fit : (old next : ℕ) (sum : List ℕ) → old < 2 ^ 32 → next ≡ fed old sum → next < 2 ^ 32
lanes_fit old next sum h is = rw is (fed_fits old (bits_of sum) h)

-- ---- rounds

-- what is left of a message, with what is still to be added to it, is worth the whole
pub record GoesOn (taken : List ℕ) (rest : List (List ℕ)) (whole : ℕ) : Type 0 where
  pub register : ℕ
  pub fits : register < 2 ^ 32
  pub stands : IsRegisterOf (take 266 taken) register
  pub rest_is : register_after_bits register (bits_of (concat rest)) ≡ whole

pub goes_more : (taken new : List ℕ) (rest round behind : List (List ℕ)) (k whole : ℕ) → round ≡ take k rest → behind ≡ drop k rest
    → ((r : ℕ) → IsRegisterOf (take 266 taken) r → IsRegisterOf (take 266 new) (fed r (concat round)))
    → GoesOn taken rest whole → GoesOn new behind whole
goes_more taken new rest round behind k whole round_is behind_is step g = record {
  register = fed g.register (concat round);
  fits = fed_fits g.register (bits_of (concat round)) g.fits;
  stands = step g.register g.stands;
  rest_is =
      ap₂ (λ x y. fed (fed g.register (concat x)) (concat y)) round_is behind_is
      ∙ chunks_apart g.register k rest ∙ g.rest_is;
}

-- ---- the sum of a chunk, by the places of its parts

abbrev pub sums : ℕ → List ℕ → ℕ → List ℕ → List ℕ → List ℕ
sums n [] place xs chunk = chunk
sums n (lag ∷ lags) place xs chunk = sums n lags place xs (zip2 bit_xor chunk (take 16 (take (n - (place - lag)) (drop (place - lag) xs))))

pub sums_are : (n : ℕ) (lags : List ℕ) (place : ℕ) (xs chunk : List ℕ) → AreWithin lags → 266 ≤ place → place ≤ n → length xs ≡ n
    → sums n lags place xs chunk ≡ chunk_sum lags (take place xs) chunk
sums_are n [] place xs chunk within far room len = refl
sums_are n (lag ∷ lags) place xs chunk within far room len =
    let same : take 16 (take (n - (place - lag)) (drop (place - lag) xs)) ≡ take 16 (last_bytes lag (take place xs)) =
    take-take 16 (n - (place - lag)) (drop (place - lag) xs) (omega (arith, within.0.0, within.0.1))
    ∙ part_is lag place xs within.0.0 (omega (arith, within.0.1)) (omega arith) in
    ap (λ t. sums n lags place xs (zip2 bit_xor chunk t)) same
    ∙ sums_are n lags place xs (zip2 bit_xor chunk (take 16 (last_bytes lag (take place xs)))) within.1 far room len
