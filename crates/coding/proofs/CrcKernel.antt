-- What the kernel's words and tables make of the register.
use Rattle.std.proofs.Common.{◌≡◌, ℕ, zero, suc, ◌+◌, ◌*◌, ◌/◌, ◌%◌, ◌^◌, ◌<◌, ◌≤◌, Bool, List, [], ◌∷◌, ◌++◌, length, take, drop, get_or, bit_xor, refl, sym, ap, ap₂, ◌∙◌, arith, append_assoc, drop-cons, drop_of_length-le, le_of_eq, take_all, append-nil, zero-mul, suc-mul, length-drop, drop-drop, take-append-drop}
use Rattle.std.proofs.lemmas.List.{take_more}
use Rattle.std.proofs.lemmas.List.Folds.{concat-append}
use Rattle.std.specs.Simd.{first_chunks}
use Rattle.std.specs.List.{concat}
use lib.Bits.{xor_assoc, xor_comm, xor_shifted}
use Rattle.coding.specs.declared.crc.Lanes.{Lanes}
use Rattle.coding.specs.declared.crc.tables.TheConstants.{AFTER_ONE, AFTER_THIRTEEN, AFTER_FOURTEEN, AFTER_FIFTEEN, AFTER_SIXTEEN}
use Rattle.coding.specs.Crc.{low_bits, bits_of}
use Rattle.coding.specs.CrcRegister.{register_after_steps, register_after_bits, register_of_lanes}
use Rattle.coding.proofs.CrcTables.{after_one, after_thirteen, after_fourteen, after_fifteen, after_sixteen}
use Rattle.coding.proofs.CrcRegisterLemmas.{xor_pairs, after_steps-xor, after_steps-add, after_steps-after_steps, after_steps-shifted, after_steps-split, fed-append, fed_bits}

-- ---- over tables

pub past_one_is : (c : ℕ) → bit_xor (c / 256) (get_or AFTER_ONE (c % 256) 0) ≡ register_after_steps 8 c
past_one_is c = ap (bit_xor (c / 256)) (after_one (c % 256) (omega arith)) ∙ sym (after_steps-split 8 c)

pub past_four_is : (c : ℕ) → register_after_steps 8 (register_after_steps 8 (register_after_steps 8 (register_after_steps 8 c))) ≡ register_after_steps 32 c
past_four_is c = sym (after_steps-add 24 8 c ∙ ap (register_after_steps 8) (after_steps-add 16 8 c ∙ ap (register_after_steps 8) (after_steps-add 8 8 c)))

-- the lowest byte apart from the others
low_byte : (n w : ℕ) → register_after_steps (8 + n) w ≡ bit_xor (register_after_steps (8 + n) (w % 256)) (register_after_steps n (w / 256))
low_byte n w =
    after_steps-add 8 n w ∙ ap (register_after_steps n) (after_steps-split 8 w) ∙ after_steps-xor n (w / 256) (register_after_steps 8 (w % 256))
    ∙ xor_comm (register_after_steps n (w / 256)) (register_after_steps n (register_after_steps 8 (w % 256)))
    ∙ ap (λ x. bit_xor x (register_after_steps n (w / 256))) (sym (after_steps-add 8 n (w % 256)))

four_bytes : (w : ℕ) → w < 2 ^ 32
    → register_after_steps 128 w ≡ bit_xor (bit_xor (bit_xor (register_after_steps 128 (w % 256)) (register_after_steps 120 (w / 256 % 256))) (register_after_steps 112 (w / 65536 % 256))) (register_after_steps 104 (w / 16777216 % 256))
four_bytes w h =
    let second : w / 256 / 256 ≡ w / 65536 = omega arith in
    let third : w / 65536 / 256 ≡ w / 16777216 = omega arith in
    let top : w / 16777216 ≡ w / 16777216 % 256 = omega arith in
    let b0 = register_after_steps 128 (w % 256) in
    let b1 = register_after_steps 120 (w / 256 % 256) in
    let b2 = register_after_steps 112 (w / 65536 % 256) in
    low_byte 120 w
    ∙ ap (bit_xor b0) (low_byte 112 (w / 256) ∙ ap (λ x. bit_xor b1 (register_after_steps 112 x)) second)
    ∙ ap (λ x. bit_xor b0 (bit_xor b1 x)) (low_byte 104 (w / 65536) ∙ ap (λ x. bit_xor b2 (register_after_steps 104 x)) (third ∙ top))
    ∙ sym (xor_assoc b0 b1 (bit_xor b2 (register_after_steps 104 (w / 16777216 % 256))))
    ∙ sym (xor_assoc (bit_xor b0 b1) b2 (register_after_steps 104 (w / 16777216 % 256)))

pub past_sixteen_is : (w : ℕ) → w < 2 ^ 32
    → bit_xor (bit_xor (bit_xor (get_or AFTER_SIXTEEN (w % 256) 0) (get_or AFTER_FIFTEEN (w / 256 % 256) 0)) (get_or AFTER_FOURTEEN (w / 65536 % 256) 0)) (get_or AFTER_THIRTEEN (w / 16777216 % 256) 0) ≡ register_after_steps 128 w
past_sixteen_is w h =
    ap₂ bit_xor (ap₂ bit_xor (ap₂ bit_xor (after_sixteen (w % 256) (omega arith)) (after_fifteen (w / 256 % 256) (omega arith)))
    (after_fourteen (w / 65536 % 256) (omega arith))) (after_thirteen (w / 16777216 % 256) (omega arith))
    ∙ sym (four_bytes w h)

-- ---- bytes fed in

pub fed_byte : (c b : ℕ) (bytes : List ℕ) → b < 256 → register_after_bits c (bits_of (b ∷ bytes)) ≡ register_after_bits (register_after_steps 8 (bit_xor c b)) (bits_of bytes)
fed_byte c b bytes h = fed-append c (low_bits 8 b) (bits_of bytes) ∙ ap (λ x. register_after_bits x (bits_of bytes)) (fed_bits 8 c b h)

pub bits_of-append : (xs ys : List ℕ) → bits_of (xs ++ ys) ≡ bits_of xs ++ bits_of ys
bits_of-append [] ys = refl
bits_of-append (x ∷ xs) ys =
    ap (λ bits. low_bits 8 x ++ bits) (bits_of-append xs ys) ∙ sym (append_assoc (low_bits 8 x) (bits_of xs) (bits_of ys))

pub fed_bytes-append : (c : ℕ) (xs ys : List ℕ) → register_after_bits c (bits_of (xs ++ ys)) ≡ register_after_bits (register_after_bits c (bits_of xs)) (bits_of ys)
fed_bytes-append c xs ys = ap (register_after_bits c) (bits_of-append xs ys) ∙ fed-append c (bits_of xs) (bits_of ys)

-- a byte more
pub fed_next : (r : ℕ) (xs : List ℕ) (i : ℕ) → i < length xs → get_or xs i 0 < 256
    → register_after_steps 8 (bit_xor (register_after_bits r (bits_of (take i xs))) (get_or xs i 0)) ≡ register_after_bits r (bits_of (take (i + 1) xs))
unfolding register_after_bits
fed_next r xs i inside small =
    let more : take (i + 1) xs ≡ take i xs ++ get_or xs i 0 ∷ [] = take_more xs i 0 inside in
    sym (fed_byte (register_after_bits r (bits_of (take i xs))) (get_or xs i 0) [] small)
    ∙ sym (fed_bytes-append r (take i xs) (get_or xs i 0 ∷ []))
    ∙ ap (λ t. register_after_bits r (bits_of t)) (sym more)

pub fed_all : (r : ℕ) (xs : List ℕ) (i : ℕ) → length xs ≤ i → register_after_bits r (bits_of (take i xs)) ≡ register_after_bits r (bits_of xs)
fed_all r xs i h = ap (λ t. register_after_bits r (bits_of t)) (take_all i xs h)

pub fed_none : (r : ℕ) → register_after_bits r [] ≡ r
unfolding register_after_bits
fed_none r = refl

-- a chunk more
pub chunks_next : (r : ℕ) (xs : List (List ℕ)) (i : ℕ) (d : List ℕ) → i < length xs
    → register_after_bits (register_after_bits r (bits_of (concat (take i xs)))) (bits_of (get_or xs i d)) ≡ register_after_bits r (bits_of (concat (take (i + 1) xs)))
chunks_next r xs i d inside =
    let chunk = get_or xs i d in
    let more : take (i + 1) xs ≡ take i xs ++ chunk ∷ [] = take_more xs i d inside in
    sym (fed_bytes-append r (concat (take i xs)) chunk)
    ∙ ap (λ t. register_after_bits r (bits_of (concat (take i xs) ++ t))) (sym (append-nil chunk))
    ∙ ap (λ t. register_after_bits r (bits_of t)) (sym (concat-append (take i xs) (chunk ∷ [])) ∙ ap concat (sym more))

pub chunks_all : (r : ℕ) (xs : List (List ℕ)) (i : ℕ) → length xs ≤ i → register_after_bits r (bits_of (concat (take i xs))) ≡ register_after_bits r (bits_of (concat xs))
chunks_all r xs i h = ap (λ t. register_after_bits r (bits_of (concat t))) (take_all i xs h)

chunks_joined : (n k : ℕ) (xs : List ℕ) → k * n ≤ length xs → concat (first_chunks n k xs) ++ drop (k * n) xs ≡ xs
chunks_joined n zero xs h = ap (λ i. drop i xs) (zero-mul n)
chunks_joined n (suc k) xs h =
    let count : suc k * n ≡ n + k * n = omega (arith, suc-mul k n) in
    let room : k * n ≤ length (drop n xs) = omega (arith, length-drop n xs) in
    append_assoc (take n xs) (concat (first_chunks n k (drop n xs))) (drop (suc k * n) xs)
    ∙ ap (λ i. take n xs ++ (concat (first_chunks n k (drop n xs)) ++ drop i xs)) count
    ∙ ap (λ t. take n xs ++ (concat (first_chunks n k (drop n xs)) ++ t)) (sym (drop-drop (k * n) n xs))
    ∙ ap (λ t. take n xs ++ t) (chunks_joined n k (drop n xs) room)
    ∙ take-append-drop n xs

-- the chunks and then what is left after them
pub chunks_fed : (r : ℕ) (bytes : List ℕ) (chunks : List (List ℕ)) (rest : List ℕ)
    → chunks ≡ first_chunks 16 (length bytes / 16) bytes → rest ≡ drop (length bytes / 16 * 16) bytes
    → register_after_bits (register_after_bits r (bits_of (concat chunks))) (bits_of rest) ≡ register_after_bits r (bits_of bytes)
chunks_fed r bytes chunks rest front back =
    let whole : concat chunks ++ rest ≡ bytes =
    ap₂ (λ xs ys. concat xs ++ ys) front back ∙ chunks_joined 16 (length bytes / 16) bytes (omega arith) in
    sym (fed_bytes-append r (concat chunks) rest) ∙ ap (λ t. register_after_bits r (bits_of t)) whole

-- what comes after n bits joins them above
joins : (m n c low y : ℕ) → low < 2 ^ n → register_after_steps m (bit_xor (register_after_steps n (bit_xor c low)) y) ≡ register_after_steps (n + m) (bit_xor c (low + y * 2 ^ n))
joins m n c low y h =
    let above : bit_xor low (y * 2 ^ n) ≡ low + y * 2 ^ n =
    xor_comm low (y * 2 ^ n) ∙ xor_shifted y n low h ∙ omega arith in
    ap (λ x. register_after_steps m (bit_xor (register_after_steps n (bit_xor c low)) x)) (sym (after_steps-shifted n y))
    ∙ ap (register_after_steps m) (sym (after_steps-xor n (bit_xor c low) (y * 2 ^ n)))
    ∙ sym (after_steps-add n m (bit_xor (bit_xor c low) (y * 2 ^ n)))
    ∙ ap (register_after_steps (n + m)) (xor_assoc c low (y * 2 ^ n) ∙ ap (bit_xor c) above)

abbrev pub word : ℕ → ℕ → ℕ → ℕ → ℕ
word a b c d = a + b * 256 + c * 65536 + d * 16777216

pub word_fed : (r a b c d : ℕ) (bytes : List ℕ) → a < 256 → b < 256 → c < 256 → d < 256
    → register_after_bits r (bits_of (a ∷ b ∷ c ∷ d ∷ bytes)) ≡ register_after_bits (register_after_steps 32 (bit_xor r (word a b c d))) (bits_of bytes)
word_fed r a b c d bytes ha hb hc hd =
    let one = register_after_steps 8 (bit_xor r a) in
    let two = register_after_steps 8 (bit_xor one b) in
    let three = register_after_steps 8 (bit_xor two c) in
    let low : a + b * 256 < 2 ^ 16 = omega arith in
    let lower : a + b * 256 + c * 65536 < 2 ^ 24 = omega arith in
    fed_byte r a (b ∷ c ∷ d ∷ bytes) ha ∙ fed_byte one b (c ∷ d ∷ bytes) hb ∙ fed_byte two c (d ∷ bytes) hc ∙ fed_byte three d bytes hd
    ∙ ap (λ x. register_after_bits x (bits_of bytes))
    (ap (λ x. register_after_steps 8 (bit_xor (register_after_steps 8 (bit_xor x c)) d)) (joins 8 8 r a b ha)
    ∙ ap (λ x. register_after_steps 8 (bit_xor x d)) (joins 8 16 r (a + b * 256) c low)
    ∙ joins 8 24 r (a + b * 256 + c * 65536) d lower)

-- the word of the four bytes from i on
abbrev pub word_at : List ℕ → ℕ → ℕ
word_at xs i = word (get_or xs i 0) (get_or xs (suc i) 0) (get_or xs (suc (suc i)) 0) (get_or xs (suc (suc (suc i))) 0)

word_fed_at : (r : ℕ) (xs : List ℕ) (i : ℕ) → i + 4 ≤ length xs → ((k : ℕ) → get_or xs k 0 < 256)
    → register_after_bits r (bits_of (drop i xs)) ≡ register_after_bits (register_after_steps 32 (bit_xor r (word_at xs i))) (bits_of (drop (suc (suc (suc (suc i)))) xs))
word_fed_at r xs i h small =
    let four : drop i xs ≡ get_or xs i 0 ∷ get_or xs (suc i) 0 ∷ get_or xs (suc (suc i)) 0 ∷ get_or xs (suc (suc (suc i))) 0 ∷ drop (suc (suc (suc (suc i)))) xs =
    drop-cons xs i 0 (omega arith)
    ∙ ap (λ t. get_or xs i 0 ∷ t) (drop-cons xs (suc i) 0 (omega arith)
    ∙ ap (λ t. get_or xs (suc i) 0 ∷ t) (drop-cons xs (suc (suc i)) 0 (omega arith)
    ∙ ap (λ t. get_or xs (suc (suc i)) 0 ∷ t) (drop-cons xs (suc (suc (suc i))) 0 (omega arith)))) in
    ap (λ t. register_after_bits r (bits_of t)) four
    ∙ word_fed r (get_or xs i 0) (get_or xs (suc i) 0) (get_or xs (suc (suc i)) 0) (get_or xs (suc (suc (suc i))) 0) (drop (suc (suc (suc (suc i)))) xs)
    (small i) (small (suc i)) (small (suc (suc i))) (small (suc (suc (suc i))))

-- ---- lanes

pub chunk_fed : (r : ℕ) (xs : List ℕ) → length xs ≡ 16 → ((k : ℕ) → get_or xs k 0 < 256)
    → register_after_bits r (bits_of xs) ≡ register_of_lanes (record { first = bit_xor r (word_at xs 0); second = word_at xs 4; third = word_at xs 8; fourth = word_at xs 12 })
unfolding register_of_lanes register_after_bits
chunk_fed r xs h small =
    let one = register_after_steps 32 (bit_xor r (word_at xs 0)) in
    let two = register_after_steps 32 (bit_xor one (word_at xs 4)) in
    let three = register_after_steps 32 (bit_xor two (word_at xs 8)) in
    let four = register_after_steps 32 (bit_xor three (word_at xs 12)) in
    let done : drop 16 xs ≡ [] = drop_of_length-le xs (le_of_eq h) in
    word_fed_at r xs 0 (omega arith) small ∙ word_fed_at one xs 4 (omega arith) small
    ∙ word_fed_at two xs 8 (omega arith) small ∙ word_fed_at three xs 12 (omega arith) small
    ∙ ap (λ t. register_after_bits four (bits_of t)) done

-- settling is linear
settled-xor : (a b c d a' b' c' d' : ℕ)
    → register_of_lanes (record { first = bit_xor a a'; second = bit_xor b b'; third = bit_xor c c'; fourth = bit_xor d d' })
    ≡ bit_xor (register_of_lanes (record { first = a; second = b; third = c; fourth = d })) (register_of_lanes (record { first = a'; second = b'; third = c'; fourth = d' }))
unfolding register_of_lanes
settled-xor a b c d a' b' c' d' =
    let step : (x y z z' : ℕ) → register_after_steps 32 (bit_xor (bit_xor x y) (bit_xor z z')) ≡ bit_xor (register_after_steps 32 (bit_xor x z)) (register_after_steps 32 (bit_xor y z')) =
    λ x y z z'. ap (register_after_steps 32) (xor_pairs x y z z') ∙ after_steps-xor 32 (bit_xor x z) (bit_xor y z') in
    ap (λ w. register_after_steps 32 (bit_xor (register_after_steps 32 (bit_xor (register_after_steps 32 (bit_xor w (bit_xor b b'))) (bit_xor c c'))) (bit_xor d d'))) (after_steps-xor 32 a a')
    ∙ ap (λ w. register_after_steps 32 (bit_xor (register_after_steps 32 (bit_xor w (bit_xor c c'))) (bit_xor d d'))) (step (register_after_steps 32 a) (register_after_steps 32 a') b b')
    ∙ ap (λ w. register_after_steps 32 (bit_xor w (bit_xor d d'))) (step (register_after_steps 32 (bit_xor (register_after_steps 32 a) b)) (register_after_steps 32 (bit_xor (register_after_steps 32 a') b')) c c')
    ∙ step (register_after_steps 32 (bit_xor (register_after_steps 32 (bit_xor (register_after_steps 32 a) b)) c)) (register_after_steps 32 (bit_xor (register_after_steps 32 (bit_xor (register_after_steps 32 a') b')) c')) d d'

-- each lane advanced is the register advanced
settled-after_steps : (a b c d : ℕ)
    → register_of_lanes (record { first = register_after_steps 128 a; second = register_after_steps 128 b; third = register_after_steps 128 c; fourth = register_after_steps 128 d })
    ≡ register_after_steps 128 (register_of_lanes (record { first = a; second = b; third = c; fourth = d }))
unfolding register_of_lanes
settled-after_steps a b c d =
    let step : (x y : ℕ) → register_after_steps 32 (bit_xor (register_after_steps 128 x) (register_after_steps 128 y)) ≡ register_after_steps 128 (register_after_steps 32 (bit_xor x y)) =
    λ x y. ap (register_after_steps 32) (sym (after_steps-xor 128 x y)) ∙ after_steps-after_steps 32 128 (bit_xor x y) in
    ap (λ w. register_after_steps 32 (bit_xor (register_after_steps 32 (bit_xor (register_after_steps 32 (bit_xor w (register_after_steps 128 b))) (register_after_steps 128 c))) (register_after_steps 128 d))) (after_steps-after_steps 32 128 a)
    ∙ ap (λ w. register_after_steps 32 (bit_xor (register_after_steps 32 (bit_xor w (register_after_steps 128 c))) (register_after_steps 128 d))) (step (register_after_steps 32 a) b)
    ∙ ap (λ w. register_after_steps 32 (bit_xor w (register_after_steps 128 d))) (step (register_after_steps 32 (bit_xor (register_after_steps 32 a) b)) c)
    ∙ step (register_after_steps 32 (bit_xor (register_after_steps 32 (bit_xor (register_after_steps 32 a) b)) c)) d

-- a register that is added to the first lane advances by all four
register_first : (r : ℕ) (l : Lanes) → register_of_lanes (record l { first = bit_xor r l.first }) ≡ bit_xor (register_after_steps 128 r) (register_of_lanes l)
unfolding register_of_lanes
register_first r l =
    let step : (x y z : ℕ) → register_after_steps 32 (bit_xor (bit_xor x y) z) ≡ bit_xor (register_after_steps 32 x) (register_after_steps 32 (bit_xor y z)) =
    λ x y z. ap (register_after_steps 32) (xor_assoc x y z) ∙ after_steps-xor 32 x (bit_xor y z) in
    ap (λ w. register_after_steps 32 (bit_xor (register_after_steps 32 (bit_xor (register_after_steps 32 (bit_xor w l.second)) l.third)) l.fourth)) (after_steps-xor 32 r l.first)
    ∙ ap (λ w. register_after_steps 32 (bit_xor (register_after_steps 32 (bit_xor w l.third)) l.fourth)) (step (register_after_steps 32 r) (register_after_steps 32 l.first) l.second)
    ∙ ap (λ w. register_after_steps 32 (bit_xor w l.fourth)) (step (register_after_steps 32 (register_after_steps 32 r)) (register_after_steps 32 (bit_xor (register_after_steps 32 l.first) l.second)) l.third)
    ∙ step (register_after_steps 32 (register_after_steps 32 (register_after_steps 32 r))) (register_after_steps 32 (bit_xor (register_after_steps 32 (bit_xor (register_after_steps 32 l.first) l.second)) l.third)) l.fourth
    ∙ ap (λ w. bit_xor w (register_after_steps 32 (bit_xor (register_after_steps 32 (bit_xor (register_after_steps 32 (bit_xor (register_after_steps 32 l.first) l.second)) l.third)) l.fourth)))
    (sym (after_steps-add 96 32 r ∙ ap (register_after_steps 32) (after_steps-add 64 32 r ∙ ap (register_after_steps 32) (after_steps-add 32 32 r))))

-- a chunk more
pub with_is : (l words : Lanes) (bits : List Bool)
    → ((c : ℕ) → register_after_bits c bits ≡ register_of_lanes (record words { first = bit_xor c words.first }))
    → register_of_lanes (record {
      first = bit_xor (register_after_steps 128 l.first) words.first;
      second = bit_xor (register_after_steps 128 l.second) words.second;
      third = bit_xor (register_after_steps 128 l.third) words.third;
      fourth = bit_xor (register_after_steps 128 l.fourth) words.fourth;
    }) ≡ register_after_bits (register_of_lanes l) bits
with_is l words bits h =
    settled-xor (register_after_steps 128 l.first) (register_after_steps 128 l.second) (register_after_steps 128 l.third) (register_after_steps 128 l.fourth) words.first words.second words.third words.fourth
    ∙ ap (λ x. bit_xor x (register_of_lanes words)) (settled-after_steps l.first l.second l.third l.fourth)
    ∙ sym (register_first (register_of_lanes l) words)
    ∙ sym (h (register_of_lanes l))
