-- The digits of sixteen bytes at once.
use Rattle.std.proofs.Common.{◌≡◌, ◌+◌, ◌*◌, ◌/◌, ◌%◌, ◌<◌, ◌≤◌, ◌==◌, ◌&&◌, ℕ, zero, suc, Bool, true, cond, List, [], ◌∷◌, ◌++◌, map, length, take, drop, replicate, get_or, slice_index, inl, inr, refl, sym, ap, ap₂, ◌∙◌, arith, append_assoc, take-take, take-add, length-take-le, length-drop}
use Rattle.std.proofs.lemmas.Bool.{and_parts, cases_lt, eqb-true}
use Rattle.std.proofs.lemmas.List.Elements.{All-cons, All-drop, All-from_get_or, All-head, All-nil, All-tail, All-take}
use Rattle.std.proofs.lemmas.Simd.{length-put_chunk, take_more_put_chunk, zip2_splat}
use Rattle.std.specs.List.{All}
use borrow.Rule.Simd.Lanes.{act2}
use borrow.Table.Row.{s_int}
use lib.Lanes.{zip2, sel_l, pick_l, put_chunk}
use mir.Syntax.{w8, shr, bit_and, unsigned}
use mir.Val.{Fits}
use Rattle.hex.specs.Hex.{encode_with, encode_lower, lower_digits}

-- ---- functions of few numbers, told by computing

-- the test of the first n numbers
abbrev pub are_same : (ℕ → ℕ) → (ℕ → ℕ) → ℕ → Bool
are_same f g zero = true
are_same f g (suc n) = (f n == g n) && are_same f g n

same_at : (f g : ℕ → ℕ) (n v : ℕ) → are_same f g n ≡ true → v < n → f v ≡ g v
same_at f g zero v h lt = absurd (omega arith)
same_at f g (suc n) v h lt =
    let parts = and_parts (f n == g n) (are_same f g n) h in
    elim (cases_lt v n) [
      | inl below ↦ same_at f g n v parts.1 below
      | inr top ↦
          let e : v ≡ n = omega arith in
          rw e (eqb-true _ _ parts.0)
    ]

same_lanes : (f g : ℕ → ℕ) (n : ℕ) (xs : List ℕ) → are_same f g n ≡ true → All (λ x. x < n) xs → map f xs ≡ map g xs
same_lanes f g n [] h small = refl
same_lanes f g n (x ∷ xs) h small =
    ap₂ (λ y ys. y ∷ ys) (same_at f g n x h (All-head (λ y. y < n) x xs small))
    (same_lanes f g n xs h (All-tail (λ y. y < n) x xs small))

-- an operator of each lane and a number is a function of the lane
lanes_are : (f : ℕ → ℕ → ℕ) (g : ℕ → ℕ) (y n k : ℕ) (xs : List ℕ) → are_same (λ x. f x y) g n ≡ true → All (λ x. x < n) xs → length xs ≡ k
    → zip2 f xs (replicate k y) ≡ map g xs
lanes_are f g y n k xs h small len = zip2_splat f xs k y len ∙ same_lanes (λ x. f x y) g n xs h small

-- a bound of each lane
pub lanes_below : (g : ℕ → ℕ) (m n : ℕ) (xs : List ℕ) → ((x : ℕ) → x < n → g x < m) → All (λ x. x < n) xs → All (λ x. x < m) (map g xs)
lanes_below g m n [] h small = All-nil (λ x. x < m)
lanes_below g m n (x ∷ xs) h small =
    All-cons (λ y. y < m) (g x) (map g xs) (h x (All-head (λ y. y < n) x xs small)) (lanes_below g m n xs h (All-tail (λ y. y < n) x xs small))

-- the bytes of a chunk
pub chunk_small : (place n : ℕ) (bytes : List ℕ) → ((i : ℕ) → Fits w8 (get_or bytes i 0)) → All (λ b. b < 256) (take n (drop place bytes))
chunk_small place n bytes h =
    All-take (λ b. b < 256) n (drop place bytes)
    (All-drop (λ b. b < 256) place bytes (All-from_get_or (λ b. b < 256) bytes 0 (λ i inside. let small = h i in small.fits)))

-- the sixteen bytes of a chunk, and their halves
pub length-chunk : (place : ℕ) (bytes : List ℕ) → place + 16 ≤ length bytes → length (take 16 (drop place bytes)) ≡ 16
length-chunk place bytes fits = length-take-le 16 (drop place bytes) (omega (arith, length-drop place bytes))

pub high_halves : (chunk : List ℕ) → All (λ b. b < 256) chunk → length chunk ≡ 16
    → zip2 (act2 (shr unsigned) (s_int w8) (s_int w8) (s_int w8)) chunk (replicate 16 4) ≡ map (λ b. b / 16) chunk
high_halves chunk small len = lanes_are (act2 (shr unsigned) (s_int w8) (s_int w8) (s_int w8)) (λ b. b / 16) 4 256 16 chunk refl small len

pub low_halves : (chunk : List ℕ) → All (λ b. b < 256) chunk → length chunk ≡ 16
    → zip2 (act2 bit_and (s_int w8) (s_int w8) (s_int w8)) chunk (replicate 16 15) ≡ map (λ b. b % 16) chunk
low_halves chunk small len = lanes_are (act2 bit_and (s_int w8) (s_int w8) (s_int w8)) (λ b. b % 16) 15 256 16 chunk refl small len

-- ---- digits

-- a digit's character, as one is chosen of two and the number is added
abbrev pub chosen : (ℕ → ℕ → ℕ) → (ℕ → Bool) → (ℕ → ℕ → ℕ) → ℕ → ℕ
chosen add top above n = add (cond (top (above 9 n)) 87 48) n

pub digits_chosen : (add : ℕ → ℕ → ℕ) (top : ℕ → Bool) (above : ℕ → ℕ → ℕ) (k : ℕ) (ns : List ℕ)
    → are_same (chosen add top above) (slice_index lower_digits) 16 ≡ true → All (λ n. n < 16) ns → length ns ≡ k
    → zip2 add (sel_l (map top (zip2 above (replicate k 9) ns)) (replicate k 87) (replicate k 48)) ns ≡ map (slice_index lower_digits) ns
digits_chosen add top above zero [] h small len = refl
digits_chosen add top above (suc k) [] h small len = absurd (omega arith)
digits_chosen add top above zero (n ∷ ns) h small len = absurd (omega arith)
digits_chosen add top above (suc k) (n ∷ ns) h small len =
    ap₂ (λ y ys. y ∷ ys) (same_at (chosen add top above) (slice_index lower_digits) 16 n h (All-head (λ y. y < 16) n ns small))
    (digits_chosen add top above k ns h (All-tail (λ y. y < 16) n ns small) (omega arith))

-- ---- a chunk

-- a list, spelled by its elements
spelled : ℕ → List ℕ → List ℕ
spelled zero xs = []
spelled (suc n) xs = get_or xs 0 0 ∷ spelled n (drop 1 xs)

is_spelled : (n : ℕ) (xs : List ℕ) → length xs ≡ n → spelled n xs ≡ xs
unfolding spelled
is_spelled zero [] h = refl
is_spelled zero (x ∷ xs) h = absurd (omega arith)
is_spelled (suc n) [] h = absurd (omega arith)
is_spelled (suc n) (x ∷ xs) h = ap (λ t. x ∷ t) (is_spelled n xs (omega arith))

abbrev pub front_lanes : List ℕ
front_lanes = 0 ∷ 16 ∷ 1 ∷ 17 ∷ 2 ∷ 18 ∷ 3 ∷ 19 ∷ 4 ∷ 20 ∷ 5 ∷ 21 ∷ 6 ∷ 22 ∷ 7 ∷ 23 ∷ []

abbrev pub back_lanes : List ℕ
back_lanes = 8 ∷ 24 ∷ 9 ∷ 25 ∷ 10 ∷ 26 ∷ 11 ∷ 27 ∷ 12 ∷ 28 ∷ 13 ∷ 29 ∷ 14 ∷ 30 ∷ 15 ∷ 31 ∷ []

abbrev pub high_digits : List ℕ → List ℕ
high_digits bytes = map (slice_index lower_digits) (map (λ b. b / 16) bytes)

abbrev pub low_digits : List ℕ → List ℕ
low_digits bytes = map (slice_index lower_digits) (map (λ b. b % 16) bytes)

spelled_digits : (xs : List ℕ)
    → pick_l 0 (high_digits (spelled 16 xs) ++ low_digits (spelled 16 xs)) front_lanes
    ++ pick_l 0 (high_digits (spelled 16 xs) ++ low_digits (spelled 16 xs)) back_lanes
    ≡ encode_lower (spelled 16 xs)
unfolding spelled encode_with
spelled_digits xs = refl

-- the digits of a chunk's halves, one by one, are its digits
pub interleaved : (chunk highs lows : List ℕ) → length chunk ≡ 16 → highs ≡ high_digits chunk → lows ≡ low_digits chunk
    → pick_l 0 (highs ++ lows) front_lanes ++ pick_l 0 (highs ++ lows) back_lanes ≡ encode_lower chunk
interleaved chunk highs lows len high low =
    let same : spelled 16 chunk ≡ chunk = is_spelled 16 chunk len in
    ap₂ (λ x y. pick_l 0 (x ++ y) front_lanes ++ pick_l 0 (x ++ y) back_lanes)
    (high ∙ ap high_digits (sym same)) (low ∙ ap low_digits (sym same))
    ∙ spelled_digits chunk ∙ ap encode_lower same

encode-append : (t xs ys : List ℕ) → encode_with t (xs ++ ys) ≡ encode_with t xs ++ encode_with t ys
unfolding encode_with
encode-append t [] ys = refl
encode-append t (x ∷ xs) ys =
    ap (λ r. slice_index t (x / 16) ∷ slice_index t (x % 16) ∷ r) (encode-append t xs ys)

encode-take : (t : List ℕ) (n : ℕ) (xs : List ℕ) → take (2 * n) (encode_with t xs) ≡ encode_with t (take n xs)
unfolding encode_with
encode-take t zero xs = refl
encode-take t (suc n) [] =
    let count : 2 * suc n ≡ suc (suc (2 * n)) = omega arith in
    ap (λ (k : ℕ). take {A = ℕ} k []) count
encode-take t (suc n) (x ∷ xs) =
    let count : 2 * suc n ≡ suc (suc (2 * n)) = omega arith in
    ap (λ k. take k (slice_index t (x / 16) ∷ slice_index t (x % 16) ∷ encode_with t xs)) count
    ∙ ap (λ r. slice_index t (x / 16) ∷ slice_index t (x % 16) ∷ r) (encode-take t n xs)

-- ---- the room

-- no digits yet
pub digits_none : [] ≡ encode_lower []
unfolding encode_with
digits_none = refl

-- the digits of fewer bytes were written too
pub digits_less : (room bytes : List ℕ) (n place : ℕ) → n ≤ place → take (2 * place) room ≡ encode_lower (take place bytes)
    → take (2 * n) room ≡ encode_lower (take n bytes)
digits_less room bytes n place h front =
    sym (take-take (2 * n) (2 * place) room (omega arith))
    ∙ ap (take (2 * n)) front
    ∙ encode-take lower_digits n (take place bytes)
    ∙ ap encode_lower (take-take n place bytes h)

-- a chunk's digits are written after the others
pub digits_more : (room bytes front back : List ℕ) (place : ℕ) → place + 16 ≤ length bytes → length room ≡ 2 * length bytes
    → length front ≡ 16 → length back ≡ 16 → take (2 * place) room ≡ encode_lower (take place bytes)
    → front ++ back ≡ encode_lower (take 16 (drop place bytes))
    → take (2 * place + 32) (put_chunk (2 * place + 16) (put_chunk (2 * place) room front) back) ≡ encode_lower (take (place + 16) bytes)
digits_more room bytes front back place fits len f b written digits =
    let middle = put_chunk (2 * place) room front in
    take_more_put_chunk (2 * place + 16) middle back (2 * place + 32) (omega arith) (omega (arith, length-put_chunk (2 * place) room front))
    ∙ ap (λ t. t ++ back) (take_more_put_chunk (2 * place) room front (2 * place + 16) (omega arith) (omega arith))
    ∙ append_assoc (take (2 * place) room) front back
    ∙ ap₂ (λ x y. x ++ y) written digits
    ∙ sym (encode-append lower_digits (take place bytes) (take 16 (drop place bytes)))
    ∙ ap encode_lower (sym (take-add place 16 bytes))
