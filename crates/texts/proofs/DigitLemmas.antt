-- What hexadecimal digits of either case stand for.
use Rattle.std.proofs.Common.{◌≡◌, ◌+◌, ◌-◌, ◌*◌, ◌/◌, ◌%◌, ◌<◌, ◌==◌, ◌&&◌, ℕ, zero, suc, Bool, true, false, List, [], ◌∷◌, Option, Some, None, Result, Ok, Err, nat_le, nat_lt, ◌⊎◌, if◌then◌else◌, inl, inr, map, ap, refl, ◌∙◌, arith, slice_index, unwrap_or, ◌++◌, append-nil, ap₂, drop, length, replicate, take}
use Rattle.std.proofs.lemmas.Bool.{and_parts, cases_lt, eqb-true, leb-true}
use Rattle.std.proofs.lemmas.List.{drop_all, drop_at, length-append, length-replicate, take_all, take_at}
use Rattle.std.specs.Char.{to_ascii_lowercase}
use Rattle.std.specs.Result.{result_unwrap_or}
use Rattle.hex.specs.Hex.{IsBytes, decode_pairs, digit_or_error, encode_lower, encode_with, hex_digit_value, lower_digits, ◌>>=◌}
use Rattle.hex.specs.declared.error.FromHexError.{FromHexError}
use Rattle.hex.proofs.HexLemmas.{length-encode_with}

-- the code of a digit's lower-case character
abbrev pub code_at : ℕ → ℕ
code_at v = if nat_lt v 10 then 48 + v else 87 + v

-- the test of the first n digits
abbrev all_coded : ℕ → Bool
all_coded zero = true
all_coded (suc n) = (slice_index lower_digits n == code_at n) && all_coded n

-- a digit below n passed the test
all_coded-at : (n v : ℕ) → all_coded n ≡ true → v < n → slice_index lower_digits v ≡ code_at v
all_coded-at zero v h lt = absurd (omega arith)
all_coded-at (suc n) v h lt =
    let parts = and_parts (slice_index lower_digits n == code_at n) (all_coded n) h in
    elim (cases_lt v n) [
      | inl below ↦ all_coded-at n v parts.1 below
      | inr top ↦
          let e : v ≡ n = omega arith in
          rw e (eqb-true _ _ parts.0)
    ]

-- the character of each digit
pub lower_digit : (v : ℕ) → v < 16 → slice_index lower_digits v ≡ code_at v
lower_digit v lt = all_coded-at 16 v refl lt

-- where a character that is a digit lies
abbrev IsDigitOf : ℕ → ℕ → Type 0
IsDigitOf c v = ((v < 10) × (c ≡ 48 + v)) ⊎ (((9 < v) × (v < 16) × (c ≡ 55 + v)) ⊎ ((9 < v) × (v < 16) × (c ≡ 87 + v)))

digit_place : (c v : ℕ) → hex_digit_value c ≡ Some v → IsDigitOf c v
digit_place c v h = step (nat_le 65 c && nat_le c 70) (nat_le 97 c && nat_le c 102) (nat_le 48 c && nat_le c 57) refl refl refl h
  where
    step : (upper lower number : Bool) → (nat_le 65 c && nat_le c 70) ≡ upper → (nat_le 97 c && nat_le c 102) ≡ lower
        → (nat_le 48 c && nat_le c 57) ≡ number
        → (if upper then Some (c - 55) else if lower then Some (c - 87) else if number then Some (c - 48) else None) ≡ Some v → IsDigitOf c v
    step true lower number u l n e =
        let parts = and_parts (nat_le 65 c) (nat_le c 70) u in
        let low = leb-true 65 c parts.0 in
        let high = leb-true c 70 parts.1 in
        let value : c - 55 ≡ v = ap (λ (o : Option ℕ). unwrap_or o 0) e in
        inr (inl (omega arith, omega arith, omega arith))
    step false true number u l n e =
        let parts = and_parts (nat_le 97 c) (nat_le c 102) l in
        let low = leb-true 97 c parts.0 in
        let high = leb-true c 102 parts.1 in
        let value : c - 87 ≡ v = ap (λ (o : Option ℕ). unwrap_or o 0) e in
        inr (inr (omega arith, omega arith, omega arith))
    step false false true u l n e =
        let parts = and_parts (nat_le 48 c) (nat_le c 57) n in
        let low = leb-true 48 c parts.0 in
        let high = leb-true c 57 parts.1 in
        let value : c - 48 ≡ v = ap (λ (o : Option ℕ). unwrap_or o 0) e in
        inl (omega arith, omega arith)
    step false false false u l n e = cc e

-- what a character that is a digit is in lower case
digit-lower : (c v : ℕ) → hex_digit_value c ≡ Some v → (v < 16) × (to_ascii_lowercase c ≡ code_at v)
digit-lower c v h =
    elim (digit_place c v h) [
      | inl number ↦ (omega (arith, number.0), grind (arith))
      | inr letter ↦ elim letter [
        | inl upper ↦ (upper.1, grind (arith))
        | inr lower ↦ (lower.1, grind (arith))
      ]
    ]

-- a character whose lower case is a digit's
lower-digit : (c v : ℕ) → v < 16 → to_ascii_lowercase c ≡ code_at v → hex_digit_value c ≡ Some v
lower-digit c v lt h = grind (arith)

-- the first of a text and the rest
abbrev head_of : List ℕ → ℕ
head_of [] = 0
head_of (c ∷ text) = c

abbrev tail_of : List ℕ → List ℕ
tail_of [] = []
tail_of (c ∷ text) = text

-- what pairs of digits read as has them as its text, but for their case
pub lower-decode_pairs : (i : ℕ) (text bytes : List ℕ) → decode_pairs i text ≡ Ok bytes
    → map to_ascii_lowercase text ≡ encode_lower bytes
unfolding decode_pairs encode_with
lower-decode_pairs i [] bytes h = ap encode_lower (ap (λ (r : Result (List ℕ) FromHexError). result_unwrap_or r []) h)
lower-decode_pairs i (c ∷ []) bytes h = cc h
lower-decode_pairs i (c ∷ d ∷ text) bytes h =
    step (hex_digit_value c) (hex_digit_value d) (decode_pairs (i + 2) text) refl refl (lower-decode_pairs (i + 2) text) refl h
  where
    step : (high low : Option ℕ) (rest : Result (List ℕ) FromHexError) → hex_digit_value c ≡ high → hex_digit_value d ≡ low
        → ((others : List ℕ) → decode_pairs (i + 2) text ≡ Ok others → map to_ascii_lowercase text ≡ encode_lower others)
        → decode_pairs (i + 2) text ≡ rest
        → ((digit_or_error c i high >>= (λ x. digit_or_error d (i + 1) low >>= (λ y. Ok (x * 16 + y))))
        >>= (λ byte. rest >>= (λ others. Ok (byte ∷ others)))) ≡ Ok bytes
        → map to_ascii_lowercase (c ∷ d ∷ text) ≡ encode_lower bytes
    step None low rest a b ih r e = cc e
    step (Some x) None rest a b ih r e = cc e
    step (Some x) (Some y) (Err f) a b ih r e = cc e
    step (Some x) (Some y) (Ok others) a b ih r e =
        let first = digit-lower c x a in
        let second = digit-lower d y b in
        let fits : y < 16 = second.0 in
        let high : (x * 16 + y) / 16 ≡ x = omega arith in
        let low : (x * 16 + y) % 16 ≡ y = omega arith in
        let all : (x * 16 + y) ∷ others ≡ bytes = ap (λ (s : Result (List ℕ) FromHexError). result_unwrap_or s []) e in
        let later = ih others r in
        rw (← all, high, low, lower_digit x first.0, lower_digit y fits, first.1, second.1, later) refl

-- pairs of digits read as the bytes whose text they are, but for their case
pub decode_pairs-lower : (i : ℕ) (text bytes : List ℕ) → IsBytes bytes → map to_ascii_lowercase text ≡ encode_lower bytes
    → decode_pairs i text ≡ Ok bytes
unfolding decode_pairs encode_with
decode_pairs-lower i [] [] fits h = refl
decode_pairs-lower i [] (b ∷ bytes) fits h = cc h
decode_pairs-lower i (c ∷ text) [] fits h = cc h
decode_pairs-lower i (c ∷ []) (b ∷ bytes) fits h =
    let short : [] ≡ slice_index lower_digits (b % 16) ∷ encode_lower bytes = ap tail_of h in cc short
decode_pairs-lower i (c ∷ d ∷ text) (b ∷ bytes) fits h =
    let byte : b < 256 = fits 0 in
    let high : b / 16 < 16 = omega arith in
    let low : b % 16 < 16 = omega arith in
    let first = lower-digit c (b / 16) high (ap head_of h ∙ lower_digit (b / 16) high) in
    let second = lower-digit d (b % 16) low (ap (λ (t : List ℕ). head_of (tail_of t)) h ∙ lower_digit (b % 16) low) in
    let later = decode_pairs-lower (i + 2) text bytes (λ k. fits (suc k)) (ap (λ (t : List ℕ). tail_of (tail_of t)) h) in
    let whole : b / 16 * 16 + b % 16 ≡ b = omega arith in
    rw (first, second, later, whole) refl

-- digits that are written over the room after what was there are appended to it
pub digits_appended : (old roomy written bytes : List ℕ) (from end more n : ℕ) → from ≡ length old → end ≡ from + 2 * length bytes → more ≡ end - from → n ≡ end
    → roomy ≡ take end old ++ replicate more 0 → written ≡ encode_lower bytes
    → take n ((take from roomy ++ (written ++ drop (length written) (drop from roomy))) ++ drop (length (take from roomy ++ (written ++ drop (length written) (drop from roomy)))) roomy)
    ≡ old ++ encode_lower bytes
digits_appended old roomy written bytes from end more n f e k m r w =
    let digits : List ℕ = encode_lower bytes in
    let room : List ℕ = replicate more 0 in
    let long : length digits ≡ 2 * length bytes = length-encode_with lower_digits bytes in
    let same : length written ≡ length digits = ap length w in
    let is : roomy ≡ old ++ room = r ∙ ap (λ (t : List ℕ). t ++ room) (take_all end old (omega arith)) in
    let front : take from roomy ≡ old = ap (take from) is ∙ take_at old room from (omega arith) in
    let behind : drop from roomy ≡ room = ap (drop from) is ∙ drop_at old room from (omega arith) in
    let width : length room ≡ more = length-replicate more 0 in
    let left : length (drop from roomy) ≡ length room = ap length behind in
    let none : drop (length written) (drop from roomy) ≡ [] = drop_all (length written) (drop from roomy) (omega arith) in
    let all : take from roomy ++ (written ++ drop (length written) (drop from roomy)) ≡ old ++ digits =
    ap₂ (λ (x y : List ℕ). x ++ (written ++ y)) front none ∙ ap (λ (t : List ℕ). old ++ t) (append-nil written ∙ w) in
    ap (λ (x : List ℕ). take n (x ++ drop (length x) roomy)) all ∙ take_at (old ++ digits) (drop (length (old ++ digits)) roomy) n (omega (arith, length-append old digits))
