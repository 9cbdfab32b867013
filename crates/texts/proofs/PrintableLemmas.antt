-- Texts are printable ASCII, and those of keys have no space.
use Rattle.std.proofs.Common.{◌≡◌, ℕ, suc, ◌/◌, ◌%◌, ◌+◌, ◌<◌, ◌≤◌, true, false, nat_lt, List, [], ◌∷◌, All, slice_index, arith}
use Rattle.std.specs.List.{flat_map}
use Rattle.std.specs.Str.{bytes_eq}
use Rattle.std.proofs.lemmas.Bool.{cond_both, ltb-true}
use Rattle.std.proofs.lemmas.Bool.Decides.{nat_tests}
use Rattle.std.proofs.lemmas.List.Elements.{All-append, All-cons, All-nil}
use Rattle.hex.specs.Hex.{IsBytes, encode_lower, encode_with, lower_digits}
use Rattle.texts.specs.Escaped.{backslash, empty_text, escape, escaped, escaped_byte, first_in_key, is_shown}
use Rattle.texts.specs.Spelling.{IsPrintable}
use Rattle.texts.specs.Text.{text_of_bytes}
use Rattle.texts.proofs.DigitLemmas.{lower_digit}

-- a digit is printable
digit_printable : (first v : ℕ) → first ≤ first_in_key → v < 16 → IsPrintable first (slice_index lower_digits v)
digit_printable first v early lt =
    rw (lower_digit v lt)
    (cond_both (nat_lt v 10) (48 + v) (87 + v) (IsPrintable first) (λ e. let below = ltb-true v 10 e in (omega arith, omega arith)) (λ e. (omega arith, omega arith)))

-- an escape is printable
pub escape_printable : (first b : ℕ) → first ≤ first_in_key → b < 256 → All (IsPrintable first) (escape b)
escape_printable first b early fits =
    let high : ℕ = slice_index lower_digits (b / 16) in
    let low : ℕ = slice_index lower_digits (b % 16) in
    let P : ℕ → Type 0 = IsPrintable first in
    All-cons P backslash (120 ∷ high ∷ low ∷ []) (omega arith, omega arith)
    (All-cons P 120 (high ∷ low ∷ []) (omega arith, omega arith)
    (All-cons P high (low ∷ []) (digit_printable first (b / 16) early (omega arith))
    (All-cons P low [] (digit_printable first (b % 16) early (omega arith)) (All-nil P))))

-- a byte that stands for itself, if none outside ASCII does
shown_printable : (first b : ℕ) → is_shown false first b ≡ true → IsPrintable first b
shown_printable first b shown = (grind (arith, nat_tests), grind (arith, nat_tests))

-- a byte itself, or its escape
byte_printable : (first b : ℕ) → first ≤ first_in_key → b < 256 → All (IsPrintable first) (escaped_byte false first b)
byte_printable first b early fits =
    cond_both (is_shown false first b) (b ∷ []) (escape b) (All (IsPrintable first))
    (λ plain. All-cons (IsPrintable first) b [] (shown_printable first b plain) (All-nil (IsPrintable first)))
    (λ _. escape_printable first b early fits)

-- bytes, each itself or its escape
bytes_printable : (first : ℕ) (bytes : List ℕ) → first ≤ first_in_key → IsBytes bytes → All (IsPrintable first) (flat_map (escaped_byte false first) bytes)
bytes_printable first [] early fits = All-nil (IsPrintable first)
bytes_printable first (b ∷ bytes) early fits =
    All-append (IsPrintable first) (escaped_byte false first b) (flat_map (escaped_byte false first) bytes) (byte_printable first b early (fits 0))
    (bytes_printable first bytes early (λ i. fits (suc i)))

-- the text of bytes
pub escaped_printable : (first : ℕ) (bytes : List ℕ) → first ≤ first_in_key → IsBytes bytes → All (IsPrintable first) (escaped false first bytes)
escaped_printable first [] early fits =
    All-cons (IsPrintable first) 34 (34 ∷ []) (omega arith, omega arith)
    (All-cons (IsPrintable first) 34 [] (omega arith, omega arith) (All-nil (IsPrintable first)))
escaped_printable first (b ∷ bytes) early fits =
    cond_both (bytes_eq (b ∷ bytes) empty_text) (flat_map escape empty_text) (flat_map (escaped_byte false first) (b ∷ bytes)) (All (IsPrintable first))
    (λ _. All-append (IsPrintable first) (escape 34) (flat_map escape (34 ∷ [])) (escape_printable first 34 early (omega arith))
    (All-append (IsPrintable first) (escape 34) [] (escape_printable first 34 early (omega arith)) (All-nil (IsPrintable first))))
    (λ _. bytes_printable first (b ∷ bytes) early fits)

-- digits
encode_printable : (first : ℕ) (bytes : List ℕ) → first ≤ first_in_key → IsBytes bytes → All (IsPrintable first) (encode_lower bytes)
unfolding encode_with
encode_printable first [] early fits = All-nil (IsPrintable first)
encode_printable first (b ∷ bytes) early fits =
    let byte : b < 256 = fits 0 in
    let low : ℕ = slice_index lower_digits (b % 16) in
    All-cons (IsPrintable first) (slice_index lower_digits (b / 16)) (low ∷ encode_lower bytes) (digit_printable first (b / 16) early (omega arith))
    (All-cons (IsPrintable first) low (encode_lower bytes) (digit_printable first (b % 16) early (omega arith)) (encode_printable first bytes early (λ i. fits (suc i))))

-- the hexadecimal text of bytes
pub digits_printable : (first : ℕ) (bytes : List ℕ) → first ≤ first_in_key → IsBytes bytes → All (IsPrintable first) (text_of_bytes bytes)
digits_printable first [] early fits =
    All-cons (IsPrintable first) 45 [] (omega arith, omega arith) (All-nil (IsPrintable first))
digits_printable first (b ∷ bytes) early fits = encode_printable first (b ∷ bytes) early fits
