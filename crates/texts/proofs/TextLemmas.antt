-- Facts on the text of bytes.
use Rattle.std.proofs.Common.{◌≡◌, ◌↔◌, ◌%◌, ◌<◌, ◌==◌, ℕ, Bool, true, false, List, [], ◌∷◌, Option, Some, Result, Ok, Err, if◌then◌else◌, unwrap_or, map, ap, refl, ◌∙◌, arith, length, slice_index}
use Rattle.std.specs.Char.{to_ascii_lowercase}
use Rattle.std.specs.Str.{bytes_eq}
use Rattle.std.proofs.lemmas.Slice.Eq.{bytes_eq-Decides}
use Rattle.std.proofs.lemmas.List.{length-map}
use Rattle.hex.specs.Hex.{IsBytes, decode_of, decode_pairs, encode_lower, encode_with, lower_digits}
use Rattle.hex.specs.declared.error.FromHexError.{FromHexError}
use Rattle.hex.specs.declared.error.FromHexError.TheVariants.{OddLength}
use Rattle.hex.proofs.HexLemmas.{decode_of-encode_lower, decode_of-even, length-encode_with}
use Rattle.texts.specs.Text.{StandsFor, hex_answer, bytes_of_digits, bytes_of_text, nothing_text, text_of_bytes}
use Rattle.texts.proofs.DigitLemmas.{decode_pairs-lower, lower-decode_pairs}

-- the text of bytes stands for them
pub bytes_of_text-text_of_bytes : (xs : List ℕ) → IsBytes xs → bytes_of_text (text_of_bytes xs) ≡ Some xs
unfolding encode_with
bytes_of_text-text_of_bytes [] h = refl
bytes_of_text-text_of_bytes (b ∷ xs) h = step (encode_lower (b ∷ xs)) (longer b xs) (decode_of-encode_lower (b ∷ xs) h)
  where
    longer : (b : ℕ) (xs : List ℕ) → 1 < length (encode_lower (b ∷ xs))
    longer b xs = omega arith

    step : (t : List ℕ) → 1 < length t → decode_of t ≡ Ok (b ∷ xs) → bytes_of_text t ≡ Some (b ∷ xs)
    step [] long e = absurd (omega arith)
    step (c ∷ []) long e = absurd (omega arith)
    step (c ∷ d ∷ t) long e = grind (arith)

-- a text with a character is not that of no pairs
no_text : (c : ℕ) (text : List ℕ) → map to_ascii_lowercase (c ∷ text) ≡ encode_lower [] → ⊥
unfolding encode_with
no_text c text h = cc h

-- the hyphen has no case
lower_hyphen : (c : ℕ) → to_ascii_lowercase c ≡ 45 → c ≡ 45
lower_hyphen c h = grind (arith)

-- a text of two characters or more is read by its digits
no_hyphen : (c d : ℕ) (text bytes : List ℕ) → bytes_of_digits (c ∷ d ∷ text) ≡ Some bytes → bytes_of_text (c ∷ d ∷ text) ≡ Some bytes
no_hyphen c d text bytes h = step (bytes_eq (c ∷ d ∷ text) nothing_text) refl
  where
    step : (same : Bool) → bytes_eq (c ∷ d ∷ text) nothing_text ≡ same
        → (if same then Some [] else bytes_of_digits (c ∷ d ∷ text)) ≡ Some bytes
    step true s = let long = ap length ((bytes_eq-Decides (c ∷ d ∷ text) nothing_text).0 s) in absurd (omega arith)
    step false s = h

-- what an answer with a value is
answered-ok : (r : Result (List ℕ) FromHexError) (bytes : List ℕ) → hex_answer r ≡ Some bytes → r ≡ Ok bytes
answered-ok (Ok xs) bytes e = ap (λ (o : Option (List ℕ)). Ok (unwrap_or o [])) e
answered-ok (Err f) bytes e = cc e

-- a text that decodes does so by pairs
decode_of-pairs : (text bytes : List ℕ) → decode_of text ≡ Ok bytes → decode_pairs 0 text ≡ Ok bytes
decode_of-pairs text bytes h = step (length text % 2 == 1) h
  where
    step : (odd : Bool) → (if odd then Err OddLength else decode_pairs 0 text) ≡ Ok bytes → decode_pairs 0 text ≡ Ok bytes
    step true e = cc e
    step false e = e

-- bytes whose digits a text has
StandsFor-bytes_of_digits : (text bytes : List ℕ) → bytes_of_digits text ≡ Some bytes → StandsFor text bytes
StandsFor-bytes_of_digits [] bytes e = cc e
StandsFor-bytes_of_digits (c ∷ text) bytes e =
    step bytes (lower-decode_pairs 0 (c ∷ text) bytes (decode_of-pairs (c ∷ text) bytes (answered-ok _ bytes e)))
  where
    step : (xs : List ℕ) → map to_ascii_lowercase (c ∷ text) ≡ encode_lower xs → StandsFor (c ∷ text) xs
    step [] h = absurd (no_text c text h)
    step (x ∷ xs) h = h

-- what a text is read as, it stands for
StandsFor-bytes_of_text : (text bytes : List ℕ) → bytes_of_text text ≡ Some bytes → StandsFor text bytes
StandsFor-bytes_of_text text bytes h = step (bytes_eq text nothing_text) refl h
  where
    step : (same : Bool) → bytes_eq text nothing_text ≡ same
        → (if same then Some [] else bytes_of_digits text) ≡ Some bytes → StandsFor text bytes
    step true s e =
        let is : text ≡ nothing_text = (bytes_eq-Decides text nothing_text).0 s in
        let none : [] ≡ bytes = ap (λ (o : Option (List ℕ)). unwrap_or o []) e in
        rw (is, ← none) refl
    step false s e = StandsFor-bytes_of_digits text bytes e

-- a text that stands for bytes is read as them
bytes_of_text-StandsFor : (text bytes : List ℕ) → IsBytes bytes → StandsFor text bytes → bytes_of_text text ≡ Some bytes
unfolding encode_with
bytes_of_text-StandsFor [] [] fits h = cc h
bytes_of_text-StandsFor [] (b ∷ bytes) fits h = cc h
bytes_of_text-StandsFor (c ∷ []) [] fits h =
    let is : c ≡ 45 = lower_hyphen c (ap (λ (t : List ℕ). slice_index t 0) h) in
    rw is refl
bytes_of_text-StandsFor (c ∷ d ∷ text) [] fits h = let long = ap length h in absurd (omega arith)
bytes_of_text-StandsFor (c ∷ []) (b ∷ bytes) fits h = let short = ap length h in absurd (omega arith)
bytes_of_text-StandsFor (c ∷ d ∷ text) (b ∷ bytes) fits h =
    let same_length = ap length h in
    let mapped = length-map text to_ascii_lowercase in
    let encoded = length-encode_with lower_digits bytes in
    let even : length (c ∷ d ∷ text) % 2 ≡ 0 = omega arith in
    let read : decode_of (c ∷ d ∷ text) ≡ Ok (b ∷ bytes) = decode_of-even (c ∷ d ∷ text) even ∙ decode_pairs-lower 0 (c ∷ d ∷ text) (b ∷ bytes) fits h in
    no_hyphen c d text (b ∷ bytes) (ap hex_answer read)

-- A text is read as the bytes that it stands for.
pub bytes_of_text_meaning : (text bytes : List ℕ) → IsBytes bytes → (bytes_of_text text ≡ Some bytes) ↔ StandsFor text bytes
bytes_of_text_meaning text bytes fits = (StandsFor-bytes_of_text text bytes, bytes_of_text-StandsFor text bytes fits)
