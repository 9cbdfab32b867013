-- Keys, values and numbers as text.
use Rattle.std.specs.Prelude.{◌≡◌, ◌<◌, ◌^◌, ℕ, List, [], ◌∷◌, Option, Some, None, Result, Ok, Err}
use Rattle.std.specs.Prelude.{codes, map, if◌then◌else◌}
use Rattle.std.specs.Str.{bytes_eq}
use Rattle.std.specs.Str.Parse.{IsNumeral, digits_value}
use Rattle.std.specs.Char.{to_ascii_lowercase}
use Rattle.hex.specs.Hex.{decode_of, encode_lower}
use Rattle.hex.specs.declared.error.FromHexError.{FromHexError}

-- the text of no bytes
abbrev pub nothing_text : List ℕ
nothing_text = codes "-"

-- the lower-case hexadecimal digits of bytes; `-` for no bytes
abbrev pub text_of_bytes : List ℕ → List ℕ
text_of_bytes [] = nothing_text
text_of_bytes (b ∷ bytes) = encode_lower (b ∷ bytes)

-- the value of an answer; None for any error
abbrev pub hex_answer : Result (List ℕ) FromHexError → Option (List ℕ)
hex_answer (Ok bytes) = Some bytes
hex_answer (Err e) = None

-- the bytes of a text of hexadecimal digits of either case; None for the empty text and every other
abbrev pub bytes_of_digits : List ℕ → Option (List ℕ)
bytes_of_digits [] = None
bytes_of_digits (c ∷ text) = hex_answer (decode_of (c ∷ text))

-- the bytes that a text stands for, `-` being no bytes; None if it stands for none
abbrev pub bytes_of_text : List ℕ → Option (List ℕ)
bytes_of_text text = if bytes_eq text nothing_text then Some [] else bytes_of_digits text

-- A text stands for bytes if it is their text, whatever the case of its letters.
abbrev pub StandsFor : List ℕ → List ℕ → Type 0
StandsFor text bytes = map to_ascii_lowercase text ≡ text_of_bytes bytes

-- a text is a number of 64 bits: decimal digits alone, below 2 ^ 64
abbrev pub IsNumberText : List ℕ → Type 0
IsNumberText text = IsNumeral 10 text × (digits_value 10 text < 2 ^ 64)
