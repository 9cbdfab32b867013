-- The three ways in which keys and values are written.
use Rattle.std.specs.Prelude.{◌≡◌, ◌≤◌, ◌⊎◌, ℕ, false, List, Option, Some, All}
use Rattle.std.specs.Str.{is_utf8}
use Rattle.hex.specs.Hex.{IsBytes}
use Rattle.texts.specs.Escaped.{bytes_of_escaped, escaped, first_in_key, first_in_value}
use Rattle.texts.specs.Text.{bytes_of_text, text_of_bytes}
use Rattle.texts.specs.declared.spelling.Spelling.{Spelling}
use Rattle.texts.specs.declared.spelling.Spelling.TheVariants.{Hexadecimal, Text, Utf8}

-- the text of a key
abbrev pub key_text : Spelling → List ℕ → List ℕ
key_text Hexadecimal key = text_of_bytes key
key_text Text key = escaped false first_in_key key
key_text Utf8 key = escaped (is_utf8 key) first_in_key key

-- the text of a value
abbrev pub value_text : Spelling → List ℕ → List ℕ
value_text Hexadecimal value = text_of_bytes value
value_text Text value = escaped false first_in_value value
value_text Utf8 value = escaped (is_utf8 value) first_in_value value

-- the bytes that a text stands for; None if it stands for none
abbrev pub bytes_of : Spelling → List ℕ → Option (List ℕ)
bytes_of Hexadecimal text = bytes_of_text text
bytes_of Text text = bytes_of_escaped text
bytes_of Utf8 text = bytes_of_escaped text

-- texts of bytes are read as these bytes
abbrev pub ReadBack : (Spelling → List ℕ → List ℕ) → Type 0
ReadBack text = (spelling : Spelling) (bytes : List ℕ) → IsBytes bytes
    → bytes_of spelling (text spelling bytes) ≡ Some bytes

-- a character from a first one to the tilde
abbrev pub IsPrintable : ℕ → ℕ → Type 0
IsPrintable first c = (first ≤ c) × (c ≤ 126)

-- the same in a spelling, which may have bytes of characters outside ASCII too
abbrev pub IsShown : Spelling → ℕ → ℕ → Type 0
IsShown Hexadecimal first c = IsPrintable first c
IsShown Text first c = IsPrintable first c
IsShown Utf8 first c = IsPrintable first c ⊎ (128 ≤ c)

-- texts of bytes have only characters from a first one to the tilde, and outside ASCII
abbrev pub ArePrintable : ℕ → (Spelling → List ℕ → List ℕ) → Type 0
ArePrintable first text = (spelling : Spelling) (bytes : List ℕ) → IsBytes bytes
    → All (IsShown spelling first) (text spelling bytes)
