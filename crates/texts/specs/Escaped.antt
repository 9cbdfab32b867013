-- Keys and values as printable ASCII, with `\xHH` for every other byte, or for those of ASCII
-- alone. A text is read so too, and a character outside ASCII as its bytes.
use Rattle.std.specs.Prelude.{ℕ, ◌+◌, ◌*◌, ◌/◌, ◌%◌, ◌==◌, ◌&&◌, ◌||◌, nat_le, not}
use Rattle.std.specs.Prelude.{Bool, List, [], ◌∷◌}
use Rattle.std.specs.Prelude.{◌++◌, Option, Some, None, codes, slice_index, if◌then◌else◌}
use Rattle.std.specs.List.{flat_map}
use Rattle.std.specs.Str.{bytes_eq}
use Rattle.hex.specs.Hex.{hex_digit_value, lower_digits}

-- the text of no bytes: two quotation marks
abbrev pub empty_text : List ℕ
empty_text = codes "\"\""

-- the backslash
abbrev pub backslash : ℕ
backslash = 92

-- whether a byte stands for itself: it is a character from the first one to the tilde, but for the
-- backslash
abbrev pub is_plain : ℕ → ℕ → Bool
is_plain first b = nat_le first b && (nat_le b 126 && not (b == backslash))

-- the first character that stands for itself in a key; a space would end the key on its line
abbrev pub first_in_key : ℕ
first_in_key = 33

-- the first character that stands for itself in a value: the space
abbrev pub first_in_value : ℕ
first_in_value = 32

-- the two lower-case hexadecimal digits of a byte after `\x`
abbrev pub escape : ℕ → List ℕ
escape b = codes "\\x" ++ slice_index lower_digits (b / 16) ∷ slice_index lower_digits (b % 16) ∷ []

-- whether a byte stands for itself, if those outside ASCII do, or don't
abbrev pub is_shown : Bool → ℕ → ℕ → Bool
is_shown wide first b = is_plain first b || (wide && nat_le 128 b)

-- a byte itself, or its escape
abbrev pub escaped_byte : Bool → ℕ → ℕ → List ℕ
escaped_byte wide first b = if is_shown wide first b then b ∷ [] else escape b

-- the text of bytes; if they are the text of no bytes themselves, each is escaped
abbrev pub escaped : Bool → ℕ → List ℕ → List ℕ
escaped wide first [] = empty_text
escaped wide first (b ∷ bytes) =
    if bytes_eq (b ∷ bytes) empty_text then flat_map escape empty_text
    else flat_map (escaped_byte wide first) (b ∷ bytes)

-- the byte of two digits
abbrev pub byte_of_digits : Option ℕ → Option ℕ → Option ℕ
byte_of_digits None low = None
byte_of_digits (Some high) None = None
byte_of_digits (Some high) (Some low) = Some (16 * high + low)

-- the byte of the three characters after a backslash: `x` and two digits of either case
abbrev pub byte_of_escape : ℕ → ℕ → ℕ → Option ℕ
byte_of_escape x high low =
    if x == 120 then byte_of_digits (hex_digit_value high) (hex_digit_value low) else None

-- whether a byte of a text is read as itself: it stands for itself in a value, or it is part of a
-- character outside ASCII
abbrev pub is_own : ℕ → Bool
is_own c = is_plain first_in_value c || nat_le 128 c

-- the byte that a byte of a text stands for by itself
abbrev pub byte_of_own : ℕ → Option ℕ
byte_of_own c = if is_own c then Some c else None

-- a first byte and the bytes after it, if both are read
abbrev pub joined : Option ℕ → Option (List ℕ) → Option (List ℕ)
joined None rest = None
joined (Some b) None = None
joined (Some b) (Some bytes) = Some (b ∷ bytes)

-- the bytes that characters stand for, one after the other; None if one stands for none
unfoldable pub unescaped : List ℕ → Option (List ℕ)
unescaped [] = Some []
unescaped (c ∷ x ∷ high ∷ low ∷ text) =
    if c == backslash then joined (byte_of_escape x high low) (unescaped text)
    else joined (byte_of_own c) (unescaped (x ∷ high ∷ low ∷ text))
unescaped (c ∷ text) = joined (byte_of_own c) (unescaped text)

-- the bytes of a text with a character; None for the empty text
abbrev pub bytes_of_characters : List ℕ → Option (List ℕ)
bytes_of_characters [] = None
bytes_of_characters (c ∷ text) = unescaped (c ∷ text)

-- the bytes that a text stands for; None if it stands for none
abbrev pub bytes_of_escaped : List ℕ → Option (List ℕ)
bytes_of_escaped text =
    if bytes_eq text empty_text then Some [] else bytes_of_characters text
