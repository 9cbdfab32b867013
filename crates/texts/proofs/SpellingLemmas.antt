-- Texts of keys and values are read as these, and are printable.
use Rattle.std.proofs.Common.{◌≡◌, ◌<◌, ◌≤◌, ℕ, Bool, true, false, List, Some, All, refl, arith}
use Rattle.std.specs.Str.{IsUtf8, is_utf8}
use Rattle.std.proofs.lemmas.List.Elements.{All-weaker}
use Rattle.std.proofs.lemmas.Str.{IsUtf8-from_ascii, IsUtf8-from_is_utf8}
use Rattle.std.proofs.lemmas.Str.Ascii.{IsAscii-from_all}
use Rattle.hex.specs.Hex.{IsBytes}
use Rattle.texts.specs.Escaped.{escaped, first_in_key, first_in_value}
use Rattle.texts.specs.Spelling.{IsPrintable, IsShown, bytes_of, key_text, value_text}
use Rattle.texts.specs.declared.spelling.Spelling.{Spelling}
use Rattle.texts.specs.declared.spelling.Spelling.TheVariants.{Hexadecimal, Text, Utf8}
use Rattle.texts.proofs.EscapedLemmas.{bytes_of_escaped-escaped}
use Rattle.texts.proofs.PrintableLemmas.{digits_printable, escaped_printable}
use Rattle.texts.proofs.WideLemmas.{wide_shown, wide_utf8}
use Rattle.texts.proofs.TextLemmas.{bytes_of_text-text_of_bytes}

pub keys_read : (spelling : Spelling) (key : List ℕ) → IsBytes key → bytes_of spelling (key_text spelling key) ≡ Some key
keys_read Hexadecimal key fits = bytes_of_text-text_of_bytes key fits
keys_read Text key fits = bytes_of_escaped-escaped false first_in_key key (omega arith) fits
keys_read Utf8 key fits = bytes_of_escaped-escaped (is_utf8 key) first_in_key key (omega arith) fits

pub values_read : (spelling : Spelling) (value : List ℕ) → IsBytes value → bytes_of spelling (value_text spelling value) ≡ Some value
values_read Hexadecimal value fits = bytes_of_text-text_of_bytes value fits
values_read Text value fits = bytes_of_escaped-escaped false first_in_value value (omega arith) fits
values_read Utf8 value fits = bytes_of_escaped-escaped (is_utf8 value) first_in_value value (omega arith) fits

pub keys_printable : (spelling : Spelling) (key : List ℕ) → IsBytes key → All (IsShown spelling first_in_key) (key_text spelling key)
keys_printable Hexadecimal key fits = digits_printable first_in_key key (omega arith) fits
keys_printable Text key fits = escaped_printable first_in_key key (omega arith) fits
keys_printable Utf8 key fits = wide_shown (is_utf8 key) first_in_key key (omega arith) fits

pub values_printable : (spelling : Spelling) (value : List ℕ) → IsBytes value → All (IsShown spelling first_in_value) (value_text spelling value)
values_printable Hexadecimal value fits = digits_printable first_in_value value (omega arith) fits
values_printable Text value fits = escaped_printable first_in_value value (omega arith) fits
values_printable Utf8 value fits = wide_shown (is_utf8 value) first_in_value value (omega arith) fits

-- printable characters are text
printable_utf8 : (first : ℕ) (text : List ℕ) → All (IsPrintable first) text → IsUtf8 text
printable_utf8 first text h =
    IsUtf8-from_ascii text (IsAscii-from_all text (All-weaker (IsPrintable first) (λ c. c < 128) (λ c p. let most = p.1 in omega arith) text h))

-- so is the text of bytes that are text, if those outside ASCII stand for themselves
shown_utf8 : (wide : Bool) (first : ℕ) (bytes : List ℕ) → first ≤ first_in_key → IsBytes bytes → (wide ≡ true → IsUtf8 bytes) → IsUtf8 (escaped wide first bytes)
shown_utf8 false first bytes early fits h = printable_utf8 first (escaped false first bytes) (escaped_printable first bytes early fits)
shown_utf8 true first bytes early fits h = wide_utf8 first bytes early (h refl)

pub keys_utf8 : (spelling : Spelling) (key : List ℕ) → IsBytes key → IsUtf8 (key_text spelling key)
keys_utf8 Hexadecimal key fits = printable_utf8 first_in_key (key_text Hexadecimal key) (keys_printable Hexadecimal key fits)
keys_utf8 Text key fits = printable_utf8 first_in_key (key_text Text key) (keys_printable Text key fits)
keys_utf8 Utf8 key fits = shown_utf8 (is_utf8 key) first_in_key key (omega arith) fits (IsUtf8-from_is_utf8 key)

pub values_utf8 : (spelling : Spelling) (value : List ℕ) → IsBytes value → IsUtf8 (value_text spelling value)
values_utf8 Hexadecimal value fits = printable_utf8 first_in_value (value_text Hexadecimal value) (values_printable Hexadecimal value fits)
values_utf8 Text value fits = printable_utf8 first_in_value (value_text Text value) (values_printable Text value fits)
values_utf8 Utf8 value fits = shown_utf8 (is_utf8 value) first_in_value value (omega arith) fits (IsUtf8-from_is_utf8 value)
