-- What escaped texts are read as.
use Rattle.std.proofs.Common.{◌≡◌, ◌≢◌, ℕ, suc, ◌+◌, ◌*◌, ◌/◌, ◌%◌, ◌<◌, ◌≤◌, ◌==◌, Bool, true, false, if◌then◌else◌, List, [], ◌∷◌, ◌++◌, Option, Some, None, length, get_or, drop, slice_index, refl, sym, ap, ◌∙◌, append-nil, arith}
use Rattle.std.specs.List.{flat_map}
use Rattle.std.specs.Option.{option_map}
use Rattle.std.specs.Str.{bytes_eq}
use Rattle.std.proofs.lemmas.Bool.{cond-true, cond-false, eq-eqb, ne_eqb}
use Rattle.std.proofs.lemmas.Bool.Decides.{nat_tests}
use Rattle.std.proofs.lemmas.Option.{same_Some}
use Rattle.std.proofs.lemmas.Slice.Eq.{bytes_eq-Decides}
use Rattle.hex.specs.Hex.{IsBytes, hex_digit_value, lower_digits}
use Rattle.hex.proofs.HexLemmas.{IsDigits-lower_digits}
use Rattle.texts.specs.Escaped.{backslash, byte_of_digits, byte_of_escape, byte_of_own, bytes_of_characters, bytes_of_escaped, empty_text, escape, escaped, escaped_byte, first_in_value, is_own, is_shown, joined, unescaped}

-- ---- the first byte of a text

-- a test that leads to nothing in either way
when_none : (b : Bool) (o : Option ℕ) → o ≡ None → (if b then o else None) ≡ None
when_none true o none = none
when_none false o none = refl

low_missing : (high : Option ℕ) → byte_of_digits high None ≡ None
low_missing None = refl
low_missing (Some high) = refl

-- an escape without its `x`, its first or its second digit
pub no_x : (x high low : ℕ) → x ≢ 120 → byte_of_escape x high low ≡ None
no_x x high low other = cond-false (x == 120) _ _ (ne_eqb x 120 other)

pub no_high : (x high low : ℕ) → None ≡ hex_digit_value high → byte_of_escape x high low ≡ None
no_high x high low none =
    when_none (x == 120) (byte_of_digits (hex_digit_value high) (hex_digit_value low)) (ap (λ (o : Option ℕ). byte_of_digits o (hex_digit_value low)) (sym none))

pub no_low : (x high low : ℕ) → None ≡ hex_digit_value low → byte_of_escape x high low ≡ None
no_low x high low none =
    when_none (x == 120) (byte_of_digits (hex_digit_value high) (hex_digit_value low))
    (ap (λ (o : Option ℕ). byte_of_digits (hex_digit_value high) o) (sym none) ∙ low_missing (hex_digit_value high))

-- an escape with its digits
pub whole_escape : (x high low a b : ℕ) → x ≡ 120 → Some a ≡ hex_digit_value high → Some b ≡ hex_digit_value low → byte_of_escape x high low ≡ Some (16 * a + b)
whole_escape x high low a b is first second =
    cond-true (x == 120) _ _ (eq-eqb x 120 is) ∙ ap (λ (o : Option ℕ). byte_of_digits o (hex_digit_value low)) (sym first)
    ∙ ap (λ (o : Option ℕ). byte_of_digits (Some a) o) (sym second)

-- a text that begins with an escape
pub unescaped-escape : (text : List ℕ) (b : ℕ) → 4 ≤ length text → get_or text 0 0 ≡ backslash → byte_of_escape (get_or text 1 0) (get_or text 2 0) (get_or text 3 0) ≡ Some b
    → unescaped text ≡ joined (Some b) (unescaped (drop 4 text))
unfolding unescaped
unescaped-escape [] b long slash value = absurd (omega arith)
unescaped-escape (c ∷ []) b long slash value = absurd (omega arith)
unescaped-escape (c ∷ x ∷ []) b long slash value = absurd (omega arith)
unescaped-escape (c ∷ x ∷ high ∷ []) b long slash value = absurd (omega arith)
unescaped-escape (c ∷ x ∷ high ∷ low ∷ text) b long slash value =
    cond-true (c == backslash) _ _ (eq-eqb c backslash slash) ∙ ap (λ (o : Option ℕ). joined o (unescaped text)) value

-- a backslash is not read as itself
not_own : (c : ℕ) → c ≡ backslash → byte_of_own c ≡ None
not_own c slash = rw slash refl

-- a backslash that begins no escape
pub unescaped-no_escape : (text : List ℕ) → 0 < length text → get_or text 0 0 ≡ backslash → (4 ≤ length text → byte_of_escape (get_or text 1 0) (get_or text 2 0) (get_or text 3 0) ≡ None)
    → unescaped text ≡ None
unfolding unescaped
unescaped-no_escape [] some slash none = absurd (omega arith)
unescaped-no_escape (c ∷ []) some slash none = ap (λ (o : Option ℕ). joined o (Some [])) (not_own c slash)
unescaped-no_escape (c ∷ x ∷ []) some slash none = ap (λ (o : Option ℕ). joined o (unescaped (x ∷ []))) (not_own c slash)
unescaped-no_escape (c ∷ x ∷ high ∷ []) some slash none = ap (λ (o : Option ℕ). joined o (unescaped (x ∷ high ∷ []))) (not_own c slash)
unescaped-no_escape (c ∷ x ∷ high ∷ low ∷ text) some slash none =
    cond-true (c == backslash) _ _ (eq-eqb c backslash slash) ∙ ap (λ (o : Option ℕ). joined o (unescaped text)) (none (omega arith))

-- a text whose first character is no backslash
pub unescaped-character : (c : ℕ) (text : List ℕ) → c ≢ backslash → unescaped (c ∷ text) ≡ joined (byte_of_own c) (unescaped text)
unfolding unescaped
unescaped-character c [] other = refl
unescaped-character c (x ∷ []) other = refl
unescaped-character c (x ∷ high ∷ []) other = refl
unescaped-character c (x ∷ high ∷ low ∷ text) other = cond-false (c == backslash) _ _ (ne_eqb c backslash other)

-- a character that stands for itself
pub unescaped-own : (c : ℕ) (text : List ℕ) → is_own c ≡ true → unescaped (c ∷ text) ≡ joined (Some c) (unescaped text)
unescaped-own c text own =
    let other : c ≢ backslash = grind (arith, nat_tests) in
    unescaped-character c text other ∙ ap (λ (o : Option ℕ). joined o (unescaped text)) (cond-true (is_own c) (Some c) None own)

-- a character that stands for nothing by itself, and begins no escape
pub unescaped-refused : (c : ℕ) (text : List ℕ) → c ≢ backslash → is_own c ≡ false → unescaped (c ∷ text) ≡ None
unescaped-refused c text other own =
    unescaped-character c text other ∙ ap (λ (o : Option ℕ). joined o (unescaped text)) (cond-false (is_own c) (Some c) None own)

-- ---- the texts of bytes

-- the escape of a byte is read as it
unescaped-escape_of : (b : ℕ) (text : List ℕ) → b < 256 → unescaped (escape b ++ text) ≡ joined (Some b) (unescaped text)
unescaped-escape_of b text fits =
    let high = IsDigits-lower_digits (b / 16) (omega arith) in
    let low = IsDigits-lower_digits (b % 16) (omega arith) in
    let whole : 16 * (b / 16) + b % 16 ≡ b = omega arith in
    let value : byte_of_escape 120 (slice_index lower_digits (b / 16)) (slice_index lower_digits (b % 16)) ≡ Some b = rw (high, low, whole) refl in
    unescaped-escape (escape b ++ text) b (omega arith) refl value

-- what stands for itself from a later character on is read as itself
shown_is_own : (wide : Bool) (first b : ℕ) → first_in_value ≤ first → is_shown wide first b ≡ true → is_own b ≡ true
shown_is_own true first b late shown = grind (arith, nat_tests)
shown_is_own false first b late shown = grind (arith, nat_tests)

-- bytes, each itself or its escape, are read as they are
unescaped-bytes : (wide : Bool) (first : ℕ) (bytes : List ℕ) → first_in_value ≤ first → IsBytes bytes → unescaped (flat_map (escaped_byte wide first) bytes) ≡ Some bytes
unfolding unescaped
unescaped-bytes wide first [] late fits = refl
unescaped-bytes wide first (b ∷ bytes) late fits = step (is_shown wide first b) refl (unescaped-bytes wide first bytes late (λ i. fits (suc i)))
  where
    step : (plain : Bool) → is_shown wide first b ≡ plain → unescaped (flat_map (escaped_byte wide first) bytes) ≡ Some bytes
        → unescaped ((if plain then b ∷ [] else escape b) ++ flat_map (escaped_byte wide first) bytes) ≡ Some (b ∷ bytes)
    step true is ih =
        unescaped-own b (flat_map (escaped_byte wide first) bytes) (shown_is_own wide first b late is) ∙ ap (joined (Some b)) ih
    step false is ih =
        unescaped-escape_of b (flat_map (escaped_byte wide first) bytes) (fits 0) ∙ ap (joined (Some b)) ih

-- the text of no bytes, read by its characters
marks_read : unescaped empty_text ≡ Some empty_text
unfolding unescaped
marks_read = refl

-- a text that is read as other bytes than none and two quotation marks
read_whole : (text bytes : List ℕ) → unescaped text ≡ Some bytes → bytes ≢ [] → bytes ≢ empty_text → bytes_of_escaped text ≡ Some bytes
unfolding unescaped
read_whole text bytes read some other = step (bytes_eq text empty_text) refl text read
  where
    characters : (text : List ℕ) → unescaped text ≡ Some bytes → bytes_of_characters text ≡ Some bytes
    characters [] h = absurd (some (sym (same_Some _ _ h)))
    characters (c ∷ text) h = h

    step : (same : Bool) → bytes_eq text empty_text ≡ same → (text' : List ℕ) → unescaped text' ≡ Some bytes
        → (if same then Some [] else bytes_of_characters text') ≡ Some bytes
    step true is text' h = absurd (other (same_Some _ _ (sym read ∙ ap unescaped ((bytes_eq-Decides text empty_text).0 is) ∙ marks_read)))
    step false is text' h = characters text' h

-- The text of bytes is read as these bytes.
pub bytes_of_escaped-escaped : (wide : Bool) (first : ℕ) (bytes : List ℕ) → first_in_value ≤ first → IsBytes bytes → bytes_of_escaped (escaped wide first bytes) ≡ Some bytes
unfolding unescaped
bytes_of_escaped-escaped wide first [] late fits = refl
bytes_of_escaped-escaped wide first (b ∷ bytes) late fits = step (bytes_eq (b ∷ bytes) empty_text) refl
  where
    step : (same : Bool) → bytes_eq (b ∷ bytes) empty_text ≡ same
        → bytes_of_escaped (if same then flat_map escape empty_text else flat_map (escaped_byte wide first) (b ∷ bytes)) ≡ Some (b ∷ bytes)
    step true is = ap (λ (xs : List ℕ). Some xs) (sym ((bytes_eq-Decides (b ∷ bytes) empty_text).0 is))
    step false is =
        read_whole (flat_map (escaped_byte wide first) (b ∷ bytes)) (b ∷ bytes) (unescaped-bytes wide first (b ∷ bytes) late fits) (λ e. cc)
        (λ e. let same = (bytes_eq-Decides (b ∷ bytes) empty_text).1 e in cc)

-- ---- the loop over a text

-- what was read, before what the rest is read as
abbrev pub with_front : List ℕ → Option (List ℕ) → Option (List ℕ)
with_front front rest = option_map (λ bytes. front ++ bytes) rest

-- all was read
pub with_front-all : (front text : List ℕ) → length text ≡ 0 → with_front front (unescaped text) ≡ Some front
unfolding unescaped
with_front-all front [] none = ap (λ (xs : List ℕ). Some xs) (append-nil front)
with_front-all front (c ∷ text) none = absurd (omega arith)
