-- Texts in which bytes outside ASCII stand for themselves.
use Rattle.std.proofs.Common.{◌≡◌, ◌⊎◌, ℕ, zero, suc, ◌<◌, ◌≤◌, ◌&&◌, ◌||◌, Bool, true, false, nat_le, nat_lt, if◌then◌else◌, List, [], ◌∷◌, ◌++◌, All, length, get_or, inl, inr, refl, sym, ap, ap₂, ◌∙◌, subst, arith, append-nil}
use Rattle.std.specs.List.{flat_map}
use Rattle.std.specs.Str.{IsUtf8, bytes_eq}
use lib.Utf8.{scalar, scalars, encode, encodes}
use Rattle.std.proofs.lemmas.Bool.{and_parts, cases_lt, cond_both, leb-true}
use Rattle.std.proofs.lemmas.Bool.Decides.{nat_tests}
use Rattle.std.proofs.lemmas.Grind.{flat_map-append}
use Rattle.std.proofs.lemmas.List.Elements.{All-append, All-cons, All-nil, All-weaker}
use Rattle.std.proofs.lemmas.Str.{IsUtf8-append, IsUtf8-encode, IsUtf8-from_ascii, IsUtf8-nil, encode_ascii, inside_one}
use Rattle.std.proofs.lemmas.Str.Ascii.{IsAscii-from_all}
use Rattle.hex.specs.Hex.{IsBytes}
use Rattle.texts.specs.Escaped.{empty_text, escape, escaped, escaped_byte, first_in_key, is_plain, is_shown}
use Rattle.texts.specs.Spelling.{IsPrintable}
use Rattle.texts.proofs.PrintableLemmas.{escape_printable, escaped_printable}

-- a character that is printed
abbrev IsWide : ℕ → ℕ → Type 0
IsWide first c = IsPrintable first c ⊎ (128 ≤ c)

wide_of : (first : ℕ) (text : List ℕ) → All (IsPrintable first) text → All (IsWide first) text
wide_of first text h = All-weaker (IsPrintable first) (IsWide first) (λ c p. inl p) text h

-- a byte that stands for itself
shown_wide : (wide : Bool) (first b : ℕ) → is_shown wide first b ≡ true → IsWide first b
shown_wide wide first b shown = elim (cases_lt b 128) [
  | inl low ↦ inl (plain wide (leb-false low) shown)
  | inr high ↦ inr high
]
  where
    leb-false : b < 128 → nat_le 128 b ≡ false
    leb-false low = grind (arith, nat_tests)

    plain : (wide : Bool) → nat_le 128 b ≡ false → is_shown wide first b ≡ true → IsPrintable first b
    plain true low shown = (grind (arith, nat_tests), grind (arith, nat_tests))
    plain false low shown = (grind (arith, nat_tests), grind (arith, nat_tests))

byte_wide : (wide : Bool) (first b : ℕ) → first ≤ first_in_key → b < 256 → All (IsWide first) (escaped_byte wide first b)
byte_wide wide first b early fits =
    cond_both (is_shown wide first b) (b ∷ []) (escape b) (All (IsWide first))
    (λ shown. All-cons (IsWide first) b [] (shown_wide wide first b shown) (All-nil (IsWide first)))
    (λ _. wide_of first (escape b) (escape_printable first b early fits))

bytes_wide : (wide : Bool) (first : ℕ) (bytes : List ℕ) → first ≤ first_in_key → IsBytes bytes → All (IsWide first) (flat_map (escaped_byte wide first) bytes)
bytes_wide wide first [] early fits = All-nil (IsWide first)
bytes_wide wide first (b ∷ bytes) early fits =
    All-append (IsWide first) (escaped_byte wide first b) (flat_map (escaped_byte wide first) bytes) (byte_wide wide first b early (fits 0))
    (bytes_wide wide first bytes early (λ i. fits (suc i)))

-- the text of bytes is printable, or has bytes outside ASCII
pub wide_shown : (wide : Bool) (first : ℕ) (bytes : List ℕ) → first ≤ first_in_key → IsBytes bytes → All (IsWide first) (escaped wide first bytes)
wide_shown wide first [] early fits = wide_of first empty_text (escaped_printable first [] early fits)
wide_shown wide first (b ∷ bytes) early fits =
    cond_both (bytes_eq (b ∷ bytes) empty_text) (flat_map escape empty_text) (flat_map (escaped_byte wide first) (b ∷ bytes)) (All (IsWide first))
    (λ _. All-append (IsWide first) (escape 34) (flat_map escape (34 ∷ [])) (wide_of first (escape 34) (escape_printable first 34 early (omega arith)))
    (All-append (IsWide first) (escape 34) [] (wide_of first (escape 34) (escape_printable first 34 early (omega arith))) (All-nil (IsWide first))))
    (λ _. bytes_wide wide first (b ∷ bytes) early fits)

-- ---- that of UTF-8 is UTF-8

ascii_utf8 : (text : List ℕ) → All (λ c. c < 128) text → IsUtf8 text
ascii_utf8 text h = IsUtf8-from_ascii text (IsAscii-from_all text h)

escape_utf8 : (b : ℕ) → b < 256 → IsUtf8 (escape b)
escape_utf8 b fits =
    ascii_utf8 (escape b) (All-weaker (IsPrintable first_in_key) (λ c. c < 128) (λ c p. let most = p.1 in omega arith) (escape b) (escape_printable first_in_key b (omega arith) fits))

-- bytes outside ASCII stay
high_stay : (first : ℕ) (xs : List ℕ) → ((k : ℕ) → k < length xs → 128 ≤ get_or xs k 0) → flat_map (escaped_byte true first) xs ≡ xs
high_stay first [] h = refl
high_stay first (x ∷ xs) h =
    let high : 128 ≤ x = h 0 (omega arith) in
    let shown : is_shown true first x ≡ true = grind (arith, nat_tests) in
    ap₂ (λ (a b : List ℕ). a ++ b) (ap (λ (t : Bool). if t then x ∷ [] else escape x) shown) (high_stay first xs (λ k below. h (suc k) (omega arith)))

-- one character
one_char : (first c : ℕ) → scalar c ≡ true → IsUtf8 (flat_map (escaped_byte true first) (encode c))
one_char first c ok = elim (cases_lt c 128) [
  | inl small ↦
      rw (encode_ascii c small, append-nil)
      (cond_both (is_shown true first c) (c ∷ []) (escape c) IsUtf8 (λ _. subst IsUtf8 (encode_ascii c small) (IsUtf8-encode c ok)) (λ _. escape_utf8 c (omega arith)))
  | inr big ↦
      let high : (k : ℕ) → k < length (encode c) → 128 ≤ get_or (encode c) k 0 = λ k below. elim (cases_lt (get_or (encode c) k 0) 128) [
        | inl low ↦ absurd (omega (arith, inside_one c [] (encode c) k (sym (append-nil _)) below low))
        | inr h ↦ h
      ] in
      subst IsUtf8 (sym (high_stay first (encode c) high)) (IsUtf8-encode c ok)
]

all_chars : (first : ℕ) (cs : List ℕ) → scalars cs ≡ true → IsUtf8 (flat_map (escaped_byte true first) (encodes cs))
all_chars first [] e = IsUtf8-nil
all_chars first (c ∷ cs) e =
    let p = and_parts _ _ e in
    subst IsUtf8 (sym (flat_map-append (escaped_byte true first) (encode c) (encodes cs))) (IsUtf8-append _ _ (one_char first c p.0) (all_chars first cs p.1))

chars_utf8 : (first : ℕ) (bytes : List ℕ) → IsUtf8 bytes → IsUtf8 (flat_map (escaped_byte true first) bytes)
chars_utf8 first bytes (cs, (ok, is)) = subst (λ (xs : List ℕ). IsUtf8 (flat_map (escaped_byte true first) xs)) is (all_chars first cs ok)

pub wide_utf8 : (first : ℕ) (bytes : List ℕ) → first ≤ first_in_key → IsUtf8 bytes → IsUtf8 (escaped true first bytes)
wide_utf8 first [] early u = ascii_utf8 empty_text (All-cons (λ c. c < 128) 34 (34 ∷ []) (omega arith) (All-cons (λ c. c < 128) 34 [] (omega arith) (All-nil (λ c. c < 128))))
wide_utf8 first (b ∷ bytes) early u =
    cond_both (bytes_eq (b ∷ bytes) empty_text) (flat_map escape empty_text) (flat_map (escaped_byte true first) (b ∷ bytes)) IsUtf8
    (λ _. IsUtf8-append (escape 34) (flat_map escape (34 ∷ [])) (escape_utf8 34 (omega arith)) (IsUtf8-append (escape 34) [] (escape_utf8 34 (omega arith)) IsUtf8-nil))
    (λ _. chars_utf8 first (b ∷ bytes) u)
