-- The lines of values.
use Rattle.std.proofs.Common.{◌≡◌, ◌≢◌, ℕ, ◌-◌, Bool, true, false, if◌then◌else◌, List, [], ◌++◌, Some, None, All, codes, length, take, refl, inl, sym, ap, subst, ◌∙◌, arith}
use Rattle.std.specs.Str.{bytes_eq}
use Rattle.std.proofs.Math.Seq.{take-append_seam}
use Rattle.std.proofs.lemmas.Bool.{cond_both}
use Rattle.std.proofs.lemmas.List.{length-append}
use Rattle.std.proofs.lemmas.List.Elements.{All-cons, All-nil, All-weaker}
use Rattle.std.proofs.lemmas.Option.{none-some, same_Some}
use Rattle.std.proofs.lemmas.Slice.Eq.{bytes_eq-Decides}
use Rattle.hex.specs.Hex.{IsBytes, decode_pairs}
use Rattle.texts.specs.Escaped.{first_in_value, unescaped}
use Rattle.texts.specs.Spelling.{IsPrintable, IsShown, bytes_of, value_text}
use Rattle.texts.specs.declared.spelling.Spelling.{Spelling}
use Rattle.texts.specs.declared.spelling.Spelling.TheVariants.{Hexadecimal, Text, Utf8}
use Rattle.texts.proofs.SpellingLemmas.{values_printable, values_read}
use Rattle.answers.specs.ValueForms.{line_text, lone_text, value_line, value_line_text}

-- what `none` and its escaped text are read as
none_as_digits : bytes_of Hexadecimal (codes "none") ≡ None
unfolding decode_pairs
none_as_digits = refl

none_as_text : bytes_of Text (codes "none") ≡ Some (codes "none")
unfolding unescaped
none_as_text = refl

escaped_as_text : bytes_of Text (codes "\\x6eone") ≡ Some (codes "none")
unfolding unescaped
escaped_as_text = refl

-- of the texts of a value and of `none` the right one is read as the value, and it is not `none`
module _ (spelling : Spelling) (value : List ℕ) where
  escaped_read : (same : Bool) → bytes_eq value (codes "none") ≡ same → bytes_of spelling (codes "\\x6eone") ≡ Some (codes "none") → bytes_of spelling (value_text spelling value) ≡ Some value
      → bytes_of spelling (if same then codes "\\x6eone" else value_text spelling value) ≡ Some value
  escaped_read true is other own = other ∙ ap (λ (b : List ℕ). Some b) (sym ((bytes_eq-Decides value (codes "none")).0 is))
  escaped_read false is other own = own

  escaped_other : (same : Bool) → bytes_eq value (codes "none") ≡ same → bytes_of spelling (codes "none") ≡ Some (codes "none") → bytes_of spelling (value_text spelling value) ≡ Some value
      → (if same then codes "\\x6eone" else value_text spelling value) ≡ codes "none" → ⊥
  escaped_other true is other own h = let long = ap length h in absurd (omega arith)
  escaped_other false is other own h =
      let read : value ≡ codes "none" = same_Some _ _ (sym own ∙ ap (bytes_of spelling) h ∙ other) in
      let same = (bytes_eq-Decides value (codes "none")).1 read in
      absurd cc

-- the text of a value on a line of its own is read as this value
lone_read : (spelling : Spelling) (value : List ℕ) → IsBytes value → bytes_of spelling (lone_text spelling value) ≡ Some value
lone_read Hexadecimal value fits = values_read Hexadecimal value fits
lone_read Text value fits = escaped_read Text value (bytes_eq value (codes "none")) refl escaped_as_text (values_read Text value fits)
lone_read Utf8 value fits = escaped_read Utf8 value (bytes_eq value (codes "none")) refl escaped_as_text (values_read Utf8 value fits)

-- it is not `none`
lone_other : (spelling : Spelling) (value : List ℕ) → IsBytes value → lone_text spelling value ≢ codes "none"
lone_other Hexadecimal value fits e = none-some value (sym none_as_digits ∙ sym (ap (bytes_of Hexadecimal) e) ∙ values_read Hexadecimal value fits)
lone_other Text value fits e = escaped_other Text value (bytes_eq value (codes "none")) refl none_as_text (values_read Text value fits) e
lone_other Utf8 value fits e = escaped_other Utf8 value (bytes_eq value (codes "none")) refl none_as_text (values_read Utf8 value fits) e

-- the text of a line
line_text-line : (text : List ℕ) → line_text (text ++ codes "\n") ≡ text
line_text-line text =
    let same : length (text ++ codes "\n") - 1 ≡ length text = omega (arith, length-append text (codes "\n")) in
    ap (λ (n : ℕ). take n (text ++ codes "\n")) same ∙ take-append_seam text (codes "\n")

-- the escaped text of `none` is printable
none_printable : All (IsPrintable first_in_value) (codes "\\x6eone")
none_printable =
    let P : ℕ → Type 0 = IsPrintable first_in_value in
    All-cons P 92 (codes "x6eone") (omega arith, omega arith)
    (All-cons P 120 (codes "6eone") (omega arith, omega arith)
    (All-cons P 54 (codes "eone") (omega arith, omega arith)
    (All-cons P 101 (codes "one") (omega arith, omega arith)
    (All-cons P 111 (codes "ne") (omega arith, omega arith)
    (All-cons P 110 (codes "e") (omega arith, omega arith)
    (All-cons P 101 [] (omega arith, omega arith) (All-nil P)))))))

-- the text of a value on a line of its own is printable
lone_printable : (spelling : Spelling) (value : List ℕ) → IsBytes value → All (IsShown spelling first_in_value) (lone_text spelling value)
lone_printable Hexadecimal value fits = values_printable Hexadecimal value fits
lone_printable Text value fits =
    cond_both (bytes_eq value (codes "none")) (codes "\\x6eone") (value_text Text value) (All (IsPrintable first_in_value)) (λ _. none_printable) (λ _. values_printable Text value fits)
lone_printable Utf8 value fits =
    cond_both (bytes_eq value (codes "none")) (codes "\\x6eone") (value_text Utf8 value) (All (IsShown Utf8 first_in_value))
    (λ _. All-weaker (IsPrintable first_in_value) (IsShown Utf8 first_in_value) (λ c p. inl p) (codes "\\x6eone") none_printable) (λ _. values_printable Utf8 value fits)

pub value_lines_read : (spelling : Spelling) (value : List ℕ) → IsBytes value → bytes_of spelling (value_line_text spelling value) ≡ Some value
value_lines_read spelling value fits = ap (bytes_of spelling) (line_text-line (lone_text spelling value)) ∙ lone_read spelling value fits

pub value_lines_printable : (spelling : Spelling) (value : List ℕ) → IsBytes value → All (IsShown spelling first_in_value) (value_line_text spelling value)
value_lines_printable spelling value fits =
    let P : List ℕ → Type 0 = All (IsShown spelling first_in_value) in
    subst P (sym (line_text-line (lone_text spelling value))) (lone_printable spelling value fits)

pub value_lines_differ : (spelling : Spelling) (value : List ℕ) → IsBytes value → value_line spelling (Some value) ≢ value_line spelling None
value_lines_differ spelling value fits e =
    lone_other spelling value fits (sym (line_text-line (lone_text spelling value)) ∙ ap line_text e)
