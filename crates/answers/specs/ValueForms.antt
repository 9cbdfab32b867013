-- What is printed of the value of a key.
use Rattle.std.specs.Prelude.{◌≢◌, ℕ, ◌-◌, List, ◌++◌, codes, length, take, Option, Some, None}
use Rattle.std.specs.Prelude.{if◌then◌else◌}
use Rattle.std.specs.Str.{bytes_eq}
use Rattle.hex.specs.Hex.{IsBytes}
use Rattle.texts.specs.Spelling.{key_text, value_text}
use Rattle.texts.specs.declared.spelling.Spelling.{Spelling}
use Rattle.texts.specs.declared.spelling.Spelling.TheVariants.{Hexadecimal}
use Rattle.answers.specs.declared.value_forms.ValueForm.{ValueForm}
use Rattle.answers.specs.declared.value_forms.ValueForm.TheVariants.{Line, Raw}

-- the text of a value on a line of its own. Of the bytes `none` the first is escaped, since the
-- line `none` is that of a key without a value.
abbrev pub lone_text : Spelling → List ℕ → List ℕ
lone_text Hexadecimal value = value_text Hexadecimal value
lone_text spelling value =
    if bytes_eq value (codes "none") then codes "\\x6eone" else value_text spelling value

-- the line of a value, or of none
abbrev pub value_line : Spelling → Option (List ℕ) → List ℕ
value_line spelling None = codes "none\n"
value_line spelling (Some value) = lone_text spelling value ++ codes "\n"

-- `KEY VALUE`, or `KEY` without a value
abbrev pub key_line : Spelling → List ℕ → Option (List ℕ) → List ℕ
key_line spelling key None = key_text spelling key ++ codes "\n"
key_line spelling key (Some value) =
    key_text spelling key ++ (codes " " ++ (value_text spelling value ++ codes "\n"))

-- the line of one key of several: `KEY VALUE`, or `KEY none`
abbrev pub named_value_line : Spelling → List ℕ → Option (List ℕ) → List ℕ
named_value_line spelling key value =
    key_text spelling key ++ (codes " " ++ value_line spelling value)

-- what is printed of a value, or of none: its line, or its bytes alone; None if nothing is
abbrev pub value_answer : ValueForm → Option (List ℕ) → Option (List ℕ)
value_answer (Line spelling) value = Some (value_line spelling value)
value_answer Raw value = value

-- a line without its newline
abbrev pub line_text : List ℕ → List ℕ
line_text line = take (length line - 1) line

-- the text of the line of a value
abbrev pub value_line_text : Spelling → List ℕ → List ℕ
value_line_text spelling value = line_text (value_line spelling (Some value))

-- the line of a value is not that of a key without a value
abbrev pub ValueLinesDiffer : Type 0
ValueLinesDiffer = (spelling : Spelling) (value : List ℕ) → IsBytes value
    → value_line spelling (Some value) ≢ value_line spelling None
