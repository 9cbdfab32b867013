-- What is given to the arguments of a command.
use Rattle.std.specs.Prelude.{◌≡◌, ◌<◌, ◌^◌, ℕ, Bool, false, List, Option, Some, None, codes}
use Rattle.std.specs.Prelude.{if◌then◌else◌, is_some}
use Rattle.std.specs.Option.{option_map_or}
use Rattle.std.specs.Str.{bytes_eq}
use Rattle.std.specs.Str.Parse.{IsNumeral, digits_value, without_leading_plus}
use Rattle.clap.specs.Words.{Row, Text, first_of, one_of}
use Rattle.texts.specs.declared.spelling.Spelling.{Spelling}
use Rattle.texts.specs.declared.spelling.Spelling.TheVariants as way
use Rattle.usage.specs.declared.requests.Testing.{Testing}

-- whether an argument with a text is given
abbrev pub is_given : Text → List Row → Bool
is_given id rows = is_some (first_of id rows)

-- whether a flag is given; for `clap` it has the text `true` if it is there, else `false`
abbrev pub is_flagged : Text → List Row → Bool
is_flagged id rows = option_map_or (λ text. bytes_eq text (codes "true")) (first_of id rows) false

-- how keys and values are written: as UTF-8 if `--utf8` is given, else as text if `--text` is, else
-- in hexadecimal digits
abbrev pub spelling_of : List Row → Spelling
spelling_of rows = if is_flagged (codes "utf8") rows then way.Utf8
    else if is_flagged (codes "text") rows then way.Text else way.Hexadecimal

-- the text is this number of 64 bits: decimal digits, after a plus sign or none
abbrev pub IsNumber : Text → ℕ → Type 0
IsNumber text number = let digits = without_leading_plus text in
    IsNumeral 10 digits × (digits_value 10 digits < 2 ^ 64) × (number ≡ digits_value 10 digits)

-- the number of an option's text; None if the option isn't given
abbrev pub IsNumberOf : Option Text → Option ℕ → Type 0
IsNumberOf None number = number ≡ None
IsNumberOf (Some text) None = ⊥
IsNumberOf (Some text) (Some number) = IsNumber text number

-- the number of an option's text, or this one if the option isn't given
abbrev pub IsNumberOr : ℕ → Option Text → ℕ → Type 0
IsNumberOr default None number = number ≡ default
IsNumberOr default (Some text) number = IsNumber text number

-- the rows give this flag of `--no-verify`, and this number of `--memory`
abbrev pub HasTesting : Testing → List Row → Type 0
HasTesting testing rows = (testing.is_skipped ≡ is_flagged (codes "no-verify") rows)
    × IsNumberOr 128 (one_of (codes "memory") rows) testing.memory
