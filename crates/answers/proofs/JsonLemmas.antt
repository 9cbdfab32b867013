-- The object of a key and its value has no float.
use Rattle.std.proofs.Common.{◌≡◌, ℕ, Bool, true, false, if◌then◌else◌, List, [], ◌∷◌, codes, Option, Some, None, refl}
use Rattle.std.specs.Str.{is_utf8}
use Rattle.serde_json.specs.Data.{Data, string}
use Rattle.serde_json.specs.Written.{has_float}
use Rattle.answers.specs.Objects.{hex_object, key_data, object_of, pair_object, some_data, utf8_data}
use Rattle.texts.specs.declared.spelling.Spelling.{Spelling}
use Rattle.texts.specs.declared.spelling.Spelling.TheVariants.{Hexadecimal, Text, Utf8}

-- the data of bytes
no_float_utf8 : (bytes : List ℕ) → has_float (utf8_data bytes) ≡ false
no_float_utf8 bytes = step (is_utf8 bytes)
  where
    step : (b : Bool) → has_float (if b then string bytes else hex_object bytes) ≡ false
    step true = refl
    step false = refl

no_float_key : (spelling : Spelling) (key : List ℕ) → has_float (key_data spelling key) ≡ false
no_float_key Hexadecimal key = refl
no_float_key Text key = refl
no_float_key Utf8 key = no_float_utf8 key

no_float_value : (spelling : Spelling) (value : List ℕ) → has_float (some_data spelling value) ≡ false
no_float_value Hexadecimal value = refl
no_float_value Text value = refl
no_float_value Utf8 value = no_float_utf8 value

two : (key value : Data) (a b : Bool) → has_float key ≡ a → has_float value ≡ b → a ≡ false → b ≡ false → has_float (object_of ((codes "key", key) ∷ (codes "value", value) ∷ [])) ≡ false
two key value a b is also first second = rw (is, also, first, second) refl

lone : (key : Data) → has_float key ≡ false → has_float (object_of ((codes "key", key) ∷ [])) ≡ false
lone key is = rw is refl

pub pair_has_no_float : (spelling : Spelling) (key : List ℕ) (value : Option (List ℕ)) → has_float (pair_object spelling key value) ≡ false
pair_has_no_float spelling key None = lone (key_data spelling key) (no_float_key spelling key)
pair_has_no_float spelling key (Some value) =
    two (key_data spelling key) (some_data spelling value) false false (no_float_key spelling key) (no_float_value spelling value) refl refl
