use Rattle.std.proofs.Common.{◌≡◌, ℕ, Bool, true, false, if◌then◌else◌, List, Ok, refl, sym, ap, subst, ◌∙◌}
use Rattle.std.specs.Str.{IsUtf8, is_utf8}
use Rattle.std.proofs.lemmas.Str.{IsUtf8-from_is_utf8, is_utf8-from_IsUtf8}
use Rattle.serde_json.specs.Data.{Data, string}
use Rattle.serde_json.specs.View.{view}
use Rattle.table.specs.Answers.{EqualOrMemory}
use Rattle.answers.specs.Objects.{hex_object, utf8_data}
use Rattle.answers.proofs.json_object.utf8_json.Goals as goal

-- what is no UTF-8 does not pass the test
refused : (bytes : List ℕ) (b : Bool) → is_utf8 bytes ≡ b → (IsUtf8 bytes → ⊥) → b ≡ false
refused bytes false is other = refl
refused bytes true is other = absurd (other (IsUtf8-from_is_utf8 bytes is))

as_string : (bytes : List ℕ) → IsUtf8 bytes → utf8_data bytes ≡ string bytes
as_string bytes is = ap (λ (b : Bool). if b then string bytes else hex_object bytes) (is_utf8-from_IsUtf8 bytes is)

as_hex : (bytes : List ℕ) → (IsUtf8 bytes → ⊥) → utf8_data bytes ≡ hex_object bytes
as_hex bytes other = ap (λ (b : Bool). if b then string bytes else hex_object bytes) (refused bytes (is_utf8 bytes) refl other)

pub returns-in_ok-try_from_str-in-Ok : goal.returns-in_ok-try_from_str-in-Ok
returns-in_ok-try_from_str-in-Ok c = ap Ok (as_string c.args.bytes.now c.in-Ok.ensures.cases.1 ∙ (ap string (sym c.in-Ok.ensures.cases.0) ∙ sym c.in_ok-try_from_str-in-Ok.ensures))

pub returns-in-Err : goal.returns-in-Err
returns-in-Err c = subst (λ (d : Data). EqualOrMemory view c.hex_json.result (Ok d)) (sym (as_hex c.args.bytes.now c.in-Err.ensures.cases.0)) c.hex_json.ensures
