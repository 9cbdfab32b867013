use Rattle.std.proofs.Common.{◌≡◌, ℕ, Bool, true, false, List, Result, Ok, Err, refl, sym, ◌∙◌}
use Rattle.std.specs.Prelude.{MatchResult, is_ok}
use Rattle.std.specs.Str.{IsUtf8, is_utf8}
use Rattle.std.proofs.lemmas.Str.{IsUtf8-from_is_utf8, is_utf8-from_IsUtf8}
use Rattle.texts.proofs.spelling.is_utf8.Goals as goal

-- what is no UTF-8 does not pass the test
refused : (bytes : List ℕ) (b : Bool) → is_utf8 bytes ≡ b → (IsUtf8 bytes → ⊥) → false ≡ b
refused bytes false is other = refl
refused bytes true is other = absurd (other (IsUtf8-from_is_utf8 bytes is))

-- the test, by what a reading says
tested : {T E : Type 0} (bytes : List ℕ) (r : Result T E) (P : T → Type 0) (Q : E → Type 0) → ((x : T) → P x → IsUtf8 bytes) → ((e : E) → Q e → IsUtf8 bytes → ⊥) → MatchResult r P Q → is_ok r ≡ is_utf8 bytes
tested bytes (Ok x) P Q good bad h = sym (is_utf8-from_IsUtf8 bytes (good x h))
tested bytes (Err e) P Q good bad h = refused bytes (is_utf8 bytes) refl (bad e h)

pub returns : goal.returns
returns c = c.is_ok.ensures.value ∙ tested c.args.bytes.now c.from_utf8.result _ _ (λ x h. h.1) (λ e h. h.0) c.from_utf8.ensures.cases
