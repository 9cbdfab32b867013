-- Text that is read, and bytes that are no text.
use Rattle.std.proofs.Common.{◌≡◌, ℕ, Bool, true, false, List, Option, Some, None, refl}
use Rattle.std.specs.Str.{IsUtf8, is_utf8}
use Rattle.std.proofs.lemmas.Str.{is_utf8-from_IsUtf8, IsUtf8-from_is_utf8}
use Rattle.edit.specs.FieldReader.{slice_at, text_at}

pub text_found : (bytes : List ℕ) (x : List ℕ × List ℕ) → slice_at bytes ≡ Some x → IsUtf8 x.0 → text_at bytes ≡ Some x
unfolding text_at
text_found bytes x e h = let yes : is_utf8 x.0 ≡ true = is_utf8-from_IsUtf8 x.0 h in rw (e, yes) refl

not_true : (b : Bool) (never : b ≡ true → ⊥) → b ≡ false
not_true true never = absurd (never refl)
not_true false never = refl

abbrev nothing : Option (List ℕ × List ℕ)
nothing = None

pub text_none : (bytes : List ℕ) (x : List ℕ × List ℕ) → slice_at bytes ≡ Some x → (IsUtf8 x.0 → ⊥) → text_at bytes ≡ nothing
unfolding text_at
text_none bytes x e never =
    let not : is_utf8 x.0 ≡ false = not_true (is_utf8 x.0) (λ h. never (IsUtf8-from_is_utf8 x.0 h)) in rw (e, not) refl
