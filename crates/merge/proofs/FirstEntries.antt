-- The first of entries.
use Rattle.std.proofs.Common.{◌≡◌, ℕ, ◌<◌, Bool, true, List, [], ◌∷◌, length, drop, Some, ap, ◌∙◌, arith}
use Rattle.std.specs.Prelude.{slice_get}
use Rattle.std.specs.Option.{option_map}
use Rattle.std.proofs.lemmas.Bool.{false≢true}
use Rattle.std.proofs.lemmas.Option.{same_Some, none-some}
use Rattle.table.specs.EncodedEntry.{Entry}
use Rattle.merge.specs.FirstEntry.{first_is}

pub first_some : (test : Entry → Bool) (es : List Entry) → first_is test es ≡ true → 0 < length es
first_some test [] h = absurd (false≢true h)
first_some test (e ∷ es) h = omega arith

pub fewer : (test : Entry → Bool) (es fs : List Entry) → first_is test es ≡ true → fs ≡ drop 1 es → length fs < length es
fewer test [] fs h k = absurd (false≢true h)
fewer test (e ∷ es) fs h k = let n : length fs ≡ length es = ap length k in omega (arith, n)

-- the entry of this key and this value, and those after it
pub head_is : (es : List Entry) (key value : List ℕ) → option_map (λ e. e.key) (slice_get es 0) ≡ Some key → option_map (λ e. e.value) (slice_get es 0) ≡ Some value → es ≡ record { key = key; value = value } ∷ drop 1 es
head_is [] key value h k = absurd (none-some key h)
head_is (e ∷ es) key value h k =
    ap (λ (u : List ℕ). record { key = u; value = e.value } ∷ es) (same_Some e.key key h) ∙ ap (λ (v : List ℕ). record { key = key; value = v } ∷ es) (same_Some e.value value k)
