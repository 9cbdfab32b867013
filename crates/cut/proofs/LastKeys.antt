-- The last key of entries, if there is one.
use Rattle.std.proofs.Common.{◌≡◌, ℕ, List, [], ◌∷◌, refl, sym, ◌∙◌}
use Rattle.std.specs.Prelude.{Some, None}
use Rattle.std.specs.List.{last_or}
use Rattle.std.specs.Option.{option_map}
use Rattle.std.proofs.lemmas.Option.{same_Some, none-some}
use Rattle.block.specs.EncodedEntry.{Entry}
use Rattle.block.specs.BuilderView.{last_key}
use Rattle.cut.proofs.Metered.{ended_is}

-- if the last entry has a key, it is the last key
pub last_known : (q : List Entry) (key : List ℕ) → option_map (λ (e : Entry). e.key) (last_or None q) ≡ Some key → last_key [] q ≡ key
last_known [] key h = absurd (none-some key h)
last_known (e ∷ q) key h = same_Some (last_key e.key q) key (rw (sym (ended_is e q)) h)

-- if there is no last key, there is no entry
pub last_unknown : (q : List Entry) → option_map (λ (e : Entry). e.key) (last_or None q) ≡ None → q ≡ []
last_unknown [] h = refl
last_unknown (e ∷ q) h = absurd (none-some (last_key e.key q) (sym h ∙ ended_is e q))
