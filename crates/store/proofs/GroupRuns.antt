-- Groups of tables, written one after the other.
use Rattle.std.proofs.Common.{◌≡◌, ◌<◌, ◌+◌, ℕ, length, zero, suc, List, [], ◌∷◌, ◌++◌, take, drop, Some, sym, ap, subst, ◌∙◌, arith}
use Rattle.std.specs.Prelude.{slice_get}
use Rattle.std.proofs.Math.ListN.{get_or}
use Rattle.std.proofs.lemmas.List.{map-append, take-append-drop}
use Rattle.std.proofs.lemmas.Option.{same_Some, slice_get-get_or}
use Rattle.folder.specs.Calls.{Written}
use Rattle.folder.specs.TableFiles.{named_tables}
use Rattle.install.specs.Install.{table_calls}
use Rattle.reads.proofs.Leasts.{take_next}

abbrev Group : Type 0
Group = List (ℕ × List ℕ)

drop_next : {X : Type 0} (xs : List X) (place : ℕ) (x : X) → slice_get xs place ≡ Some x → drop place xs ≡ x ∷ drop (place + 1) xs
drop_next [] place x h = absurd (cc h)
drop_next (y ∷ ys) zero x h = ap (λ z. z ∷ ys) (same_Some y x h)
drop_next {X} (y ∷ ys) (suc n) x h =
    let same : suc (n + 1) ≡ suc n + 1 = omega arith in
    subst (λ (m : ℕ). drop n ys ≡ x ∷ drop {A = X} m (y ∷ ys)) same (drop_next ys n x h)

calls_append : (front rest : List Group) → table_calls (front ++ rest) ≡ table_calls front ++ table_calls rest
calls_append front rest = map-append (λ (g : Group). Written (named_tables g)) front rest

-- the groups up to a place, that at it, and those after it are all
pub calls_next : (groups : List Group) (place : ℕ) (group : Group) → slice_get groups place ≡ Some group → table_calls (take place groups) ++ table_calls (group ∷ []) ≡ table_calls (take (place + 1) groups)
calls_next groups place group h = sym (calls_append (take place groups) (group ∷ [])) ∙ ap table_calls (sym (take_next groups place group h))

pub calls_split : (groups : List Group) (place : ℕ) → table_calls (take place groups) ++ table_calls (drop place groups) ≡ table_calls groups
calls_split groups place = sym (calls_append (take place groups) (drop place groups)) ∙ ap table_calls (take-append-drop place groups)

-- the calls at a place and after it
pub calls_from : (groups : List Group) (place : ℕ) (group : Group) → slice_get groups place ≡ Some group → table_calls (drop place groups) ≡ table_calls (group ∷ []) ++ table_calls (drop (place + 1) groups)
calls_from groups place group h = ap table_calls (drop_next groups place group h)

-- there is a group at each place
pub group_at : (groups : List Group) (place : ℕ) → place < length groups → (group : Group) × (slice_get groups place ≡ Some group)
group_at groups place h = (get_or groups place [], slice_get-get_or groups place [] h)
