-- A seek of one list after the other.
use Rattle.std.proofs.Common.{◌≡◌, ℕ, Bool, true, false, cond, List, [], ◌∷◌, ◌++◌, take, drop, set, suc, zero, Some, inl, inr, refl, sym, ap, subst}
use Rattle.std.specs.Prelude.{slice_get}
use Rattle.std.specs.Ordering.{is_lt}
use Rattle.std.specs.declared.cmp.Ordering.{Ordering}
use Rattle.std.proofs.lemmas.Option.{same_Some, none-some}
use Rattle.table.specs.EncodedEntry.{Entry}
use Rattle.table.specs.Order.{internal_cmp}
use Rattle.table.specs.EntriesFrom.{entries_from, LeavesFrom}
use Rattle.table.proofs.Orders.{leaves_all}
use Rattle.table.proofs.Ordered.{is_lt-true}
use Rattle.merge.specs.Seeks.{each_from, EachLeavesFrom}

-- lists of which the first `number` have been sought
abbrev pub sought : (List ℕ → List ℕ → Ordering) → List ℕ → ℕ → List (List Entry) → List (List Entry)
sought cmp target number lists = each_from cmp target (take number lists) ++ drop number lists

pub sought_next : (cmp : List ℕ → List ℕ → Ordering) (target : List ℕ) (lists : List (List Entry)) (place : ℕ) (list : List Entry) → slice_get (sought cmp target place lists) place ≡ Some list → set (sought cmp target place lists) place (entries_from cmp target list) ≡ sought cmp target (suc place) lists
sought_next cmp target [] zero list h = absurd (none-some list h)
sought_next cmp target [] (suc place) list h = absurd (none-some list h)
sought_next cmp target (l ∷ ls) zero list h = ap (λ (es : List Entry). entries_from cmp target es ∷ ls) (sym (same_Some l list h))
sought_next cmp target (l ∷ ls) (suc place) list h = ap (λ (rest : List (List Entry)). entries_from cmp target l ∷ rest) (sought_next cmp target ls place list h)

leaves_from : (cmp : List ℕ → List ℕ → Ordering) (target : List ℕ) (es : List Entry) → LeavesFrom cmp target es (entries_from cmp target es)
leaves_from cmp target [] = refl
leaves_from cmp target (e ∷ es) = by_test (is_lt (internal_cmp cmp e.key target)) refl (leaves_from cmp target es)
  where
    by_test : (b : Bool) → is_lt (internal_cmp cmp e.key target) ≡ b → LeavesFrom cmp target es (entries_from cmp target es) → LeavesFrom cmp target (e ∷ es) (cond b (entries_from cmp target es) (e ∷ es))
    by_test true is more = inl (is_lt-true (internal_cmp cmp e.key target) is, more)
    by_test false is more = inr (es, (refl, leaves_all cmp target es))

each_leaves_all : (cmp : List ℕ → List ℕ → Ordering) (target : List ℕ) (lists : List (List Entry)) → EachLeavesFrom cmp target lists lists
each_leaves_all cmp target [] = tt
each_leaves_all cmp target (l ∷ ls) = (leaves_all cmp target l, each_leaves_all cmp target ls)

-- the seek of the list at a place is refused
pub sought_refused : (cmp : List ℕ → List ℕ → Ordering) (target : List ℕ) (lists : List (List Entry)) (place : ℕ) (list left : List Entry) → slice_get (sought cmp target place lists) place ≡ Some list → LeavesFrom cmp target list left
    → EachLeavesFrom cmp target lists (set (sought cmp target place lists) place left)
sought_refused cmp target [] zero list left h k = absurd (none-some list h)
sought_refused cmp target [] (suc place) list left h k = absurd (none-some list h)
sought_refused cmp target (l ∷ ls) zero list left h k = (subst (λ (es : List Entry). LeavesFrom cmp target es left) (sym (same_Some l list h)) k, each_leaves_all cmp target ls)
sought_refused cmp target (l ∷ ls) (suc place) list left h k = (leaves_from cmp target l, sought_refused cmp target ls place list left h k)
