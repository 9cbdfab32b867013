-- A seek of the first internal key of a user key.
use Rattle.std.proofs.Common.{◌≡◌, ℕ, ◌<◌, ◌^◌, true, false, List, Result, Ok, Err, Some, sym, ap, subst}
use Rattle.std.specs.Prelude.{OnOk, OnErr}
use Rattle.std.specs.List.{AllByRecursion}
use Rattle.std.specs.Ordering.{is_lt}
use Rattle.std.specs.declared.cmp.Ordering.{Ordering}
use Rattle.std.specs.declared.cmp.Ordering.TheVariants.{Less}
use Rattle.ikey.specs.declared.kind.Kind.TheVariants.{Put}
use Rattle.table.specs.Key.{sequence_of, internal_key}
use Rattle.table.specs.Order.{internal_cmp}
use Rattle.table.specs.EncodedEntry.{Entry}
use Rattle.table.specs.EntriesFrom.{entries_from, LeavesFrom}
use Rattle.merge.specs.CursorsLeft.{is_before, LosesOnly}
use Rattle.merge.proofs.Bounds.{below_first}
use Rattle.merge.proofs.LeftEntries.{leaves_sought, leaves_from}

gone : (cmp : List ℕ → List ℕ → Ordering) (user target : List ℕ) → target ≡ internal_key user 72057594037927935 Put → (e : Entry) → sequence_of e.key < 2 ^ 56 → internal_cmp cmp e.key target ≡ Less → is_before cmp (Some user) false e ≡ true
gone cmp user target is e fits less = ap is_lt (below_first cmp user e.key fits (subst (λ (t : List ℕ). internal_cmp cmp e.key t ≡ Less) is less))

pub sought_leaves : {A B : Type 0} (cmp : List ℕ → List ℕ → Ordering) (user target : List ℕ) → target ≡ internal_key user 72057594037927935 Put → (olds news : List Entry) (r : Result A B)
    → OnOk r (news ≡ entries_from cmp target olds) → OnErr r (LeavesFrom cmp target olds news) → AllByRecursion (λ e. sequence_of e.key < 2 ^ 56) olds → LosesOnly (is_before cmp (Some user) false) olds news
sought_leaves cmp user target is olds news (Ok x) ok err fit =
    subst (LosesOnly (is_before cmp (Some user) false) olds) (sym ok) (leaves_from cmp target (λ e. sequence_of e.key < 2 ^ 56) (is_before cmp (Some user) false) (gone cmp user target is) olds fit)
sought_leaves cmp user target is olds news (Err e) ok err fit =
    leaves_sought cmp target (λ e. sequence_of e.key < 2 ^ 56) (is_before cmp (Some user) false) (gone cmp user target is) olds news fit err
