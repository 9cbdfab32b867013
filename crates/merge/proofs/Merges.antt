-- The merge of lists, and the list that is next.
use Rattle.std.proofs.Common.{◌≡◌, ℕ, List, [], ◌∷◌, ◌++◌, take, drop, set, suc, zero, Some, refl, sym, ap, subst, ◌∙◌, append_assoc, add-one}
use Rattle.std.specs.Prelude.{filter, slice_get}
use Rattle.std.specs.List.{AllByRecursion}
use Rattle.std.specs.Cmp.{IsTotalOrder}
use Rattle.std.specs.declared.cmp.Ordering.{Ordering}
use Rattle.std.proofs.lemmas.List.Elements.{filter-append}
use Rattle.std.proofs.lemmas.Option.{same_Some, none-some}
use Rattle.table.specs.EncodedEntry.{Entry}
use Rattle.table.specs.EntriesFrom.{NeverFalls, entries_from, LeavesFrom}
use Rattle.merge.specs.MergedLists.{sorted_entries, entries_of_lists, merged}
use Rattle.merge.specs.LeastList.{StartsAbove, StartsFrom, IsLeast}
use Rattle.merge.specs.Seeks.{each_from, EachLeavesFrom}
use Rattle.merge.proofs.Orders.{Above, From, all_append, all_take, all_drop, above_first, from_first}
use Rattle.merge.proofs.SortedEntries.{sorted_first, sorted_never_falls, filter-sorted, is_from, from_is_filter, leaves_sorted, leaves_append}

-- ---- one list among others

pub joined_at : (lists : List (List Entry)) (place : ℕ) (list : List Entry) → slice_get lists place ≡ Some list → entries_of_lists lists ≡ entries_of_lists (take place lists) ++ (list ++ entries_of_lists (drop (suc place) lists))
joined_at [] place list h = absurd (none-some list h)
joined_at (l ∷ ls) zero list h = ap (λ (es : List Entry). es ++ entries_of_lists ls) (same_Some l list h)
joined_at (l ∷ ls) (suc place) list h =
    ap (λ (es : List Entry). l ++ es) (joined_at ls place list h)
    ∙ sym (append_assoc l (entries_of_lists (take place ls)) (list ++ entries_of_lists (drop (suc place) ls)))

pub joined_set : (lists : List (List Entry)) (place : ℕ) (list other : List Entry) → slice_get lists place ≡ Some list → entries_of_lists (set lists place other) ≡ entries_of_lists (take place lists) ++ (other ++ entries_of_lists (drop (suc place) lists))
joined_set [] place list other h = absurd (none-some list h)
joined_set (l ∷ ls) zero list other h = refl
joined_set (l ∷ ls) (suc place) list other h =
    ap (λ (es : List Entry). l ++ es) (joined_set ls place list other h)
    ∙ sym (append_assoc l (entries_of_lists (take place ls)) (other ++ entries_of_lists (drop (suc place) ls)))

-- ---- the first entry of a merge

all_above : (cmp : List ℕ → List ℕ → Ordering) → IsTotalOrder cmp → (key : List ℕ) (lists : List (List Entry)) → AllByRecursion (NeverFalls cmp) lists → AllByRecursion (StartsAbove cmp key) lists → AllByRecursion (Above cmp key) (entries_of_lists lists)
all_above cmp total key [] falls starts = tt
all_above cmp total key ([] ∷ ls) falls starts = all_above cmp total key ls falls.1 starts.1
all_above cmp total key ((e ∷ es) ∷ ls) falls starts =
    (starts.0, all_append (Above cmp key) es (entries_of_lists ls) (above_first cmp total key e es starts.0 falls.0.0) (all_above cmp total key ls falls.1 starts.1))

all_from : (cmp : List ℕ → List ℕ → Ordering) → IsTotalOrder cmp → (key : List ℕ) (lists : List (List Entry)) → AllByRecursion (NeverFalls cmp) lists → AllByRecursion (StartsFrom cmp key) lists → AllByRecursion (From cmp key) (entries_of_lists lists)
all_from cmp total key [] falls starts = tt
all_from cmp total key ([] ∷ ls) falls starts = all_from cmp total key ls falls.1 starts.1
all_from cmp total key ((e ∷ es) ∷ ls) falls starts =
    (starts.0, all_append (From cmp key) es (entries_of_lists ls) (from_first cmp total key e es starts.0 falls.0.0) (all_from cmp total key ls falls.1 starts.1))

pub one_of : (P : List Entry → Type 0) (lists : List (List Entry)) (place : ℕ) (list : List Entry) → AllByRecursion P lists → slice_get lists place ≡ Some list → P list
one_of P [] place list all h = absurd (none-some list h)
one_of P (l ∷ ls) zero list all h = subst P (same_Some l list h) all.0
one_of P (l ∷ ls) (suc place) list all h = one_of P ls place list all.1 h

-- the first entry of the list that is next is that of the merge, and after it comes the merge without it
pub merged_first : (cmp : List ℕ → List ℕ → Ordering) → IsTotalOrder cmp → (lists : List (List Entry)) (place : ℕ) → AllByRecursion (NeverFalls cmp) lists → (least : IsLeast cmp lists place)
    → merged cmp lists ≡ least.first ∷ merged cmp (set lists place least.others)
merged_first cmp total lists place falls least =
    let e = least.first in
    let es = least.others in
    let before : List Entry = entries_of_lists (take place lists) in
    let behind : List Entry = entries_of_lists (drop (suc place) lists) in
    let above = all_above cmp total e.key (take place lists) (all_take (NeverFalls cmp) place lists falls) least.before in
    let others : AllByRecursion (From cmp e.key) es = (one_of (NeverFalls cmp) lists place (e ∷ es) falls least.here).0 in
    let starts : AllByRecursion (StartsFrom cmp e.key) (drop (suc place) lists) = rw (← add-one) least.behind in
    let from = all_append (From cmp e.key) es behind others (all_from cmp total e.key (drop (suc place) lists) (all_drop (NeverFalls cmp) (suc place) lists falls) starts) in
    ap (sorted_entries cmp) (joined_at lists place (e ∷ es) least.here)
    ∙ sorted_first cmp total before e (es ++ behind) above from
    ∙ ap (λ (fs : List Entry). e ∷ sorted_entries cmp fs) (sym (joined_set lists place (e ∷ es) es least.here))

-- ---- no entry at all

pub joined_none : (lists : List (List Entry)) → AllByRecursion (λ list. list ≡ []) lists → entries_of_lists lists ≡ []
joined_none [] h = refl
joined_none (l ∷ ls) h = ap (λ (es : List Entry). es ++ entries_of_lists ls) h.0 ∙ joined_none ls h.1

pub merged_none : (cmp : List ℕ → List ℕ → Ordering) (lists : List (List Entry)) → AllByRecursion (λ list. list ≡ []) lists → merged cmp lists ≡ []
merged_none cmp lists h = ap (sorted_entries cmp) (joined_none lists h)

-- ---- the entries from a key on

joined_from : (cmp : List ℕ → List ℕ → Ordering) → IsTotalOrder cmp → (target : List ℕ) (lists : List (List Entry)) → AllByRecursion (NeverFalls cmp) lists → entries_of_lists (each_from cmp target lists) ≡ filter (is_from cmp target) (entries_of_lists lists)
joined_from cmp total target [] h = refl
joined_from cmp total target (l ∷ ls) h =
    ap (λ (es : List Entry). es ++ entries_of_lists (each_from cmp target ls)) (from_is_filter cmp total target l h.0)
    ∙ ap (λ (es : List Entry). filter (is_from cmp target) l ++ es) (joined_from cmp total target ls h.1)
    ∙ sym (filter-append (is_from cmp target) l (entries_of_lists ls))

pub merged_from : (cmp : List ℕ → List ℕ → Ordering) → IsTotalOrder cmp → (target : List ℕ) (lists : List (List Entry)) → AllByRecursion (NeverFalls cmp) lists → merged cmp (each_from cmp target lists) ≡ entries_from cmp target (merged cmp lists)
merged_from cmp total target lists h =
    ap (sorted_entries cmp) (joined_from cmp total target lists h)
    ∙ sym (filter-sorted cmp total (is_from cmp target) (entries_of_lists lists))
    ∙ sym (from_is_filter cmp total target (merged cmp lists) (sorted_never_falls cmp total (entries_of_lists lists)))

leaves_joined : (cmp : List ℕ → List ℕ → Ordering) (target : List ℕ) (olds news : List (List Entry)) → EachLeavesFrom cmp target olds news → LeavesFrom cmp target (entries_of_lists olds) (entries_of_lists news)
leaves_joined cmp target [] [] h = refl
leaves_joined cmp target [] (new ∷ news) h = absurd h
leaves_joined cmp target (old ∷ olds) [] h = absurd h
leaves_joined cmp target (old ∷ olds) (new ∷ news) h = leaves_append cmp target old new (entries_of_lists olds) (entries_of_lists news) h.0 (leaves_joined cmp target olds news h.1)

pub leaves_merged : (cmp : List ℕ → List ℕ → Ordering) → IsTotalOrder cmp → (target : List ℕ) (olds news : List (List Entry)) → EachLeavesFrom cmp target olds news → LeavesFrom cmp target (merged cmp olds) (merged cmp news)
leaves_merged cmp total target olds news h = leaves_sorted cmp total target (entries_of_lists olds) (entries_of_lists news) (leaves_joined cmp target olds news h)
