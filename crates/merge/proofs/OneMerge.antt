-- There is one sorted merge.
use Rattle.std.proofs.Common.{◌≡◌, ℕ, Bool, true, false, cond, List, [], ◌∷◌, refl, sym, ap, ◌∙◌}
use Rattle.std.specs.Prelude.{filter}
use Rattle.std.specs.List.{AllByRecursion}
use Rattle.std.specs.Cmp.{IsTotalOrder}
use Rattle.std.specs.Ordering.{is_eq, is_le, ordering_reverse}
use Rattle.std.specs.declared.cmp.Ordering.{Ordering}
use Rattle.std.specs.declared.cmp.Ordering.TheVariants.{Less, Equal, Greater}
use Rattle.table.specs.EncodedEntry.{Entry}
use Rattle.table.specs.Order.{internal_cmp}
use Rattle.table.proofs.Ordered.{internal_cmp-total}
use Rattle.table.specs.EntriesFrom.{NeverFalls}
use Rattle.merge.specs.MergedLists.{entries_with, sorted_entries, entries_of_lists, merged, has_key, IsMerge}
use Rattle.merge.proofs.Orders.{Above, From, all_weaker, above_first}
use Rattle.merge.proofs.SortedEntries.{with_first, sorted_never_falls, filter-sorted}

-- ---- entries of one key

pub equal_is : (o : Ordering) → is_eq o ≡ true → o ≡ Equal
equal_is Less h = absurd cc
equal_is Equal h = refl
equal_is Greater h = absurd cc

-- an entry has this internal key
abbrev HasKey : (List ℕ → List ℕ → Ordering) → List ℕ → Entry → Type 0
HasKey cmp key e = internal_cmp cmp e.key key ≡ Equal

all_of_key : (cmp : List ℕ → List ℕ → Ordering) (key : List ℕ) (es : List Entry) → AllByRecursion (HasKey cmp key) (filter (has_key cmp key) es)
all_of_key cmp key [] = tt
all_of_key cmp key (e ∷ es) = by_test (is_eq (internal_cmp cmp e.key key)) refl (all_of_key cmp key es)
  where
    by_test : (b : Bool) → is_eq (internal_cmp cmp e.key key) ≡ b → AllByRecursion (HasKey cmp key) (filter (has_key cmp key) es)
        → AllByRecursion (HasKey cmp key) (cond b (e ∷ filter (has_key cmp key) es) (filter (has_key cmp key) es))
    by_test true is more = (equal_is (internal_cmp cmp e.key key) is, more)
    by_test false is more = more

-- entries of one key are in order
sorted_of_key : (cmp : List ℕ → List ℕ → Ordering) → IsTotalOrder cmp → (key : List ℕ) (es : List Entry) → AllByRecursion (HasKey cmp key) es → sorted_entries cmp es ≡ es
sorted_of_key cmp total key [] h = refl
sorted_of_key cmp total key (e ∷ es) h =
    ap (entries_with cmp e) (sorted_of_key cmp total key es h.1)
    ∙ with_first cmp total e es (all_weaker (HasKey cmp key) (From cmp e.key) from es h.1)
  where
    laws : IsTotalOrder (internal_cmp cmp)
    laws = internal_cmp-total total

    from : (f : Entry) → HasKey cmp key f → From cmp e.key f
    from f same = ap is_le (laws.congr e.key key f.key h.0 ∙ laws.antisymm key f.key ∙ ap ordering_reverse same)

pub merged_is_merge : (cmp : List ℕ → List ℕ → Ordering) → IsTotalOrder cmp → (lists : List (List Entry)) → IsMerge cmp lists (merged cmp lists)
merged_is_merge cmp total lists = record {
  ordered = sorted_never_falls cmp total (entries_of_lists lists);
  same = λ key. filter-sorted cmp total (has_key cmp key) (entries_of_lists lists) ∙ sorted_of_key cmp total key (filter (has_key cmp key) (entries_of_lists lists)) (all_of_key cmp key (entries_of_lists lists));
}

-- ---- two lists with the same entries of each key

own_key : (cmp : List ℕ → List ℕ → Ordering) → IsTotalOrder cmp → (key : List ℕ) → internal_cmp cmp key key ≡ Equal
own_key cmp total key = by_order (internal_cmp cmp key key) ((internal_cmp-total total).antisymm key key)
  where
    by_order : (o : Ordering) → o ≡ ordering_reverse o → o ≡ Equal
    by_order Less h = absurd cc
    by_order Equal h = refl
    by_order Greater h = absurd cc

-- no entry above a key has it
pub none_above : (cmp : List ℕ → List ℕ → Ordering) → IsTotalOrder cmp → (key : List ℕ) (es : List Entry) → AllByRecursion (Above cmp key) es → filter (has_key cmp key) es ≡ []
none_above cmp total key [] h = refl
none_above cmp total key (e ∷ es) h =
    ap (λ (o : Ordering). cond (is_eq o) (e ∷ filter (has_key cmp key) es) (filter (has_key cmp key) es)) ((internal_cmp-total total).antisymm e.key key ∙ ap ordering_reverse h.0)
    ∙ none_above cmp total key es h.1

kept_first : (cmp : List ℕ → List ℕ → Ordering) (key : List ℕ) (e : Entry) (es : List Entry) → internal_cmp cmp e.key key ≡ Equal → filter (has_key cmp key) (e ∷ es) ≡ e ∷ filter (has_key cmp key) es
kept_first cmp key e es h = ap (λ (o : Ordering). cond (is_eq o) (e ∷ filter (has_key cmp key) es) (filter (has_key cmp key) es)) h

-- the same entry in front of both
behind_same : (b : Bool) (e f : Entry) (es fs : List Entry) → e ≡ f → cond b (e ∷ es) es ≡ cond b (f ∷ fs) fs → es ≡ fs
behind_same true e f es fs same h = cc
behind_same false e f es fs same h = h

pub same_entries : (cmp : List ℕ → List ℕ → Ordering) → IsTotalOrder cmp → (es fs : List Entry) → NeverFalls cmp es → NeverFalls cmp fs → ((key : List ℕ) → filter (has_key cmp key) es ≡ filter (has_key cmp key) fs) → es ≡ fs
same_entries cmp total [] [] p q h = refl
same_entries cmp total [] (f ∷ fs) p q h = let no : [] ≡ f ∷ filter (has_key cmp f.key) fs = h f.key ∙ kept_first cmp f.key f fs (own_key cmp total f.key) in absurd cc
same_entries cmp total (e ∷ es) [] p q h = let no : e ∷ filter (has_key cmp e.key) es ≡ [] = sym (kept_first cmp e.key e es (own_key cmp total e.key)) ∙ h e.key in absurd cc
same_entries cmp total (e ∷ es) (f ∷ fs) p q h = by_order (internal_cmp cmp e.key f.key) refl (λ k. same_entries cmp total es fs p.1 q.1 k)
  where
    laws : IsTotalOrder (internal_cmp cmp)
    laws = internal_cmp-total total

    by_order : (o : Ordering) → internal_cmp cmp e.key f.key ≡ o → (((key : List ℕ) → filter (has_key cmp key) es ≡ filter (has_key cmp key) fs) → es ≡ fs) → e ∷ es ≡ f ∷ fs
    by_order Less is more =
        let none = none_above cmp total e.key (f ∷ fs) (is, above_first cmp total e.key f fs is q.0) in
        let no : e ∷ filter (has_key cmp e.key) es ≡ [] = sym (kept_first cmp e.key e es (own_key cmp total e.key)) ∙ h e.key ∙ none in
        absurd cc
    by_order Equal is more =
        let back : internal_cmp cmp f.key e.key ≡ Equal = laws.antisymm f.key e.key ∙ ap ordering_reverse is in
        let both : e ∷ filter (has_key cmp e.key) es ≡ f ∷ filter (has_key cmp e.key) fs =
        sym (kept_first cmp e.key e es (own_key cmp total e.key)) ∙ h e.key ∙ kept_first cmp e.key f fs back in
        let first : e ≡ f = cc in
        let behind : es ≡ fs = more (λ key. behind_same (has_key cmp key e) e f (filter (has_key cmp key) es) (filter (has_key cmp key) fs) first (h key ∙ ap (λ (x : Entry). cond (has_key cmp key x) (f ∷ filter (has_key cmp key) fs) (filter (has_key cmp key) fs)) (sym first))) in
        cc
    by_order Greater is more =
        let below : internal_cmp cmp f.key e.key ≡ Less = laws.antisymm f.key e.key ∙ ap ordering_reverse is in
        let none = none_above cmp total f.key (e ∷ es) (below, above_first cmp total f.key e es below p.0) in
        let no : [] ≡ f ∷ filter (has_key cmp f.key) fs = sym none ∙ h f.key ∙ kept_first cmp f.key f fs (own_key cmp total f.key) in
        absurd cc

pub one_merge : (cmp : List ℕ → List ℕ → Ordering) → IsTotalOrder cmp → (lists : List (List Entry)) (merge : List Entry) → IsMerge cmp lists merge → merge ≡ merged cmp lists
one_merge cmp total lists merge m =
    let own = merged_is_merge cmp total lists in
    same_entries cmp total merge (merged cmp lists) m.ordered own.ordered (λ key. m.same key ∙ sym (own.same key))
