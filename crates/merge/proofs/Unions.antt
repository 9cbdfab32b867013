-- The union of inputs is their sorted merge.
use Rattle.std.proofs.Common.{◌≡◌, ℕ, ◌<◌, ◌≤◌, Bool, true, false, cond, List, [], ◌∷◌, length, get_or, suc, zero, inl, inr, ⊎_elim, refl, sym, ap, subst, ◌∙◌, arith}
use Rattle.std.specs.Prelude.{filter, Contains, ◌⊎◌, ◌↔◌}
use Rattle.std.specs.List.Sorted.{IsPermutation}
use Rattle.std.specs.Cmp.{IsTotalOrder}
use Rattle.std.specs.Ordering.{nat_cmp, ordering_then, is_lt, is_eq}
use Rattle.std.specs.declared.cmp.Ordering.{Ordering}
use Rattle.std.specs.declared.cmp.Ordering.TheVariants.{Less, Equal, Greater}
use Rattle.std.proofs.lemmas.List.Sums.{length-filter}
use Rattle.std.proofs.lemmas.List.Sorted.{IsPermutation-refl, IsPermutation-cons, IsPermutation-middle, IsPermutation-trans, Contains-permutation, sum_by-IsPermutation}
use Rattle.table.specs.EncodedEntry.{Entry}
use Rattle.table.specs.Key.{user_of, sequence_of, kind_of, kind_number}
use Rattle.table.specs.Order.{internal_cmp}
use Rattle.table.proofs.Ordered.{internal_cmp-total}
use Rattle.table.specs.EntriesFrom.{EntriesRise}
use Rattle.table.proofs.Orders.{rising_never_falls}
use Rattle.merge.specs.MergedLists.{entries_with, sorted_entries, entries_of_lists, merged, has_key, IsMerge}
use Rattle.merge.specs.Union.{key_version_cmp, VersionsRise, IsUnion}
use Rattle.merge.proofs.Orders.{Above, all_weaker}
use Rattle.merge.proofs.OneMerge.{equal_is, none_above, one_merge}

-- ---- an element of a list

abbrev IsIn : {X : Type 0} → X → List X → Type 0
IsIn x [] = ⊥
IsIn x (y ∷ ys) = (y ≡ x) ⊎ IsIn x ys

is_in_at : {X : Type 0} (xs : List X) (k : ℕ) (x : X) → k < length xs → get_or xs k x ≡ x → IsIn x xs
is_in_at [] k x within is = absurd (omega arith)
is_in_at (y ∷ ys) zero x within is = inl is
is_in_at (y ∷ ys) (suc k) x within is = inr (is_in_at ys k x (omega arith) is)

contains_in : {X : Type 0} (xs : List X) (x : X) → IsIn x xs → Contains xs x
contains_in [] x h = absurd h
contains_in (y ∷ ys) x h = ⊎_elim (λ here. (zero, omega arith, here)) (λ later. let at = contains_in ys x later in (suc at.0, omega (arith, at.1), at.2)) h

in_moved : {X : Type 0} (xs ys : List X) (x : X) → IsPermutation xs ys → IsIn x xs → IsIn x ys
in_moved xs ys x same h = let at = Contains-permutation xs ys x same (contains_in xs x h) in is_in_at ys at.0 x at.1 at.2

in_filter : (test : Entry → Bool) (xs : List Entry) (x : Entry) → IsIn x xs → test x ≡ true → IsIn x (filter test xs)
in_filter test [] x h passes = absurd h
in_filter test (y ∷ ys) x h passes = by_test (test y) refl (λ later. in_filter test ys x later passes)
  where
    by_test : (b : Bool) → test y ≡ b → (IsIn x ys → IsIn x (filter test ys)) → IsIn x (cond b (y ∷ filter test ys) (filter test ys))
    by_test true is more = ⊎_elim (λ here. inl here) (λ later. inr (more later)) h
    by_test false is more = ⊎_elim (λ here. let no : false ≡ true = sym is ∙ ap test here ∙ passes in absurd cc) more h

filter_in : (test : Entry → Bool) (xs : List Entry) (x : Entry) → IsIn x (filter test xs) → IsIn x xs × (test x ≡ true)
filter_in test [] x h = absurd h
filter_in test (y ∷ ys) x h = by_test (test y) refl (filter_in test ys x) h
  where
    by_test : (b : Bool) → test y ≡ b → (IsIn x (filter test ys) → IsIn x ys × (test x ≡ true)) → IsIn x (cond b (y ∷ filter test ys) (filter test ys)) → IsIn x (y ∷ ys) × (test x ≡ true)
    by_test true is more k = ⊎_elim (λ here. (inl here, ap test (sym here) ∙ is)) (λ later. (inr (more later).0, (more later).1)) k
    by_test false is more k = (inr (more k).0, (more k).1)

-- two lists of at most one element, if one has what the other has
one_element : (xs ys : List Entry) → length xs ≡ length ys → length ys ≤ 1 → ((x : Entry) → IsIn x xs → IsIn x ys) → xs ≡ ys
one_element [] [] h few each = refl
one_element [] (y ∷ ys) h few each = absurd (omega arith)
one_element (x ∷ xs) [] h few each = absurd (omega arith)
one_element (x ∷ []) (y ∷ []) h few each = ap (λ (z : Entry). z ∷ []) (⊎_elim (λ here. sym here) (λ later. absurd later) (each x (inl refl)))
one_element (x ∷ []) (y ∷ z ∷ ys) h few each = absurd (omega arith)
one_element (x ∷ w ∷ xs) (y ∷ []) h few each = absurd (omega arith)
one_element (x ∷ w ∷ xs) (y ∷ z ∷ ys) h few each = absurd (omega arith)

-- if at most one entry passes a test, it is the same in another order
filter_moved : (test : Entry → Bool) (xs ys : List Entry) → IsPermutation xs ys → length (filter test ys) ≤ 1 → filter test xs ≡ filter test ys
filter_moved test xs ys same few =
    one_element (filter test xs) (filter test ys) (length-filter test xs ∙ sym (sum_by-IsPermutation (λ e. cond (test e) 1 0) xs ys same) ∙ sym (length-filter test ys)) few
    (λ x h. let at = filter_in test xs x h in in_filter test ys x (in_moved xs ys x same at.0) at.1)

-- ---- versions that rise

then_less : (a b c : Ordering) → ordering_then a b ≡ Less → ordering_then a (ordering_then b c) ≡ Less
then_less Less b c h = refl
then_less Greater b c h = absurd cc
then_less Equal Less c h = refl
then_less Equal Equal c h = absurd cc
then_less Equal Greater c h = absurd cc

version_less : (cmp : List ℕ → List ℕ → Ordering) (a b : List ℕ) → key_version_cmp cmp a b ≡ Less → internal_cmp cmp a b ≡ Less
unfolding internal_cmp
version_less cmp a b h = then_less (cmp (user_of a) (user_of b)) (nat_cmp (sequence_of b) (sequence_of a)) (nat_cmp (kind_number (kind_of b)) (kind_number (kind_of a))) h

versions_rising : (cmp : List ℕ → List ℕ → Ordering) (es : List Entry) → VersionsRise cmp es → EntriesRise cmp es
versions_rising cmp [] h = tt
versions_rising cmp (e ∷ es) h =
    (all_weaker (λ f. key_version_cmp cmp e.key f.key ≡ Less) (Above cmp e.key) (λ f less. version_less cmp e.key f.key less) es h.0, versions_rising cmp es h.1)

-- a key stands at most once if keys rise
key_once : (cmp : List ℕ → List ℕ → Ordering) → IsTotalOrder cmp → (key : List ℕ) (es : List Entry) → EntriesRise cmp es → length (filter (has_key cmp key) es) ≤ 1
key_once cmp total key [] h = omega arith
key_once cmp total key (e ∷ es) h = by_test (is_eq (internal_cmp cmp e.key key)) refl (key_once cmp total key es h.1)
  where
    by_test : (b : Bool) → is_eq (internal_cmp cmp e.key key) ≡ b → length (filter (has_key cmp key) es) ≤ 1 → length (cond b (e ∷ filter (has_key cmp key) es) (filter (has_key cmp key) es)) ≤ 1
    by_test true is more =
        let same = equal_is (internal_cmp cmp e.key key) is in
        let above = all_weaker (Above cmp e.key) (Above cmp key) (λ f less. sym ((internal_cmp-total total).congr e.key key f.key same) ∙ less) es h.0 in
        let none : length (filter (has_key cmp key) es) ≡ 0 = ap length (none_above cmp total key es above) in
        omega arith
    by_test false is more = more

-- ---- sorting moves entries only

with_moved : (cmp : List ℕ → List ℕ → Ordering) (e : Entry) (es : List Entry) → IsPermutation (e ∷ es) (entries_with cmp e es)
with_moved cmp e [] = IsPermutation-refl (e ∷ [])
with_moved cmp e (f ∷ fs) = by_test (is_lt (internal_cmp cmp f.key e.key)) (with_moved cmp e fs)
  where
    by_test : (b : Bool) → IsPermutation (e ∷ fs) (entries_with cmp e fs) → IsPermutation (e ∷ (f ∷ fs)) (cond b (f ∷ entries_with cmp e fs) (e ∷ (f ∷ fs)))
    by_test true more =
        IsPermutation-trans (e ∷ (f ∷ fs)) (f ∷ (e ∷ fs)) (f ∷ entries_with cmp e fs) (IsPermutation-middle (e ∷ []) f fs) (IsPermutation-cons f (e ∷ fs) (entries_with cmp e fs) more)
    by_test false more = IsPermutation-refl (e ∷ (f ∷ fs))

sorted_moved : (cmp : List ℕ → List ℕ → Ordering) (es : List Entry) → IsPermutation es (sorted_entries cmp es)
sorted_moved cmp [] = IsPermutation-refl []
sorted_moved cmp (e ∷ es) =
    IsPermutation-trans (e ∷ es) (e ∷ sorted_entries cmp es) (entries_with cmp e (sorted_entries cmp es)) (IsPermutation-cons e es (sorted_entries cmp es) (sorted_moved cmp es)) (with_moved cmp e (sorted_entries cmp es))

-- ---- the law

union_is_merge : (cmp : List ℕ → List ℕ → Ordering) → IsTotalOrder cmp → (inputs : List (List Entry)) (union : List Entry) → IsUnion cmp inputs union → IsMerge cmp inputs union
union_is_merge cmp total inputs union u =
    let rises = versions_rising cmp union u.rising in
    record {
      ordered = rising_never_falls cmp union rises;
      same = λ key. sym (filter_moved (has_key cmp key) (entries_of_lists inputs) union u.same (key_once cmp total key union rises));
    }

pub union_is_merged : (cmp : List ℕ → List ℕ → Ordering) → IsTotalOrder cmp → (inputs : List (List Entry)) (union : List Entry) → IsUnion cmp inputs union ↔ ((union ≡ merged cmp inputs) × VersionsRise cmp union)
union_is_merged cmp total inputs union = (
  λ u. (one_merge cmp total inputs union (union_is_merge cmp total inputs union u), u.rising),
  λ h. record { rising = h.1; same = subst (IsPermutation (entries_of_lists inputs)) (sym h.0) (sorted_moved cmp (entries_of_lists inputs)) },
)
