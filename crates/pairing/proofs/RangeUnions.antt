-- The union of two files' entries in a range: sorted, and rising by user key and falling sequence.
use Rattle.std.proofs.Common.{◌≡◌, ◌≢◌, ℕ, Bool, true, false, cond, ◌≤◌, List, [], ◌∷◌, ◌++◌, length, map, drop, Option, Some, None, Result, Ok, Err, refl, sym, ap, subst, ◌∙◌, arith}
use Rattle.std.specs.Prelude.{slice_get}
use Rattle.std.specs.Option.{option_map}
use Rattle.std.specs.List.{AllByRecursion}
use Rattle.std.proofs.lemmas.Option.{same_Some, none-some}
use Rattle.std.specs.List.Sorted.{IsPermutation}
use Rattle.std.specs.Ordering.{nat_cmp, ordering_then, is_lt, is_le, is_eq}
use Rattle.std.specs.declared.cmp.Ordering.{Ordering}
use Rattle.std.specs.declared.cmp.Ordering.TheVariants.{Less, Equal, Greater}
use Rattle.std.proofs.lemmas.Cmp.{tied_itself}
use Rattle.std.proofs.lemmas.List.{append-nil, map-id}
use Rattle.std.proofs.lemmas.List.Sorted.{IsPermutation-refl, IsPermutation-cons, IsPermutation-middle, IsPermutation-trans}
use Rattle.ikey.specs.Answers.{fault, ◌>>=◌}
use Rattle.ikey.specs.fault.Fault.{Fault}
use Rattle.ikey.specs.fault.FaultName.TheVariants.{Duplicate}
use Rattle.ikey.proofs.Binds.{bind_ok, ok_is, done}
use Rattle.ikey.proofs.Ordered.{is_lt-true}
use Rattle.block.specs.EncodedEntry.{Entry}
use Rattle.ikey.specs.Bytewise.{bytewise_cmp}
use Rattle.ikey.specs.Key.{user_of, sequence_of, kind_of, kind_number}
use Rattle.ikey.specs.Order.{internal_cmp}
use Rattle.std.proofs.lemmas.Cmp.{nat_list_cmp_total}
use Rattle.table.specs.EntriesFrom.{NeverFalls}
use Rattle.merge.specs.MergedLists.{entries_with, sorted_entries, entries_of_lists, merged}
use Rattle.merge.specs.Union.{VersionsRise}
use Rattle.merge.proofs.SortedEntries.{sorted_never_falls, all_sorted}
use Rattle.pairing.specs.TestedUnion.{IsLimited, distinct_after, is_after_key, last_key_or, tested_entries, union_of}
use Rattle.pairing.specs.Repeats.{HasRepeat}
use Rattle.pairing.specs.declared.tested_entry.TestedEntry.{TestedEntry}
use Rattle.pairing.proofs.TestedLists.{with_front, regroup, last_key-push}
use Rattle.pairing.proofs.Unions.{version_total, all_append, all_weaker, Below}
use Rattle.pairing.proofs.Repeats.{version, times-cons, repeat_moved}

-- ---- a merge moves entries only

with_moved : (e : Entry) (es : List Entry) → IsPermutation (e ∷ es) (entries_with bytewise_cmp e es)
with_moved e [] = IsPermutation-refl (e ∷ [])
with_moved e (f ∷ fs) = by_test (is_lt (internal_cmp bytewise_cmp f.key e.key)) (with_moved e fs)
  where
    by_test : (b : Bool) → IsPermutation (e ∷ fs) (entries_with bytewise_cmp e fs) → IsPermutation (e ∷ (f ∷ fs)) (cond b (f ∷ entries_with bytewise_cmp e fs) (e ∷ (f ∷ fs)))
    by_test true more =
        IsPermutation-trans (e ∷ (f ∷ fs)) (f ∷ (e ∷ fs)) (f ∷ entries_with bytewise_cmp e fs) (IsPermutation-middle (e ∷ []) f fs) (IsPermutation-cons f (e ∷ fs) (entries_with bytewise_cmp e fs) more)
    by_test false more = IsPermutation-refl (e ∷ (f ∷ fs))

sorted_moved : (es : List Entry) → IsPermutation es (sorted_entries bytewise_cmp es)
sorted_moved [] = IsPermutation-refl []
sorted_moved (e ∷ es) =
    IsPermutation-trans (e ∷ es) (e ∷ sorted_entries bytewise_cmp es) (entries_with bytewise_cmp e (sorted_entries bytewise_cmp es)) (IsPermutation-cons e es (sorted_entries bytewise_cmp es) (sorted_moved es)) (with_moved e (sorted_entries bytewise_cmp es))

whole : (a b : List Entry) → entries_of_lists (a ∷ b ∷ []) ≡ a ++ b
whole a b = ap (λ (t : List Entry). a ++ t) (append-nil b)

merged_moved : (a b : List Entry) → IsPermutation (a ++ b) (merged bytewise_cmp (a ∷ b ∷ []))
merged_moved a b = subst (λ (t : List Entry). IsPermutation t (merged bytewise_cmp (a ∷ b ∷ []))) (whole a b) (sorted_moved (entries_of_lists (a ∷ b ∷ [])))

-- ---- what is accepted

passed : (b : Bool) (r : Result (List Entry) Fault) (f : Fault) (u : List Entry) → cond b r (Err f) ≡ Ok u → (b ≡ true) × (r ≡ Ok u)
passed true r f u h = (refl, h)
passed false r f u h = absurd cc

distinct_same : (before : Option (List ℕ)) (es u : List Entry) → distinct_after before es ≡ Ok u → es ≡ u
distinct_same before [] u h = ok_is [] u h
distinct_same before (e ∷ es) u h =
    let a = passed (is_after_key before e.key) (distinct_after (Some e.key) es >>= λ others. Ok (e ∷ others)) (fault Duplicate) u h in
    let b = bind_ok (distinct_after (Some e.key) es) (λ others. Ok (e ∷ others)) u a.1 in
    ap (λ (xs : List Entry). e ∷ xs) (distinct_same (Some e.key) es b.0 b.1) ∙ ok_is (e ∷ b.0) u b.2

distinct_rises : (before : List ℕ) (es u : List Entry) → distinct_after (Some before) es ≡ Ok u → AllByRecursion (Below version before) es × VersionsRise bytewise_cmp es
distinct_rises before [] u h = (tt, tt)
distinct_rises before (e ∷ es) u h =
    let a = passed (is_after_key (Some before) e.key) (distinct_after (Some e.key) es >>= λ others. Ok (e ∷ others)) (fault Duplicate) u h in
    let b = bind_ok (distinct_after (Some e.key) es) (λ others. Ok (e ∷ others)) u a.1 in
    let rest = distinct_rises e.key es b.0 b.1 in
    let up : version before e.key ≡ Less = is_lt-true (version before e.key) a.0 in
    ((up, all_weaker (Below version e.key) (Below version before) (λ f g. version_total.trans before e.key f.key up g) es rest.0), rest)

rises : (es u : List Entry) → distinct_after None es ≡ Ok u → VersionsRise bytewise_cmp es
rises [] u h = tt
rises (e ∷ es) u h = let b = bind_ok (distinct_after (Some e.key) es) (λ others. Ok (e ∷ others)) u h in distinct_rises e.key es b.0 b.1

-- the union of a range
pub union_found : (a b u : List Entry) → union_of (a ∷ b ∷ []) ≡ Ok u → VersionsRise bytewise_cmp u × IsPermutation (a ++ b) u
union_found a b u h =
    let same = distinct_same None (merged bytewise_cmp (a ∷ b ∷ [])) u h in
    (subst (VersionsRise bytewise_cmp) same (rises (merged bytewise_cmp (a ∷ b ∷ [])) u h), subst (IsPermutation (a ++ b)) same (merged_moved a b))

-- ---- what is refused

bind_err : (r : Result (List Entry) Fault) (e : Entry) (f : Fault) → (r >>= λ others. Ok (e ∷ others)) ≡ Err f → r ≡ Err f
bind_err (Ok es) e f h = absurd cc
bind_err (Err d) e f h = cc

abbrev failed_with : Fault → Result (List Entry) Fault
failed_with e = Err e

err_is : (d f : Fault) → failed_with d ≡ failed_with f → f ≡ d
err_is d f h = cc

at_most_by : (o p q : Ordering) → is_le (ordering_then o (ordering_then p q)) ≡ true → ordering_then o p ≡ Greater → ⊥
at_most_by Less p q h g = absurd cc
at_most_by Greater p q h g = absurd cc
at_most_by Equal Less q h g = absurd cc
at_most_by Equal Equal q h g = absurd cc
at_most_by Equal Greater q h g = absurd cc

-- an internal key that isn't above another has no later version
at_most : (a b : List ℕ) → is_le (internal_cmp bytewise_cmp a b) ≡ true → version a b ≢ Greater
unfolding internal_cmp
at_most a b h = λ g. at_most_by (bytewise_cmp (user_of a) (user_of b)) (nat_cmp (sequence_of b) (sequence_of a)) (nat_cmp (kind_number (kind_of b)) (kind_number (kind_of a))) h g

equal_by : (o : Ordering) → is_lt o ≡ false → (o ≡ Greater → ⊥) → o ≡ Equal
equal_by Less h g = absurd cc
equal_by Equal h g = refl
equal_by Greater h g = absurd (g refl)

abbrev one_of : Bool → ℕ
one_of b = cond b 1 0

-- two neighbours of one version
neighbours : (b e : Entry) (es : List Entry) → version b.key e.key ≡ Equal → HasRepeat (b ∷ e ∷ es)
neighbours b e es same =
    let itself : version e.key e.key ≡ Equal = tied_itself version_total e.key in
    let one = times-cons e.key b (e ∷ es) in
    let two = times-cons e.key e es in
    let first : one_of (is_eq (version b.key e.key)) ≡ 1 = ap (λ (o : Ordering). one_of (is_eq o)) same in
    let second : one_of (is_eq (version e.key e.key)) ≡ 1 = ap (λ (o : Ordering). one_of (is_eq o)) itself in
    (e.key, omega (arith, one, two, first, second))

repeat_behind : (b : Entry) (es : List Entry) → HasRepeat es → HasRepeat (b ∷ es)
repeat_behind b es h = (h.0, omega (arith, h.1, times-cons h.0 b es))

refused_behind : (b : Entry) (es : List Entry) (f : Fault) → NeverFalls bytewise_cmp (b ∷ es) → distinct_after (Some b.key) es ≡ Err f → (f ≡ fault Duplicate) × HasRepeat (b ∷ es)
refused_behind b [] f falls h = absurd cc
refused_behind b (e ∷ es) f falls h = by_test (is_after_key (Some b.key) e.key) refl (λ more. refused_behind e es f falls.1 more) h
  where
    by_test : (t : Bool) → is_after_key (Some b.key) e.key ≡ t → (distinct_after (Some e.key) es ≡ Err f → (f ≡ fault Duplicate) × HasRepeat (e ∷ es))
        → cond t (distinct_after (Some e.key) es >>= λ others. Ok (e ∷ others)) (Err (fault Duplicate)) ≡ Err f → (f ≡ fault Duplicate) × HasRepeat (b ∷ e ∷ es)
    by_test true is more k = let found = more (bind_err (distinct_after (Some e.key) es) e f k) in (found.0, repeat_behind b (e ∷ es) found.1)
    by_test false is more k = (err_is (fault Duplicate) f k, neighbours b e es (equal_by (version b.key e.key) is (at_most b.key e.key falls.0.0)))

refused : (es : List Entry) (f : Fault) → NeverFalls bytewise_cmp es → distinct_after None es ≡ Err f → (f ≡ fault Duplicate) × HasRepeat es
refused [] f falls h = absurd cc
refused (e ∷ es) f falls h = refused_behind e es f falls (bind_err (distinct_after (Some e.key) es) e f h)

-- if a range is refused, a version stands twice in it
pub union_refused_for : (a b : List Entry) (f : Fault) → union_of (a ∷ b ∷ []) ≡ Err f → (f ≡ fault Duplicate) × HasRepeat (a ++ b)
union_refused_for a b f h =
    let found = refused (merged bytewise_cmp (a ∷ b ∷ [])) f (sorted_never_falls bytewise_cmp nat_list_cmp_total (entries_of_lists (a ∷ b ∷ []))) h in
    (found.0, repeat_moved (a ++ b) (merged bytewise_cmp (a ∷ b ∷ [])) (merged_moved a b) found.1)

-- ---- entry by entry

abbrev entry : List ℕ → List ℕ → Entry
entry key value = record { key = key; value = value }

step : (t : Bool) (before : Option (List ℕ)) (q rest : List Entry) (e : Entry) → q ≡ e ∷ rest → is_after_key before e.key ≡ t → distinct_after before q ≡ cond t (distinct_after (Some e.key) rest >>= λ others. Ok (e ∷ others)) (Err (fault Duplicate))
step t before q rest e first is =
    ap (distinct_after before) first ∙ ap (λ (b : Bool). cond b (distinct_after (Some e.key) rest >>= λ others. Ok (e ∷ others)) (Err (fault Duplicate))) is

pub goes_on_behind : (front q : List Entry) (key value : List ℕ) (total : Result (List Entry) Fault) → q ≡ record { key = key; value = value } ∷ drop 1 q → is_after_key (last_key_or None front) key ≡ true
    → with_front front (distinct_after (last_key_or None front) q) ≡ total → with_front (front ++ record { key = key; value = value } ∷ []) (distinct_after (last_key_or None (front ++ record { key = key; value = value } ∷ [])) (drop 1 q)) ≡ total
goes_on_behind front q key value total first is so_far =
    ap (λ (b : Option (List ℕ)). with_front (front ++ entry key value ∷ []) (distinct_after b (drop 1 q))) (last_key-push None front (entry key value))
    ∙ sym (regroup front (entry key value) (distinct_after (Some key) (drop 1 q))) ∙ sym (ap (with_front front) (step true (last_key_or None front) q (drop 1 q) (entry key value) first is)) ∙ so_far

pub ends_behind : (front q : List Entry) (key : List ℕ) (total : Result (List Entry) Fault) → option_map (λ e. e.key) (slice_get q 0) ≡ Some key → is_after_key (last_key_or None front) key ≡ false
    → with_front front (distinct_after (last_key_or None front) q) ≡ total → total ≡ Err (fault Duplicate)
ends_behind front [] key total first is so_far = absurd (none-some key first)
ends_behind front (e ∷ q) key total first is so_far =
    let here : is_after_key (last_key_or None front) e.key ≡ false = ap (λ (k : List ℕ). is_after_key (last_key_or None front) k) (same_Some e.key key first) ∙ is in
    sym so_far ∙ ap (with_front front) (step false (last_key_or None front) (e ∷ q) q e refl here)

pub is_done_behind : (front q : List Entry) (total : Result (List Entry) Fault) → length q ≡ 0 → with_front front (distinct_after (last_key_or None front) q) ≡ total → total ≡ Ok front
is_done_behind front [] total none so_far = sym so_far ∙ ap (λ (es : List Entry). Ok es) (append-nil front)
is_done_behind front (e ∷ q) total none so_far = absurd (omega arith)

front_none : (r : Result (List Entry) Fault) → with_front [] r ≡ r
front_none (Ok es) = refl
front_none (Err e) = refl

-- a merge of cursors begins with all entries of all
pub begins_with : (lists items self : List (List Entry)) → done self ≡ done items → done (map (λ (list : List Entry). list) items) ≡ done lists → lists ≡ self
begins_with lists items self all taken = sym (ok_is (map (λ (list : List Entry). list) items) lists taken) ∙ map-id items ∙ sym (ok_is self items all)

pub begins_behind : (run : List TestedEntry) (lists self : List (List Entry)) → run ≡ [] → lists ≡ self → with_front (tested_entries run) (distinct_after (last_key_or None (tested_entries run)) (merged bytewise_cmp lists)) ≡ union_of self
begins_behind run lists self none is =
    ap (λ (r : List TestedEntry). with_front (tested_entries r) (distinct_after (last_key_or None (tested_entries r)) (merged bytewise_cmp lists))) none
    ∙ front_none (distinct_after None (merged bytewise_cmp lists)) ∙ ap (λ (ls : List (List Entry)). union_of ls) is

-- ---- lengths of values

tested_limited : (ts : List TestedEntry) → AllByRecursion IsLimited (tested_entries ts)
tested_limited [] = tt
tested_limited (t ∷ ts) = (t.limited, tested_limited ts)

pub joined_limited : (xs ys : List TestedEntry) → AllByRecursion IsLimited (entries_of_lists (tested_entries xs ∷ tested_entries ys ∷ []))
joined_limited xs ys =
    subst (AllByRecursion IsLimited) (sym (whole (tested_entries xs) (tested_entries ys))) (all_append IsLimited (tested_entries xs) (tested_entries ys) (tested_limited xs) (tested_limited ys))

pub merged_limited : (lists self : List (List Entry)) → lists ≡ self → AllByRecursion IsLimited (entries_of_lists self) → AllByRecursion IsLimited (merged bytewise_cmp lists)
merged_limited lists self is each = subst (λ (ls : List (List Entry)). AllByRecursion IsLimited (merged bytewise_cmp ls)) (sym is) (all_sorted IsLimited bytewise_cmp (entries_of_lists self) each)

-- the first of limited entries, and the others
pub first_limited : (q : List Entry) (value : List ℕ) → option_map (λ e. e.value) (slice_get q 0) ≡ Some value → AllByRecursion IsLimited q → length value ≤ 16777215
first_limited [] value first each = absurd (none-some value first)
first_limited (e ∷ q) value first each = subst (λ (v : List ℕ). length v ≤ 16777215) (same_Some e.value value first) each.0

pub rest_limited : (q rest : List Entry) → rest ≡ drop 1 q → AllByRecursion IsLimited q → AllByRecursion IsLimited rest
rest_limited [] rest is each = subst (AllByRecursion IsLimited) (sym is) tt
rest_limited (e ∷ q) rest is each = subst (AllByRecursion IsLimited) (sym is) each.1
