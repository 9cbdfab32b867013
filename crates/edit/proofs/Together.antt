-- Entries put into a map together, and one by one.
use Rattle.std.proofs.Common.{◌≡◌, ℕ, Bool, true, false, cond, List, [], ◌∷◌, Option, Some, None, refl, sym, ap, ◌∙◌}
use Rattle.std.specs.List.{fold, AllByRecursion}
use Rattle.std.specs.List.Sorted.{IsStrictlySortedBy}
use Rattle.std.specs.Map.{keys_of, lookup, update, update_all}
use Rattle.std.specs.Option.{option_or}
use Rattle.std.specs.Ordering.{nat_cmp, is_eq, eq_by_cmp, match_ordering, ordering_reverse}
use Rattle.std.specs.BTreeMap.{BTreeMap, InsertsAll, IsFromIterResult, IsOrdered, is_at, insert_entry}
use Rattle.std.specs.declared.cmp.Ordering.{Ordering}
use Rattle.std.specs.declared.cmp.Ordering.TheVariants.{Less, Equal, Greater}
use Rattle.std.proofs.lemmas.Bool.{eqb-true}
use Rattle.std.proofs.lemmas.Cmp.{nat_cmp_total, eq_by_cmp_equiv, tied_itself}
use Rattle.std.proofs.lemmas.Map.Keys.{IsDistinct-from_sorted}
use Rattle.std.proofs.lemmas.Map.{lookup-none}
use Rattle.std.proofs.lemmas.Map.Entries.{lookup_head, lookup_tail, none_past_head, none_below_head}
use Rattle.std.proofs.lemmas.Map.Lookups.{exact_unsigned}
use Rattle.std.proofs.lemmas.Map.Made.{update_all_distinct}
use Rattle.edit.proofs.Tested.{is_eq-nat_cmp}

-- ---- an entry put in, as a look-up sees it

abbrev pub same : ℕ → ℕ → Bool
same = eq_by_cmp nat_cmp

abbrev pub found : {X : Type 0} → List (ℕ × X) → ℕ → Option X
found es q = lookup (is_at (nat_cmp q)) es

abbrev pub some : {X : Type 0} → X → Option X
some x = Some x

same_turned : (a b : ℕ) → same a b ≡ same b a
same_turned = (eq_by_cmp_equiv nat_cmp_total).symm

pub same_is : (a b : ℕ) → same a b ≡ true → a ≡ b
same_is a b e = eqb-true a b (sym (is_eq-nat_cmp a b) ∙ e)

swapped : {X : Type 0} (a b : Bool) (x y : X) (o : Option X) → (a ≡ true → b ≡ true → ⊥) → cond a (some x) (cond b (some y) o) ≡ cond b (some y) (cond a (some x) o)
swapped true true x y o apart = absurd (apart refl refl)
swapped true false x y o apart = refl
swapped false b x y o apart = refl

replaced : {X : Type 0} (a b : Bool) (x y : X) (o : Option X) → a ≡ b → cond a (some x) o ≡ cond b (some x) (cond a (some y) o)
replaced true true x y o e = refl
replaced true false x y o e = absurd cc
replaced false true x y o e = absurd cc
replaced false false x y o e = refl

not_both_same : (k q n : ℕ) → nat_cmp k n ≡ Greater → same q n ≡ true → same k q ≡ true → ⊥
not_both_same k q n above a b = let e : Greater ≡ Equal = sym above ∙ ap (λ (m : ℕ). nat_cmp k m) (sym (same_is k n (ap (same k) (sym (same_is q n a)) ∙ b))) ∙ tied_itself nat_cmp_total k in absurd cc

found_by : {X : Type 0} (o : Ordering) (e : ℕ × X) (es : List (ℕ × X)) (k : ℕ) (v : X) (q : ℕ) → nat_cmp k e.0 ≡ o → found (insert_entry nat_cmp es k v) q ≡ cond (same k q) (Some v) (found es q)
    → found (match_ordering o ((k, v) ∷ e ∷ es) ((e.0, v) ∷ es) (e ∷ insert_entry nat_cmp es k v)) q ≡ cond (same k q) (Some v) (found (e ∷ es) q)
found_by Less e es k v q is rest = ap (λ (b : Bool). cond b (Some v) (found (e ∷ es) q)) (same_turned q k)
found_by Equal e es k v q is rest = replaced (same q e.0) (same k q) v e.1 (found es q) (same_turned q e.0 ∙ ap (λ (n : ℕ). same n q) (sym (exact_unsigned k e.0 is)))
found_by {X} Greater e es k v q is rest = ap (λ (o : Option X). cond (same q e.0) (Some e.1) o) rest ∙ swapped (same q e.0) (same k q) e.1 v (found es q) (not_both_same k q e.0 is)

pub found_put : {X : Type 0} (es : List (ℕ × X)) (k : ℕ) (v : X) (q : ℕ) → found (insert_entry nat_cmp es k v) q ≡ cond (same k q) (Some v) (found es q)
found_put [] k v q = ap (λ (b : Bool). cond b (Some v) None) (same_turned q k)
found_put (e ∷ es) k v q = found_by (nat_cmp k e.0) e es k v q refl (found_put es k v q)

-- ---- entries put in one by one, as a look-up sees them

abbrev pub put : {X : Type 0} → List (ℕ × X) → ℕ × X → List (ℕ × X)
put es p = insert_entry nat_cmp es p.0 p.1

updated_alike : {X : Type 0} (f g : ℕ → Option X) (xs : List (ℕ × X)) → ((q : ℕ) → f q ≡ g q) → (q : ℕ) → update_all same f xs q ≡ update_all same g xs q
updated_alike f g [] h q = h q
updated_alike {X} f g (x ∷ xs) h q = updated_alike (update same f x.0 (Some x.1)) (update same g x.0 (Some x.1)) xs (λ p. ap (λ (o : Option X). cond (same x.0 p) (Some x.1) o) (h p)) q

updated_first : {X : Type 0} (b : Bool) (x : X) (o p r : Option X) → o ≡ option_or p r → cond b (some x) o ≡ option_or (cond b (some x) p) r
updated_first true x o p r e = refl
updated_first false x o p r e = e

-- what entries leave at a key is what they leave there on their own, or else what was there
updated_over : {X : Type 0} (f g h : ℕ → Option X) (xs : List (ℕ × X)) → ((q : ℕ) → g q ≡ option_or (h q) (f q)) → (q : ℕ) → update_all same g xs q ≡ option_or (update_all same h xs q) (f q)
updated_over f g h [] e q = e q
updated_over f g h (x ∷ xs) e q =
    updated_over f (update same g x.0 (Some x.1)) (update same h x.0 (Some x.1)) xs (λ p. updated_first (same x.0 p) x.1 (g p) (h p) (f p) (e p)) q

found_all : {X : Type 0} (es added : List (ℕ × X)) (q : ℕ) → found (fold put es added) q ≡ update_all same (found es) added q
found_all es [] q = refl
found_all {X} es (p ∷ added) q =
    found_all (put es p) added q
    ∙ updated_alike (found (put es p)) (update same (found es) p.0 (Some p.1)) added (λ k. found_put es p.0 p.1 k) q

-- ---- the numbers rise

abbrev pub Rises : {X : Type 0} → List (ℕ × X) → Type 0
Rises es = IsStrictlySortedBy nat_cmp (keys_of es)

abbrev pub Above : {X : Type 0} → ℕ → List (ℕ × X) → Type 0
Above n es = AllByRecursion (λ k. nat_cmp n k ≡ Less) (keys_of es)

above_by : {X : Type 0} (o : Ordering) (n : ℕ) (e : ℕ × X) (es : List (ℕ × X)) (k : ℕ) (v : X) → nat_cmp n k ≡ Less → Above n (e ∷ es) → Above n (insert_entry nat_cmp es k v)
    → Above n (match_ordering o ((k, v) ∷ e ∷ es) ((e.0, v) ∷ es) (e ∷ insert_entry nat_cmp es k v))
above_by Less n e es k v below h rest = (below, h)
above_by Equal n e es k v below h rest = h
above_by Greater n e es k v below h rest = (h.0, rest)

above_put : {X : Type 0} (n : ℕ) (es : List (ℕ × X)) (k : ℕ) (v : X) → nat_cmp n k ≡ Less → Above n es → Above n (insert_entry nat_cmp es k v)
above_put n [] k v below h = (below, tt)
above_put n (e ∷ es) k v below h = above_by (nat_cmp k e.0) n e es k v below h (above_put n es k v below h.1)

above_lower : {X : Type 0} (k n : ℕ) (es : List (ℕ × X)) → nat_cmp k n ≡ Less → Above n es → Above k es
above_lower k n [] below h = tt
above_lower k n (e ∷ es) below h = (nat_cmp_total.trans k n e.0 below h.0, above_lower k n es below h.1)

rises_by : {X : Type 0} (o : Ordering) (e : ℕ × X) (es : List (ℕ × X)) (k : ℕ) (v : X) → nat_cmp k e.0 ≡ o → IsStrictlySortedBy nat_cmp (keys_of (e ∷ es))
    → IsStrictlySortedBy nat_cmp (keys_of (insert_entry nat_cmp es k v)) → IsStrictlySortedBy nat_cmp (keys_of (match_ordering o ((k, v) ∷ e ∷ es) ((e.0, v) ∷ es) (e ∷ insert_entry nat_cmp es k v)))
unfolding IsStrictlySortedBy
rises_by Less e es k v is h rest = ((is, above_lower k e.0 es is h.0), h)
rises_by Equal e es k v is h rest = h
rises_by Greater e es k v is h rest = (above_put e.0 es k v (nat_cmp_total.antisymm e.0 k ∙ ap ordering_reverse is) h.0, rest)

pub rises_put : {X : Type 0} (es : List (ℕ × X)) (k : ℕ) (v : X) → IsStrictlySortedBy nat_cmp (keys_of es) → IsStrictlySortedBy nat_cmp (keys_of (insert_entry nat_cmp es k v))
unfolding IsStrictlySortedBy
rises_put [] k v h = (tt, tt)
rises_put (e ∷ es) k v h = rises_by (nat_cmp k e.0) e es k v refl h (rises_put es k v h.1)

pub rises_each : {X : Type 0} (es added : List (ℕ × X)) → Rises es → Rises (fold put es added)
rises_each es [] h = h
rises_each es (p ∷ added) h = rises_each (put es p) added (rises_put es p.0 p.1 h)

-- ---- two lists of entries whose numbers rise, and in which a look-up finds the same, are the same

is_there : {X : Type 0} (x : X) → some x ≡ None → ⊥
is_there x e = absurd cc

pub at_head : {X : Type 0} (e : ℕ × X) (es : List (ℕ × X)) → found (e ∷ es) e.0 ≡ Some e.1
at_head e es = lookup_head (is_at (nat_cmp e.0)) e es (ap is_eq (tied_itself nat_cmp_total e.0))

pub below_head : {X : Type 0} (q : ℕ) (e : ℕ × X) (es : List (ℕ × X)) → Rises (e ∷ es) → nat_cmp q e.0 ≡ Less → found (e ∷ es) q ≡ None
below_head q e es h below = lookup-none (is_at (nat_cmp q)) (e ∷ es) (none_below_head nat_cmp_total q e es h below)

pub past_head : {X : Type 0} (q : ℕ) (e : ℕ × X) (es : List (ℕ × X)) → Rises (e ∷ es) → same q e.0 ≡ true → found es q ≡ None
past_head q e es h is = lookup-none (is_at (nat_cmp q)) es (none_past_head (eq_by_cmp_equiv nat_cmp_total) q e es (IsDistinct-from_sorted nat_cmp (keys_of (e ∷ es)) h) is)

one_head : {X : Type 0} (o : Ordering) (d e : ℕ × X) (ds es : List (ℕ × X)) → Rises (d ∷ ds) → Rises (e ∷ es) → ((q : ℕ) → found (d ∷ ds) q ≡ found (e ∷ es) q) → nat_cmp d.0 e.0 ≡ o → d.0 ≡ e.0
one_head Less d e ds es g h alike is = absurd (is_there d.1 (sym (at_head d ds) ∙ alike d.0 ∙ below_head d.0 e es h is))
one_head Equal d e ds es g h alike is = exact_unsigned d.0 e.0 is
one_head Greater d e ds es g h alike is = absurd (is_there e.1 (sym (at_head e es) ∙ sym (alike e.0) ∙ below_head e.0 d ds g (nat_cmp_total.antisymm e.0 d.0 ∙ ap ordering_reverse is)))

alike_behind : {X : Type 0} (b : Bool) (d e : ℕ × X) (ds es : List (ℕ × X)) (q : ℕ) → Rises (d ∷ ds) → Rises (e ∷ es) → found (d ∷ ds) q ≡ found (e ∷ es) q → d.0 ≡ e.0 → same q d.0 ≡ b → found ds q ≡ found es q
alike_behind true d e ds es q g h alike heads is = past_head q d ds g is ∙ sym (past_head q e es h (ap (same q) (sym heads) ∙ is))
alike_behind false d e ds es q g h alike heads is =
    sym (lookup_tail (is_at (nat_cmp q)) d ds is) ∙ alike ∙ lookup_tail (is_at (nat_cmp q)) e es (ap (same q) (sym heads) ∙ is)

one_value : {X : Type 0} (x y : X) → some x ≡ some y → x ≡ y
one_value x y e = cc

pub same_entries : {X : Type 0} (ds es : List (ℕ × X)) → Rises ds → Rises es → ((q : ℕ) → found ds q ≡ found es q) → ds ≡ es
unfolding IsStrictlySortedBy
same_entries [] [] g h alike = refl
same_entries [] (e ∷ es) g h alike = absurd (is_there e.1 (sym (at_head e es) ∙ sym (alike e.0)))
same_entries (d ∷ ds) [] g h alike = absurd (is_there d.1 (sym (at_head d ds) ∙ alike d.0))
same_entries {X} (d ∷ ds) (e ∷ es) g h alike =
    let heads : d.0 ≡ e.0 = one_head (nat_cmp d.0 e.0) d e ds es g h alike refl in
    let values : d.1 ≡ e.1 = one_value d.1 e.1 (sym (at_head d ds) ∙ alike d.0 ∙ lookup_head (is_at (nat_cmp d.0)) e es (ap is_eq (ap (nat_cmp d.0) (sym heads) ∙ tied_itself nat_cmp_total d.0))) in
    let behind : ds ≡ es = same_entries ds es g.1 h.1 (λ q. alike_behind (same q d.0) d e ds es q g h (alike q) heads refl) in
    ap (λ (n : ℕ). (n, d.1) ∷ ds) heads ∙ ap (λ (x : X). (e.0, x) ∷ ds) values ∙ ap (λ (t : List (ℕ × X)). e ∷ t) behind

-- ---- entries put in together

-- a map that takes all of a map of entries holds what those entries leave one by one
pub together_is : {X : Type 0} (old made new : BTreeMap ℕ X) (added : List (ℕ × X)) → IsOrdered nat_cmp old → IsFromIterResult nat_cmp added made → InsertsAll nat_cmp old made.entries new
    → new.entries ≡ fold put old.entries added
together_is {X} old made new added rises m n =
    same_entries new.entries (fold put old.entries added) n.1 (rises_each old.entries added rises)
    (λ q.
    n.0 q
    ∙ update_all_distinct (eq_by_cmp_equiv nat_cmp_total) same (λ x y. refl) (found old.entries) made.entries q (IsDistinct-from_sorted nat_cmp (keys_of made.entries) m.1)
    ∙ ap (λ (o : Option X). option_or o (found old.entries q)) (m.0 q)
    ∙ sym (updated_over (found old.entries) (found old.entries) (λ _. None) added (λ _. refl) q)
    ∙ sym (found_all old.entries added q))
