-- What sorting does to a list of entries.
use Rattle.std.proofs.Common.{◌≡◌, ℕ, Bool, true, false, not, cond, List, [], ◌∷◌, ◌++◌, inl, inr, ⊎_elim, refl, sym, ap, subst, ◌∙◌}
use Rattle.std.specs.Prelude.{filter}
use Rattle.std.specs.List.{AllByRecursion}
use Rattle.std.specs.Cmp.{IsTotalOrder}
use Rattle.std.specs.Ordering.{is_lt, is_le}
use Rattle.std.specs.declared.cmp.Ordering.{Ordering}
use Rattle.std.specs.declared.cmp.Ordering.TheVariants.{Less}
use Rattle.table.specs.EncodedEntry.{Entry}
use Rattle.table.specs.Order.{internal_cmp}
use Rattle.table.specs.EntriesFrom.{NeverFalls, entries_from, LeavesFrom}
use Rattle.table.proofs.Ordered.{is_lt-true}
use Rattle.merge.specs.MergedLists.{entries_with, sorted_entries}
use Rattle.merge.proofs.Orders.{Above, From, not_below, at_most, from_first}

-- ---- what holds of all entries

pub all_with : (P : Entry → Type 0) (cmp : List ℕ → List ℕ → Ordering) (e : Entry) (es : List Entry) → P e → AllByRecursion P es → AllByRecursion P (entries_with cmp e es)
all_with P cmp e [] p h = (p, tt)
all_with P cmp e (f ∷ fs) p h = by_test (is_lt (internal_cmp cmp f.key e.key)) (all_with P cmp e fs p h.1)
  where
    by_test : (b : Bool) → AllByRecursion P (entries_with cmp e fs) → AllByRecursion P (cond b (f ∷ entries_with cmp e fs) (e ∷ (f ∷ fs)))
    by_test true more = (h.0, more)
    by_test false more = (p, h)

pub all_sorted : (P : Entry → Type 0) (cmp : List ℕ → List ℕ → Ordering) (es : List Entry) → AllByRecursion P es → AllByRecursion P (sorted_entries cmp es)
all_sorted P cmp [] h = tt
all_sorted P cmp (e ∷ es) h = all_with P cmp e (sorted_entries cmp es) h.0 (all_sorted P cmp es h.1)

-- ---- which entry is the first

-- an entry goes in front of those that aren't below it
pub with_first : (cmp : List ℕ → List ℕ → Ordering) → IsTotalOrder cmp → (e : Entry) (es : List Entry) → AllByRecursion (From cmp e.key) es → entries_with cmp e es ≡ e ∷ es
with_first cmp total e [] h = refl
with_first cmp total e (f ∷ fs) h = ap (λ b. cond b (f ∷ entries_with cmp e fs) (e ∷ (f ∷ fs))) (not_below cmp total e.key f.key h.0)

-- an entry goes after one that is below it
pub with_behind : (cmp : List ℕ → List ℕ → Ordering) (e f : Entry) (es : List Entry) → Above cmp f.key e → entries_with cmp e (f ∷ es) ≡ f ∷ entries_with cmp e es
with_behind cmp e f es h = ap (λ (o : Ordering). cond (is_lt o) (f ∷ entries_with cmp e es) (e ∷ (f ∷ es))) h

-- an entry that is below all before it, and not above any after it, is the first of the sorted list
pub sorted_first : (cmp : List ℕ → List ℕ → Ordering) → IsTotalOrder cmp → (xs : List Entry) (e : Entry) (ys : List Entry) → AllByRecursion (Above cmp e.key) xs → AllByRecursion (From cmp e.key) ys → sorted_entries cmp (xs ++ e ∷ ys) ≡ e ∷ sorted_entries cmp (xs ++ ys)
sorted_first cmp total [] e ys h k = with_first cmp total e (sorted_entries cmp ys) (all_sorted (From cmp e.key) cmp ys k)
sorted_first cmp total (x ∷ xs) e ys h k = ap (entries_with cmp x) (sorted_first cmp total xs e ys h.1 k) ∙ with_behind cmp x e (sorted_entries cmp (xs ++ ys)) h.0

-- ---- a sorted list never falls

pub with_never_falls : (cmp : List ℕ → List ℕ → Ordering) → IsTotalOrder cmp → (e : Entry) (es : List Entry) → NeverFalls cmp es → NeverFalls cmp (entries_with cmp e es)
with_never_falls cmp total e [] h = (tt, tt)
with_never_falls cmp total e (f ∷ fs) h = by_test (is_lt (internal_cmp cmp f.key e.key)) refl (with_never_falls cmp total e fs h.1)
  where
    by_test : (b : Bool) → is_lt (internal_cmp cmp f.key e.key) ≡ b → NeverFalls cmp (entries_with cmp e fs) → NeverFalls cmp (cond b (f ∷ entries_with cmp e fs) (e ∷ (f ∷ fs)))
    by_test true is more = (all_with (From cmp f.key) cmp e fs (ap is_le (is_lt-true (internal_cmp cmp f.key e.key) is)) h.0, more)
    by_test false is more =
        let le = at_most cmp total e.key f.key is in
        ((le, from_first cmp total e.key f fs le h.0), h)

pub sorted_never_falls : (cmp : List ℕ → List ℕ → Ordering) → IsTotalOrder cmp → (es : List Entry) → NeverFalls cmp (sorted_entries cmp es)
sorted_never_falls cmp total [] = tt
sorted_never_falls cmp total (e ∷ es) = with_never_falls cmp total e (sorted_entries cmp es) (sorted_never_falls cmp total es)

-- ---- some of the entries

pub all_filter : (P : Entry → Type 0) (test : Entry → Bool) (es : List Entry) → AllByRecursion P es → AllByRecursion P (filter test es)
all_filter P test [] h = tt
all_filter P test (e ∷ es) h = by_test (test e) (all_filter P test es h.1)
  where
    by_test : (b : Bool) → AllByRecursion P (filter test es) → AllByRecursion P (cond b (e ∷ filter test es) (filter test es))
    by_test true more = (h.0, more)
    by_test false more = more

pub filter-with : (cmp : List ℕ → List ℕ → Ordering) → IsTotalOrder cmp → (test : Entry → Bool) (e : Entry) (es : List Entry) → NeverFalls cmp es
    → filter test (entries_with cmp e es) ≡ cond (test e) (entries_with cmp e (filter test es)) (filter test es)
filter-with cmp total test e [] h = refl
filter-with cmp total test e (f ∷ fs) h = by_test (is_lt (internal_cmp cmp f.key e.key)) refl (filter-with cmp total test e fs h.1)
  where
    others : List Entry
    others = filter test fs

    passed : (b c : Bool) → Above cmp f.key e → cond b (f ∷ cond c (entries_with cmp e others) others) (cond c (entries_with cmp e others) others) ≡ cond c (entries_with cmp e (cond b (f ∷ others) others)) (cond b (f ∷ others) others)
    passed true true below = sym (with_behind cmp e f others below)
    passed true false below = refl
    passed false true below = refl
    passed false false below = refl

    by_test : (b : Bool) → is_lt (internal_cmp cmp f.key e.key) ≡ b → filter test (entries_with cmp e fs) ≡ cond (test e) (entries_with cmp e others) others
        → filter test (cond b (f ∷ entries_with cmp e fs) (e ∷ (f ∷ fs))) ≡ cond (test e) (entries_with cmp e (cond (test f) (f ∷ others) others)) (cond (test f) (f ∷ others) others)
    by_test true is more =
        ap (λ (es : List Entry). cond (test f) (f ∷ es) es) more
        ∙ passed (test f) (test e) (is_lt-true (internal_cmp cmp f.key e.key) is)
    by_test false is more =
        let le = at_most cmp total e.key f.key is in
        let ahead = all_filter (From cmp e.key) test (f ∷ fs) (le, from_first cmp total e.key f fs le h.0) in
        ap (λ (es : List Entry). cond (test e) es (cond (test f) (f ∷ others) others)) (sym (with_first cmp total e (filter test (f ∷ fs)) ahead))

-- to sort some of the entries is to take them from the sorted ones
pub filter-sorted : (cmp : List ℕ → List ℕ → Ordering) → IsTotalOrder cmp → (test : Entry → Bool) (es : List Entry) → filter test (sorted_entries cmp es) ≡ sorted_entries cmp (filter test es)
filter-sorted cmp total test [] = refl
filter-sorted cmp total test (e ∷ es) =
    filter-with cmp total test e (sorted_entries cmp es) (sorted_never_falls cmp total es)
    ∙ ap (λ (fs : List Entry). cond (test e) (entries_with cmp e fs) fs) (filter-sorted cmp total test es)
    ∙ by_test (test e)
  where
    by_test : (b : Bool) → cond b (entries_with cmp e (sorted_entries cmp (filter test es))) (sorted_entries cmp (filter test es)) ≡ sorted_entries cmp (cond b (e ∷ filter test es) (filter test es))
    by_test true = refl
    by_test false = refl

-- whether an entry isn't below this internal key
abbrev pub is_from : (List ℕ → List ℕ → Ordering) → List ℕ → Entry → Bool
is_from cmp target e = not (is_lt (internal_cmp cmp e.key target))

filter_all : (cmp : List ℕ → List ℕ → Ordering) → IsTotalOrder cmp → (target : List ℕ) (es : List Entry) → AllByRecursion (From cmp target) es → filter (is_from cmp target) es ≡ es
filter_all cmp total target [] h = refl
filter_all cmp total target (e ∷ es) h =
    ap (λ b. cond (not b) (e ∷ filter (is_from cmp target) es) (filter (is_from cmp target) es)) (not_below cmp total target e.key h.0)
    ∙ ap (λ (fs : List Entry). e ∷ fs) (filter_all cmp total target es h.1)

-- of a list that never falls, the entries from a key on are all that aren't below it
pub from_is_filter : (cmp : List ℕ → List ℕ → Ordering) → IsTotalOrder cmp → (target : List ℕ) (es : List Entry) → NeverFalls cmp es → entries_from cmp target es ≡ filter (is_from cmp target) es
from_is_filter cmp total target [] h = refl
from_is_filter cmp total target (e ∷ es) h = by_test (is_lt (internal_cmp cmp e.key target)) refl (from_is_filter cmp total target es h.1)
  where
    by_test : (b : Bool) → is_lt (internal_cmp cmp e.key target) ≡ b → entries_from cmp target es ≡ filter (is_from cmp target) es
        → cond b (entries_from cmp target es) (e ∷ es) ≡ cond (not b) (e ∷ filter (is_from cmp target) es) (filter (is_from cmp target) es)
    by_test true is more = more
    by_test false is more =
        ap (λ (fs : List Entry). e ∷ fs) (sym (filter_all cmp total target es (from_first cmp total target e es (at_most cmp total target e.key is) h.0)))

-- ---- entries that are gone

pub leaves_those : (P : Entry → Type 0) (cmp : List ℕ → List ℕ → Ordering) (target : List ℕ) (es fs : List Entry) → LeavesFrom cmp target es fs → AllByRecursion P es → AllByRecursion P fs
leaves_those P cmp target [] fs h all = subst (AllByRecursion P) (sym h) tt
leaves_those P cmp target (e ∷ es) fs h all =
    ⊎_elim (λ gone. leaves_those P cmp target es fs gone.1 all.1)
    (λ stays. subst (AllByRecursion P) (sym stays.1.0) (all.0, leaves_those P cmp target es stays.0 stays.1.1 all.1))
    h

-- an entry that stays
leaves_with : (cmp : List ℕ → List ℕ → Ordering) → IsTotalOrder cmp → (target : List ℕ) (e : Entry) (es fs : List Entry) → NeverFalls cmp es → LeavesFrom cmp target es fs → LeavesFrom cmp target (entries_with cmp e es) (entries_with cmp e fs)
leaves_with cmp total target e [] fs falls h = inr ([], (ap (entries_with cmp e) h, refl))
leaves_with cmp total target e (f ∷ es) fs falls h = by_test (is_lt (internal_cmp cmp f.key e.key)) refl (λ gs k. leaves_with cmp total target e es gs falls.1 k) h
  where
    Goal : Bool → Type 0
    Goal b = LeavesFrom cmp target (cond b (f ∷ entries_with cmp e es) (e ∷ (f ∷ es))) (entries_with cmp e fs)

    More : Type 0
    More = (gs : List Entry) → LeavesFrom cmp target es gs → LeavesFrom cmp target (entries_with cmp e es) (entries_with cmp e gs)

    gone_or_not : (b : Bool) → is_lt (internal_cmp cmp f.key e.key) ≡ b → More → (internal_cmp cmp f.key target ≡ Less) × LeavesFrom cmp target es fs → Goal b
    gone_or_not true is more gone = inl (gone.0, more fs gone.1)
    gone_or_not false is more gone =
        let le = at_most cmp total e.key f.key is in
        let ahead = leaves_those (From cmp e.key) cmp target es fs gone.1 (from_first cmp total e.key f es le falls.0) in
        inr (fs, (with_first cmp total e fs ahead, inl gone))

    stays_or_not : (b : Bool) → is_lt (internal_cmp cmp f.key e.key) ≡ b → More → (left : List Entry) → fs ≡ f ∷ left → LeavesFrom cmp target es left → Goal b
    stays_or_not true is more left same k =
        inr (entries_with cmp e left, (ap (entries_with cmp e) same ∙ ap (λ b. cond b (f ∷ entries_with cmp e left) (e ∷ (f ∷ left))) is, more left k))
    stays_or_not false is more left same k =
        inr (f ∷ left, (ap (entries_with cmp e) same ∙ ap (λ b. cond b (f ∷ entries_with cmp e left) (e ∷ (f ∷ left))) is, inr (left, (refl, k))))

    by_test : (b : Bool) → is_lt (internal_cmp cmp f.key e.key) ≡ b → More → LeavesFrom cmp target (f ∷ es) fs → Goal b
    by_test b is more k = ⊎_elim (λ gone. gone_or_not b is more gone) (λ stays. stays_or_not b is more stays.0 stays.1.0 stays.1.1) k

-- an entry that is gone
leaves_without : (cmp : List ℕ → List ℕ → Ordering) (target : List ℕ) (e : Entry) (es fs : List Entry) → internal_cmp cmp e.key target ≡ Less → LeavesFrom cmp target es fs → LeavesFrom cmp target (entries_with cmp e es) fs
leaves_without cmp target e [] fs below h = inl (below, h)
leaves_without cmp target e (f ∷ es) fs below h = by_test (is_lt (internal_cmp cmp f.key e.key)) (λ gs k. leaves_without cmp target e es gs below k)
  where
    by_test : (b : Bool) → ((gs : List Entry) → LeavesFrom cmp target es gs → LeavesFrom cmp target (entries_with cmp e es) gs) → LeavesFrom cmp target (cond b (f ∷ entries_with cmp e es) (e ∷ (f ∷ es))) fs
    by_test true more = ⊎_elim (λ gone. inl (gone.0, more fs gone.1)) (λ stays. inr (stays.0, (stays.1.0, more stays.0 stays.1.1))) h
    by_test false more = inl (below, h)

pub leaves_sorted : (cmp : List ℕ → List ℕ → Ordering) → IsTotalOrder cmp → (target : List ℕ) (es fs : List Entry) → LeavesFrom cmp target es fs → LeavesFrom cmp target (sorted_entries cmp es) (sorted_entries cmp fs)
leaves_sorted cmp total target [] fs h = ap (sorted_entries cmp) h
leaves_sorted cmp total target (e ∷ es) fs h =
    ⊎_elim (λ gone. leaves_without cmp target e (sorted_entries cmp es) (sorted_entries cmp fs) gone.0 (leaves_sorted cmp total target es fs gone.1))
    (λ stays.
    subst (λ (gs : List Entry). LeavesFrom cmp target (entries_with cmp e (sorted_entries cmp es)) (sorted_entries cmp gs)) (sym stays.1.0)
    (leaves_with cmp total target e (sorted_entries cmp es) (sorted_entries cmp stays.0) (sorted_never_falls cmp total es) (leaves_sorted cmp total target es stays.0 stays.1.1))
    )
    h

pub leaves_append : (cmp : List ℕ → List ℕ → Ordering) (target : List ℕ) (es fs more less : List Entry) → LeavesFrom cmp target es fs → LeavesFrom cmp target more less → LeavesFrom cmp target (es ++ more) (fs ++ less)
leaves_append cmp target [] fs more less h k = subst (λ (gs : List Entry). LeavesFrom cmp target more (gs ++ less)) (sym h) k
leaves_append cmp target (e ∷ es) fs more less h k =
    ⊎_elim (λ gone. inl (gone.0, leaves_append cmp target es fs more less gone.1 k))
    (λ stays. inr (stays.0 ++ less, (ap (λ (gs : List Entry). gs ++ less) stays.1.0, leaves_append cmp target es stays.0 more less stays.1.1 k)))
    h
