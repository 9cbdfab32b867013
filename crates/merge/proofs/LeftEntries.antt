-- What is left of lists of which some entries are taken off.
use Rattle.std.proofs.Common.{◌≡◌, ℕ, zero, suc, ◌+◌, Bool, true, false, not, cond, List, [], ◌∷◌, ◌++◌, map, drop, set, Some, inl, inr, ⊎_elim, refl, sym, ap, subst, ◌∙◌, append_assoc, arith}
use Rattle.std.specs.Prelude.{filter, slice_get}
use Rattle.std.specs.List.{AllByRecursion}
use Rattle.std.specs.Cmp.{IsTotalOrder}
use Rattle.std.specs.Ordering.{is_lt}
use Rattle.std.specs.declared.cmp.Ordering.{Ordering}
use Rattle.std.specs.declared.cmp.Ordering.TheVariants.{Less}
use Rattle.std.proofs.lemmas.Bool.{false≢true}
use Rattle.std.proofs.lemmas.Option.{same_Some, none-some}
use Rattle.table.specs.EncodedEntry.{Entry}
use Rattle.table.specs.Order.{internal_cmp}
use Rattle.table.specs.EntriesFrom.{entries_from, LeavesFrom}
use Rattle.table.proofs.Ordered.{is_lt-true}
use Rattle.table.proofs.ReadBack.{all_split}
use Rattle.merge.specs.MergedLists.{entries_with, sorted_entries, entries_of_lists, merged}
use Rattle.merge.specs.LeastList.{IsAdvanced}
use Rattle.merge.proofs.SortedEntries.{filter-sorted}
use Rattle.merge.specs.CursorsLeft.{LosesOnly, EachLosesOnly, LosesFirst, EachLosesFirst}
use Rattle.merge.specs.FirstEntry.{first_is}

-- ---- one list

module _ (test : Entry → Bool) where
  pub leaves_all : (es : List Entry) → LosesOnly test es es
  leaves_all [] = refl
  leaves_all (e ∷ es) = inr (es, (refl, leaves_all es))

  pub leaves_more : (xs bs cs : List Entry) → LosesOnly test xs bs → LosesOnly test bs cs → LosesOnly test xs cs
  leaves_more [] bs cs h k = subst (λ (xs : List Entry). LosesOnly test xs cs) h k
  leaves_more (a ∷ xs) bs cs h k =
      ⊎_elim (λ gone. inl (gone.0, leaves_more xs bs cs gone.1 k))
      (λ stays. behind stays.0 stays.1.1 (λ ds more. leaves_more xs stays.0 ds stays.1.1 more) (subst (λ (xs : List Entry). LosesOnly test xs cs) stays.1.0 k))
      h
    where
      behind : (left : List Entry) → LosesOnly test xs left → ((ds : List Entry) → LosesOnly test left ds → LosesOnly test xs ds) → LosesOnly test (a ∷ left) cs → LosesOnly test (a ∷ xs) cs
      behind left h more k =
          ⊎_elim (λ gone. inl (gone.0, more cs gone.1)) (λ stays. inr (stays.0, (stays.1.0, more stays.0 stays.1.1))) k

  -- if nothing that passes is left, the others are
  pub leaves_others : (es fs : List Entry) → LosesOnly test es fs → AllByRecursion (λ e. test e ≡ false) fs → fs ≡ filter (λ e. not (test e)) es
  leaves_others [] fs h none = h
  leaves_others (e ∷ es) fs h none =
      ⊎_elim (λ gone. leaves_others es fs gone.1 none ∙ ap (λ s. cond (not s) (e ∷ filter (λ e. not (test e)) es) (filter (λ e. not (test e)) es)) (sym gone.0))
      (λ stays.
      let both = subst (AllByRecursion (λ e. test e ≡ false)) stays.1.0 none in
      stays.1.0 ∙ ap (λ (xs : List Entry). e ∷ xs) (leaves_others es stays.0 stays.1.1 both.1) ∙ ap (λ s. cond (not s) (e ∷ filter (λ e. not (test e)) es) (filter (λ e. not (test e)) es)) (sym both.0))
      h

  -- entries that pass another test, which those that are gone don't pass
  pub leaves_filter : (other : Entry → Bool) → ((e : Entry) → test e ≡ true → other e ≡ false) → (es fs : List Entry) → LosesOnly test es fs → filter other fs ≡ filter other es
  leaves_filter other apart [] fs h = ap (filter other) h
  leaves_filter other apart (e ∷ es) fs h =
      ⊎_elim (λ gone. leaves_filter other apart es fs gone.1 ∙ ap (λ s. cond s (e ∷ filter other es) (filter other es)) (sym (apart e gone.0)))
      (λ stays. ap (filter other) stays.1.0 ∙ ap (λ (xs : List Entry). cond (other e) (e ∷ xs) xs) (leaves_filter other apart es stays.0 stays.1.1))
      h

  -- ---- each of several

  pub each_others : (olds news : List (List Entry)) → EachLosesOnly test olds news → AllByRecursion (λ list. AllByRecursion (λ e. test e ≡ false) list) news → news ≡ map (λ es. filter (λ e. not (test e)) es) olds
  each_others [] [] h none = refl
  each_others [] (n ∷ news) h none = absurd h
  each_others (o ∷ olds) [] h none = absurd h
  each_others (o ∷ olds) (n ∷ news) h none =
      ap (λ (l : List Entry). l ∷ news) (leaves_others o n h.0 none.0) ∙ ap (λ (ls : List (List Entry)). filter (λ e. not (test e)) o ∷ ls) (each_others olds news h.1 none.1)

  filter-append : (p : Entry → Bool) (xs ys : List Entry) → filter p (xs ++ ys) ≡ filter p xs ++ filter p ys
  filter-append p [] ys = refl
  filter-append p (x ∷ xs) ys = by_test (p x) (filter-append p xs ys)
    where
      by_test : (b : Bool) → filter p (xs ++ ys) ≡ filter p xs ++ filter p ys → cond b (x ∷ filter p (xs ++ ys)) (filter p (xs ++ ys)) ≡ cond b (x ∷ filter p xs) (filter p xs) ++ filter p ys
      by_test true same = ap (λ (zs : List Entry). x ∷ zs) same
      by_test false same = same

  each_filter : (other : Entry → Bool) → ((e : Entry) → test e ≡ true → other e ≡ false) → (olds news : List (List Entry)) → EachLosesOnly test olds news → filter other (entries_of_lists news) ≡ filter other (entries_of_lists olds)
  each_filter other apart [] [] h = refl
  each_filter other apart [] (n ∷ news) h = absurd h
  each_filter other apart (o ∷ olds) [] h = absurd h
  each_filter other apart (o ∷ olds) (n ∷ news) h =
      filter-append other n (entries_of_lists news)
      ∙ ap (λ (xs : List Entry). xs ++ filter other (entries_of_lists news)) (leaves_filter other apart o n h.0)
      ∙ ap (λ (xs : List Entry). filter other o ++ xs) (each_filter other apart olds news h.1)
      ∙ sym (filter-append other o (entries_of_lists olds))

  -- of what is merged
  pub merged_filter : (cmp : List ℕ → List ℕ → Ordering) → IsTotalOrder cmp → (other : Entry → Bool) → ((e : Entry) → test e ≡ true → other e ≡ false) → (olds news : List (List Entry)) → EachLosesOnly test olds news
      → filter other (merged cmp news) ≡ filter other (merged cmp olds)
  merged_filter cmp total other apart olds news h =
      filter-sorted cmp total other (entries_of_lists news) ∙ ap (sorted_entries cmp) (each_filter other apart olds news h) ∙ sym (filter-sorted cmp total other (entries_of_lists olds))

-- ---- first entries alone

module _ (test : Entry → Bool) where
  abbrev Passed : List Entry → Type 0
  Passed es = AllByRecursion (λ e. test e ≡ true) es

  all_both : (xs ys : List Entry) → Passed xs → Passed ys → Passed (xs ++ ys)
  all_both [] ys h k = k
  all_both (x ∷ xs) ys h k = (h.0, all_both xs ys h.1 k)

  first_all : (es : List Entry) → LosesFirst test es es
  first_all es = record { gone = []; whole = refl; passed = tt }

  first_more : (xs bs cs : List Entry) → LosesFirst test xs bs → LosesFirst test bs cs → LosesFirst test xs cs
  first_more xs bs cs h k = record {
    gone = h.gone ++ k.gone;
    whole = h.whole ∙ ap (λ (es : List Entry). h.gone ++ es) k.whole ∙ sym (append_assoc h.gone k.gone cs);
    passed = all_both h.gone k.gone h.passed k.passed;
  }

  without : (gone es : List Entry) → Passed gone → LosesOnly test (gone ++ es) es
  without [] es h = leaves_all test es
  without (g ∷ gone) es h = inl (h.0, without gone es h.1)

  pub each_first_all : (lists : List (List Entry)) → EachLosesFirst test lists lists
  each_first_all [] = tt
  each_first_all (l ∷ ls) = (first_all l, each_first_all ls)

  pub each_first_more : (xs bs cs : List (List Entry)) → EachLosesFirst test xs bs → EachLosesFirst test bs cs → EachLosesFirst test xs cs
  each_first_more [] [] cs h k = k
  each_first_more [] (b ∷ bs) cs h k = absurd h
  each_first_more (a ∷ xs) [] cs h k = absurd h
  each_first_more (a ∷ xs) (b ∷ bs) [] h k = absurd k
  each_first_more (a ∷ xs) (b ∷ bs) (c ∷ cs) h k = (first_more a b c h.0 k.0, each_first_more xs bs cs h.1 k.1)

  pub each_loses_only : (olds news : List (List Entry)) → EachLosesFirst test olds news → EachLosesOnly test olds news
  each_loses_only [] [] h = tt
  each_loses_only [] (n ∷ news) h = absurd h
  each_loses_only (o ∷ olds) [] h = absurd h
  each_loses_only (o ∷ olds) (n ∷ news) h =
      (subst (λ (es : List Entry). LosesOnly test es n) (sym h.0.whole) (without h.0.gone n h.0.passed), each_loses_only olds news h.1)

-- ---- a weaker test

all_weaker : (test other : Entry → Bool) → ((e : Entry) → test e ≡ true → other e ≡ true) → (es : List Entry) → AllByRecursion (λ e. test e ≡ true) es → AllByRecursion (λ e. other e ≡ true) es
all_weaker test other f [] h = tt
all_weaker test other f (e ∷ es) h = (f e h.0, all_weaker test other f es h.1)

pub each_first_weaker : (test other : Entry → Bool) → ((e : Entry) → test e ≡ true → other e ≡ true) → (olds news : List (List Entry)) → EachLosesFirst test olds news → EachLosesFirst other olds news
each_first_weaker test other f [] [] h = tt
each_first_weaker test other f [] (n ∷ news) h = absurd h
each_first_weaker test other f (o ∷ olds) [] h = absurd h
each_first_weaker test other f (o ∷ olds) (n ∷ news) h =
    (record { gone = h.0.gone; whole = h.0.whole; passed = all_weaker test other f h.0.gone h.0.passed }, each_first_weaker test other f olds news h.1)

-- ---- a seek

module _ (cmp : List ℕ → List ℕ → Ordering) (target : List ℕ) (Fits : Entry → Type 0) (test : Entry → Bool) (gone : (e : Entry) → Fits e → internal_cmp cmp e.key target ≡ Less → test e ≡ true) where
  pub leaves_sought : (es fs : List Entry) → AllByRecursion Fits es → LeavesFrom cmp target es fs → LosesOnly test es fs
  leaves_sought [] fs fit h = h
  leaves_sought (e ∷ es) fs fit h =
      ⊎_elim (λ off. inl (gone e fit.0 off.0, leaves_sought es fs fit.1 off.1)) (λ stays. inr (stays.0, (stays.1.0, leaves_sought es stays.0 fit.1 stays.1.1))) h

  pub leaves_from : (es : List Entry) → AllByRecursion Fits es → LosesOnly test es (entries_from cmp target es)
  leaves_from [] fit = refl
  leaves_from (e ∷ es) fit = by_test (is_lt (internal_cmp cmp e.key target)) refl (leaves_from es fit.1)
    where
      by_test : (b : Bool) → is_lt (internal_cmp cmp e.key target) ≡ b → LosesOnly test es (entries_from cmp target es) → LosesOnly test (e ∷ es) (cond b (entries_from cmp target es) (e ∷ es))
      by_test true is more = inl (gone e fit.0 (is_lt-true (internal_cmp cmp e.key target) is), more)
      by_test false is more = inr (es, (refl, leaves_all test es))

-- ---- a step

-- the number of entries that fail a test
fails : (Entry → Bool) → List Entry → ℕ
fails test [] = 0
fails test (e ∷ es) = cond (test e) 0 1 + fails test es

module _ (test : Entry → Bool) where
  fails-append : (xs ys : List Entry) → fails test (xs ++ ys) ≡ fails test xs + fails test ys
  unfolding fails
  fails-append [] ys = omega arith
  fails-append (x ∷ xs) ys = omega (arith, fails-append xs ys)

  fails-with : (cmp : List ℕ → List ℕ → Ordering) (e : Entry) (es : List Entry) → fails test (entries_with cmp e es) ≡ cond (test e) 0 1 + fails test es
  unfolding fails
  fails-with cmp e [] = refl
  fails-with cmp e (f ∷ fs) = by_test (is_lt (internal_cmp cmp f.key e.key)) (fails-with cmp e fs)
    where
      by_test : (b : Bool) → fails test (entries_with cmp e fs) ≡ cond (test e) 0 1 + fails test fs → fails test (cond b (f ∷ entries_with cmp e fs) (e ∷ (f ∷ fs))) ≡ cond (test e) 0 1 + (cond (test f) 0 1 + fails test fs)
      by_test true more = omega (arith, more)
      by_test false more = refl

  fails-sorted : (cmp : List ℕ → List ℕ → Ordering) (es : List Entry) → fails test (sorted_entries cmp es) ≡ fails test es
  unfolding fails
  fails-sorted cmp [] = refl
  fails-sorted cmp (e ∷ es) = fails-with cmp e (sorted_entries cmp es) ∙ ap (λ n. cond (test e) 0 1 + n) (fails-sorted cmp es)

  -- a list that loses its first entry
  fails-lost : (lists : List (List Entry)) (place : ℕ) (e : Entry) (es : List Entry) → slice_get lists place ≡ Some (e ∷ es) → fails test (entries_of_lists lists) ≡ cond (test e) 0 1 + fails test (entries_of_lists (set lists place es))
  unfolding fails
  fails-lost [] zero e es h = absurd (none-some (e ∷ es) h)
  fails-lost [] (suc place) e es h = absurd (none-some (e ∷ es) h)
  fails-lost (l ∷ ls) zero e es h = ap (λ (xs : List Entry). fails test (xs ++ entries_of_lists ls)) (same_Some l (e ∷ es) h)
  fails-lost (l ∷ ls) (suc place) e es h =
      omega (arith, fails-append l (entries_of_lists ls), fails-append l (entries_of_lists (set ls place es)), fails-lost ls place e es h)

  passed_by : (b : Bool) (m n : ℕ) → m ≡ cond b 0 1 + n → m ≡ n → b ≡ true
  passed_by true m n h k = refl
  passed_by false m n h k = absurd (omega (arith, h, k))

  -- the entry that is lost passes a test that the first of all passes
  first_passes : (cmp : List ℕ → List ℕ → Ordering) (lists : List (List Entry)) (place : ℕ) (e first : Entry) (es rest : List Entry) → slice_get lists place ≡ Some (e ∷ es) → merged cmp lists ≡ first ∷ rest → merged cmp (set lists place es) ≡ rest → test first ≡ true → test e ≡ true
  unfolding fails
  first_passes cmp lists place e first es rest at old new passes =
      let lost : fails test (entries_of_lists lists) ≡ cond (test e) 0 1 + fails test (entries_of_lists (set lists place es)) = fails-lost lists place e es at in
      let before : fails test (entries_of_lists lists) ≡ cond (test first) 0 1 + fails test rest = sym (fails-sorted cmp (entries_of_lists lists)) ∙ ap (fails test) old in
      let behind : fails test (entries_of_lists (set lists place es)) ≡ fails test rest = sym (fails-sorted cmp (entries_of_lists (set lists place es))) ∙ ap (fails test) new in
      passed_by (test e) (fails test (entries_of_lists lists)) (fails test (entries_of_lists (set lists place es))) lost (before ∙ ap (λ s. cond s 0 1 + fails test rest) passes ∙ (let z : 0 + fails test rest ≡ fails test rest = omega arith in z) ∙ sym behind)

  each_first_lost : (lists : List (List Entry)) (place : ℕ) (e : Entry) (es : List Entry) → slice_get lists place ≡ Some (e ∷ es) → test e ≡ true → EachLosesFirst test lists (set lists place es)
  each_first_lost [] zero e es h passes = absurd (none-some (e ∷ es) h)
  each_first_lost [] (suc place) e es h passes = absurd (none-some (e ∷ es) h)
  each_first_lost (l ∷ ls) zero e es h passes =
      (record { gone = e ∷ []; whole = same_Some l (e ∷ es) h; passed = (passes, tt) }, each_first_all test ls)
  each_first_lost (l ∷ ls) (suc place) e es h passes = (first_all test l, each_first_lost ls place e es h passes)

  stepped_by : (cmp : List ℕ → List ℕ → Ordering) (olds news : List (List Entry)) (all : List Entry) → merged cmp olds ≡ all → IsAdvanced cmp olds news → merged cmp news ≡ drop 1 all → first_is test all ≡ true → EachLosesFirst test olds news
  stepped_by cmp olds news [] whole is rest passes = absurd (false≢true passes)
  stepped_by cmp olds news (first ∷ all) whole is rest passes =
      let e : Entry = is.least.first in
      let es : List Entry = is.least.others in
      let test_of : test e ≡ true = first_passes cmp olds is.place e first es all is.least.here whole (ap (merged cmp) (sym is.lost) ∙ rest) passes in
      subst (EachLosesFirst test olds) (sym is.lost) (each_first_lost olds is.place e es is.least.here test_of)

  -- a step over an entry that passes the test
  pub stepped : (cmp : List ℕ → List ℕ → Ordering) (olds news : List (List Entry)) → IsAdvanced cmp olds news → merged cmp news ≡ drop 1 (merged cmp olds) → first_is test (merged cmp olds) ≡ true → EachLosesFirst test olds news
  stepped cmp olds news is rest passes = stepped_by cmp olds news (merged cmp olds) refl is rest passes

-- the first of one list is taken off
pub leaves_next : (test : Entry → Bool) (olds nows news : List Entry) → LosesOnly test olds nows → news ≡ drop 1 nows → first_is test nows ≡ true → LosesOnly test olds news
leaves_next test olds [] news h is passes = absurd (false≢true passes)
leaves_next test olds (e ∷ es) news h is passes = leaves_more test olds (e ∷ es) news h (subst (LosesOnly test (e ∷ es)) (sym is) (inl (passes, leaves_all test es)))

-- ---- what holds of all that is merged

all_with_back : (P : Entry → Type 0) (cmp : List ℕ → List ℕ → Ordering) (e : Entry) (es : List Entry) → AllByRecursion P (entries_with cmp e es) → P e × AllByRecursion P es
all_with_back P cmp e [] h = (h.0, tt)
all_with_back P cmp e (f ∷ fs) h = by_test (is_lt (internal_cmp cmp f.key e.key)) (all_with_back P cmp e fs) h
  where
    by_test : (b : Bool) → (AllByRecursion P (entries_with cmp e fs) → P e × AllByRecursion P fs) → AllByRecursion P (cond b (f ∷ entries_with cmp e fs) (e ∷ (f ∷ fs))) → P e × AllByRecursion P (f ∷ fs)
    by_test true more h = let both = more h.1 in (both.0, (h.0, both.1))
    by_test false more h = (h.0, h.1)

all_sorted_back : (P : Entry → Type 0) (cmp : List ℕ → List ℕ → Ordering) (es : List Entry) → AllByRecursion P (sorted_entries cmp es) → AllByRecursion P es
all_sorted_back P cmp [] h = tt
all_sorted_back P cmp (e ∷ es) h = let both = all_with_back P cmp e (sorted_entries cmp es) h in (both.0, all_sorted_back P cmp es both.1)

all_joined_back : (P : Entry → Type 0) (lists : List (List Entry)) → AllByRecursion P (entries_of_lists lists) → AllByRecursion (λ list. AllByRecursion P list) lists
all_joined_back P [] h = tt
all_joined_back P (l ∷ ls) h = let both = all_split P l (entries_of_lists ls) h in (both.0, all_joined_back P ls both.1)

pub all_merged_back : (P : Entry → Type 0) (cmp : List ℕ → List ℕ → Ordering) (lists : List (List Entry)) → AllByRecursion P (merged cmp lists) → AllByRecursion (λ list. AllByRecursion P list) lists
all_merged_back P cmp lists h = all_joined_back P lists (all_sorted_back P cmp (entries_of_lists lists) h)
