-- The ranges of a split compose.
use Rattle.std.proofs.Common.{◌≡◌, ℕ, zero, suc, ◌+◌, ◌≤◌, Bool, true, false, List, [], ◌∷◌, ◌++◌, length, map, refl, sym, ap, subst, ◌∙◌, append_assoc, append-nil, arith}
use Rattle.std.specs.Prelude.{nat_le, nat_eq, ◌&&◌, ◌||◌, not, if◌then◌else◌, cond, filter, flat_map, Option, Some, None, Contains, slice_get}
use Rattle.std.specs.List.{list_any, list_all, AllByRecursion}
use Rattle.std.specs.Option.{option_map_or}
use Rattle.std.specs.Ordering.{is_lt, is_le, ordering_then, nat_cmp}
use Rattle.std.specs.Cmp.{IsTotalOrder}
use Rattle.std.specs.declared.cmp.Ordering.{Ordering}
use Rattle.std.specs.declared.cmp.Ordering.TheVariants.{Less, Equal, Greater}
use Rattle.std.proofs.lemmas.Bool.{eqb-true, both_ways, not-true, false≢true}
use Rattle.std.proofs.lemmas.Cmp.{alike_right, tied_itself}
use Rattle.std.proofs.lemmas.Slice.Eq.{bytes_eq-Decides}
use Rattle.ikey.specs.Key.{user_of, sequence_of, kind_of, kind_number}
use Rattle.ikey.specs.Order.{internal_cmp}
use Rattle.reads.specs.EncodedEntry.{Entry}
use Rattle.reads.specs.EntriesFrom.{NeverFalls}
use Rattle.merge.specs.Union.{VersionsRise}
use Rattle.split.specs.Boundaries.{KeysRise}
use Rattle.split.specs.Ranges.{KeyRange, range_at}
use Rattle.merge.specs.MergedLists.{entries_of_lists, merged}
use Rattle.merge.proofs.SortedEntries.{sorted_never_falls}
use Rattle.reads.proofs.Members.{first_in, later_in}
use Rattle.reads.proofs.Pairs.{Pairs, pairs_from}
use Rattle.keep.specs.DropRule.{is_same_user, is_snapshot_between, is_obsolete, keeps, kept_after, kept}
use Rattle.merge.specs.InRange.{is_in_range, entries_in}
use Rattle.keep.specs.declared.mark.Mark.{Mark}
use Rattle.keep.specs.Marks.{CompactionContext, grandparents_below, is_first, heads_after, heads, changes_after, changes, marks}
use Rattle.keep.specs.Runs.{run_of, is_same_version, are_distinct, moved_mark, joined_marks, ranges_from, RangesCompose, KeptInRangeLaw}

-- ---- filters

filter_all : (p : Entry → Bool) (xs : List Entry) → AllByRecursion (λ e. p e ≡ true) xs → filter p xs ≡ xs
filter_all p [] h = refl
filter_all p (x ∷ xs) h = rw h.0 (ap (λ ys. x ∷ ys) (filter_all p xs h.1))

filter_none : (p : Entry → Bool) (xs : List Entry) → AllByRecursion (λ e. p e ≡ false) xs → filter p xs ≡ []
filter_none p [] h = refl
filter_none p (x ∷ xs) h = rw h.0 (filter_none p xs h.1)

filter_same : (p q : Entry → Bool) (xs : List Entry) → AllByRecursion (λ e. p e ≡ q e) xs → filter p xs ≡ filter q xs
filter_same p q [] h = refl
filter_same p q (x ∷ xs) h = ap (λ b. cond b (x ∷ filter p xs) (filter p xs)) h.0 ∙ ap (λ ys. cond (q x) (x ∷ ys) ys) (filter_same p q xs h.1)

filter_passes : (p : Entry → Bool) (xs : List Entry) → AllByRecursion (λ e. p e ≡ true) (filter p xs)
filter_passes p [] = tt
filter_passes p (x ∷ xs) = by (p x) refl (filter_passes p xs)
  where
    by : (b : Bool) → p x ≡ b → AllByRecursion (λ e. p e ≡ true) (filter p xs) → AllByRecursion (λ e. p e ≡ true) (cond b (x ∷ filter p xs) (filter p xs))
    by true e rest = (e, rest)
    by false e rest = rest

filter_of : (p q : Entry → Bool) (xs : List Entry) → ((e : Entry) → p e ≡ true → q e ≡ true) → filter p xs ≡ filter p (filter q xs)
filter_of p q [] h = refl
filter_of p q (x ∷ xs) h = by (p x) (q x) refl refl (filter_of p q xs h)
  where
    by : (a b : Bool) → p x ≡ a → q x ≡ b → filter p xs ≡ filter p (filter q xs) → cond (p x) (x ∷ filter p xs) (filter p xs) ≡ filter p (cond b (x ∷ filter q xs) (filter q xs))
    by a true e f same = ap (λ ys. cond (p x) (x ∷ ys) ys) same
    by true false e f same = absurd (both_ways (q x) f (h x e))
    by false false e f same = rw e same

all_filter : (P : Entry → Type 0) (p : Entry → Bool) (xs : List Entry) → AllByRecursion P xs → AllByRecursion P (filter p xs)
all_filter P p [] h = tt
all_filter P p (x ∷ xs) h = by (p x) (all_filter P p xs h.1)
  where
    by : (b : Bool) → AllByRecursion P (filter p xs) → AllByRecursion P (cond b (x ∷ filter p xs) (filter p xs))
    by true rest = (h.0, rest)
    by false rest = rest

all_map : (P Q : Entry → Type 0) (xs : List Entry) → ((e : Entry) → P e → Q e) → AllByRecursion P xs → AllByRecursion Q xs
all_map P Q [] f h = tt
all_map P Q (x ∷ xs) f h = (f x h.0, all_map P Q xs f h.1)

pub all_any : (P : Entry → Type 0) (xs : List Entry) → ((e : Entry) → P e) → AllByRecursion P xs
all_any P [] f = tt
all_any P (x ∷ xs) f = (f x, all_any P xs f)

all_keys : (P : List ℕ → Type 0) (xs : List (List ℕ)) → ((k : List ℕ) → Contains xs k → P k) → AllByRecursion P xs
all_keys P [] f = tt
all_keys P (x ∷ xs) f = (f x (first_in x xs), all_keys P xs (λ k at. f k (later_in x xs k at)))

-- ---- marks

abbrev pub ch : Option ℕ → List Mark → List Mark
ch None ms = changes ms
ch (Some c) ms = changes_after c ms

-- the number of the last mark
abbrev last : Option ℕ → List Mark → Option ℕ
last c [] = c
last c (m ∷ ms) = last (Some m.below) ms

behind_append_by : (c : ℕ) (m : Mark) (xs ys : List Mark) (same : Bool) → nat_eq m.below c ≡ same
    → ((d : ℕ) → changes_after d (xs ++ ys) ≡ changes_after d xs ++ ch (last (Some d) xs) ys)
    → (if same then changes_after c (xs ++ ys) else m ∷ changes_after m.below (xs ++ ys))
    ≡ (if same then changes_after c xs else m ∷ changes_after m.below xs) ++ ch (last (Some m.below) xs) ys
behind_append_by c m xs ys true e ih = ih c ∙ ap (λ d. changes_after c xs ++ ch (last (Some d) xs) ys) (sym (eqb-true m.below c e))
behind_append_by c m xs ys false e ih = ap (λ zs. m ∷ zs) (ih m.below)

behind_append : (xs ys : List Mark) (c : ℕ) → changes_after c (xs ++ ys) ≡ changes_after c xs ++ ch (last (Some c) xs) ys
behind_append [] ys c = refl
behind_append (m ∷ xs) ys c = behind_append_by c m xs ys (nat_eq m.below c) refl (behind_append xs ys)

ch_append : (c : Option ℕ) (xs ys : List Mark) → ch c (xs ++ ys) ≡ ch c xs ++ ch (last c xs) ys
ch_append None [] ys = refl
ch_append None (m ∷ xs) ys = ap (λ zs. m ∷ zs) (behind_append xs ys m.below)
ch_append (Some c) xs ys = behind_append xs ys c

again_by : (c : ℕ) (m : Mark) (xs : List Mark) (same : Bool) → nat_eq m.below c ≡ same
    → ((d : ℕ) → changes_after d (changes_after d xs) ≡ changes_after d xs)
    → changes_after c (if same then changes_after c xs else m ∷ changes_after m.below xs) ≡ (if same then changes_after c xs else m ∷ changes_after m.below xs)
again_by c m xs true e ih = ih c
again_by c m xs false e ih = rw e (ap (λ zs. m ∷ zs) (ih m.below))

behind_again : (xs : List Mark) (c : ℕ) → changes_after c (changes_after c xs) ≡ changes_after c xs
behind_again [] c = refl
behind_again (m ∷ xs) c = again_by c m xs (nat_eq m.below c) refl (behind_again xs)

first_again_by : (c : ℕ) (m : Mark) (xs : List Mark) (same : Bool) → nat_eq m.below c ≡ same
    → (if same then changes_after c (changes_after m.below xs) else m ∷ changes_after m.below (changes_after m.below xs))
    ≡ (if same then changes_after c xs else m ∷ changes_after m.below xs)
first_again_by c m xs true e = ap (λ d. changes_after c (changes_after d xs)) (eqb-true m.below c e) ∙ behind_again xs c
first_again_by c m xs false e = ap (λ zs. m ∷ zs) (behind_again xs m.below)

ch_again : (c : Option ℕ) (xs : List Mark) → ch c (changes xs) ≡ ch c xs
ch_again None [] = refl
ch_again None (m ∷ xs) = ap (λ zs. m ∷ zs) (behind_again xs m.below)
ch_again (Some c) [] = refl
ch_again (Some c) (m ∷ xs) = first_again_by c m xs (nat_eq m.below c) refl

last_by : (c : ℕ) (m : Mark) (xs : List Mark) (same : Bool) → nat_eq m.below c ≡ same
    → ((d : ℕ) → last (Some d) (changes_after d xs) ≡ last (Some d) xs)
    → last (Some c) (if same then changes_after c xs else m ∷ changes_after m.below xs) ≡ last (Some m.below) xs
last_by c m xs true e ih = ih c ∙ ap (λ d. last (Some d) xs) (sym (eqb-true m.below c e))
last_by c m xs false e ih = ih m.below

last_behind : (xs : List Mark) (c : ℕ) → last (Some c) (changes_after c xs) ≡ last (Some c) xs
last_behind [] c = refl
last_behind (m ∷ xs) c = last_by c m xs (nat_eq m.below c) refl (last_behind xs)

last_changes : (c : Option ℕ) (xs : List Mark) → last c (changes xs) ≡ last c xs
last_changes c [] = refl
last_changes c (m ∷ xs) = last_behind xs m.below

moved_by : (n c : ℕ) (m : Mark) (xs : List Mark) (same : Bool)
    → ((d : ℕ) → map (moved_mark n) (changes_after d xs) ≡ changes_after d (map (moved_mark n) xs))
    → map (moved_mark n) (if same then changes_after c xs else m ∷ changes_after m.below xs)
    ≡ (if same then changes_after c (map (moved_mark n) xs) else moved_mark n m ∷ changes_after m.below (map (moved_mark n) xs))
moved_by n c m xs true ih = ih c
moved_by n c m xs false ih = ap (λ zs. moved_mark n m ∷ zs) (ih m.below)

moved_behind : (n : ℕ) (xs : List Mark) (c : ℕ) → map (moved_mark n) (changes_after c xs) ≡ changes_after c (map (moved_mark n) xs)
moved_behind n [] c = refl
moved_behind n (m ∷ xs) c = moved_by n c m xs (nat_eq m.below c) (moved_behind n xs)

moved_changes : (n : ℕ) (xs : List Mark) → map (moved_mark n) (changes xs) ≡ changes (map (moved_mark n) xs)
moved_changes n [] = refl
moved_changes n (m ∷ xs) = ap (λ zs. moved_mark n m ∷ zs) (moved_behind n xs m.below)

-- ---- entries apart

-- none of the entries has the user key of this one
abbrev Fresh : List Entry → Entry → Type 0
Fresh ys e = AllByRecursion (λ f. is_same_user e f ≡ false) ys

abbrev FreshAfter : Option Entry → List Entry → Type 0
FreshAfter None ys = Unit {0}
FreshAfter (Some p) ys = Fresh ys p

module _ (cmp : List ℕ → List ℕ → Ordering) (b : CompactionContext) where
  abbrev keep : Option Entry → Entry → Bool
  keep before e = keeps cmp b.readable b.deeper before e

  abbrev kb : Option Entry → List Entry → List Entry
  kb before es = kept_after cmp b.readable b.deeper before es

  abbrev hb : Option Entry → ℕ → List Entry → List Mark
  hb before n es = heads_after cmp b before n es

  keep_fresh : (p y : Entry) → is_same_user p y ≡ false → keep (Some p) y ≡ keep None y
  keep_fresh p y h =
      ap (λ s. not ((s && nat_le (sequence_of p.key) b.readable.floor) && not (list_any (is_snapshot_between p y) b.readable.listed)) && not (is_obsolete cmp b.readable b.deeper y)) h

  kept_fresh : (before : Option Entry) (ys : List Entry) → FreshAfter before ys → kb before ys ≡ kb None ys
  kept_fresh None ys h = refl
  kept_fresh (Some p) [] h = refl
  kept_fresh (Some p) (y ∷ ys) h = ap (λ k. (if k then y ∷ [] else []) ++ kb (Some y) ys) (keep_fresh p y h.0)

  kept_append : (before : Option Entry) (xs ys : List Entry) → FreshAfter before ys → AllByRecursion (Fresh ys) xs → kb before (xs ++ ys) ≡ kb before xs ++ kb None ys
  kept_append before [] ys h k = kept_fresh before ys h
  kept_append before (x ∷ xs) ys h k =
      let own = if keep before x then x ∷ [] else [] in
      ap (λ zs. own ++ zs) (kept_append (Some x) xs ys k.0 k.1) ∙ sym (append_assoc own (kb (Some x) xs) (kb None ys))

  heads_fresh : (before : Option Entry) (n : ℕ) (ys : List Entry) → FreshAfter before ys → hb before n ys ≡ hb None n ys
  heads_fresh None n ys h = refl
  heads_fresh (Some p) n [] h = refl
  heads_fresh (Some p) n (y ∷ ys) h =
      let m : Mark = record { below = grandparents_below cmp b.grandparents y.key; kept = n } in
      ap (λ s. (if not s then m ∷ [] else []) ++ hb (Some y) (if keep (Some p) y then n + 1 else n) ys) h.0
      ∙ ap (λ k. m ∷ hb (Some y) (if k then n + 1 else n) ys) (keep_fresh p y h.0)

  counted : (k : Bool) (n : ℕ) (x : Entry) (xs : List Entry) → (if k then n + 1 else n) + length xs ≡ n + length ((if k then x ∷ [] else []) ++ xs)
  counted true n x xs = omega arith
  counted false n x xs = refl

  heads_append : (before : Option Entry) (n : ℕ) (xs ys : List Entry) → FreshAfter before ys → AllByRecursion (Fresh ys) xs
      → hb before n (xs ++ ys) ≡ hb before n xs ++ hb None (n + length (kb before xs)) ys
  heads_append before n [] ys h k = heads_fresh before n ys h ∙ (let e : n ≡ n + 0 = omega arith in ap (λ i. hb None i ys) e)
  heads_append before n (x ∷ xs) ys h k =
      let own : List Mark = if is_first before x then record { below = grandparents_below cmp b.grandparents x.key; kept = n } ∷ [] else [] in
      let next = if keep before x then n + 1 else n in
      ap (λ zs. own ++ zs) (heads_append (Some x) next xs ys k.0 k.1)
      ∙ ap (λ i. own ++ (hb (Some x) next xs ++ hb None i ys)) (counted (keep before x) n x (kb (Some x) xs))
      ∙ sym (append_assoc own (hb (Some x) next xs) (hb None (n + length (kb before (x ∷ xs))) ys))

  heads_moved_by : (n k g : ℕ) (x : Entry) (xs : List Entry) (first keeping : Bool) → ((i : ℕ) → hb (Some x) (n + i) xs ≡ map (moved_mark n) (hb (Some x) i xs))
      → (if first then record { below = g; kept = n + k } ∷ [] else []) ++ hb (Some x) (if keeping then n + k + 1 else n + k) xs
      ≡ map (moved_mark n) ((if first then record { below = g; kept = k } ∷ [] else []) ++ hb (Some x) (if keeping then k + 1 else k) xs)
  heads_moved_by n k g x xs true true ih = ap (λ zs. record { below = g; kept = n + k } ∷ zs) ((let e : n + k + 1 ≡ n + (k + 1) = omega arith in ap (λ i. hb (Some x) i xs) e) ∙ ih (k + 1))
  heads_moved_by n k g x xs true false ih = ap (λ zs. record { below = g; kept = n + k } ∷ zs) (ih k)
  heads_moved_by n k g x xs false true ih = (let e : n + k + 1 ≡ n + (k + 1) = omega arith in ap (λ i. hb (Some x) i xs) e) ∙ ih (k + 1)
  heads_moved_by n k g x xs false false ih = ih k

  heads_moved : (n : ℕ) (before : Option Entry) (xs : List Entry) (k : ℕ) → hb before (n + k) xs ≡ map (moved_mark n) (hb before k xs)
  heads_moved n before [] k = refl
  heads_moved n before (x ∷ xs) k = heads_moved_by n k (grandparents_below cmp b.grandparents x.key) x xs (is_first before x) (keep before x) (heads_moved n (Some x) xs)

  marks_at : (n : ℕ) (xs : List Entry) → map (moved_mark n) (marks cmp b xs) ≡ changes (hb None n xs)
  marks_at n xs = moved_changes n (heads cmp b xs) ∙ ap changes (sym (heads_moved n None xs 0)) ∙ (let e : n + 0 ≡ n = omega arith in ap (λ i. changes (hb None i xs)) e)

-- ---- ranges

module _ (cmp : List ℕ → List ℕ → Ordering) (total : IsTotalOrder cmp) where
  less_of : (o : Ordering) → is_lt o ≡ true → o ≡ Less
  less_of Less h = refl
  less_of Equal h = absurd (false≢true h)
  less_of Greater h = absurd (false≢true h)

  below_by : (x y z : List ℕ) (o : Ordering) → cmp x y ≡ o → is_le o ≡ true → cmp y z ≡ Less → cmp x z ≡ Less
  below_by x y z Less e h l = total.trans x y z e l
  below_by x y z Equal e h l = total.congr x y z e ∙ l
  below_by x y z Greater e h l = absurd (false≢true h)

  above_by : (x y z : List ℕ) (o : Ordering) → cmp y z ≡ o → is_le o ≡ true → cmp x y ≡ Less → cmp x z ≡ Less
  above_by x y z Less e h l = total.trans x y z l e
  above_by x y z Equal e h l = sym (alike_right total y z x e) ∙ l
  above_by x y z Greater e h l = absurd (false≢true h)

  unless : (s t : Bool) → (s ≡ true → t ≡ true) → t ≡ false → s ≡ false
  unless true t f h = absurd (both_ways t h (f refl))
  unless false t f h = refl

  abbrev is_before : List ℕ → Entry → Bool
  is_before k e = is_lt (cmp (user_of e.key) k)

  abbrev is_behind : List ℕ → Entry → Bool
  is_behind k e = not (is_lt (cmp (user_of e.key) k))

  -- user keys never fall
  abbrev NeverFall : List Entry → Type 0
  NeverFall [] = Unit {0}
  NeverFall (e ∷ es) = AllByRecursion (λ f. is_le (cmp (user_of e.key) (user_of f.key)) ≡ true) es × NeverFall es

  never_filter : (p : Entry → Bool) (xs : List Entry) → NeverFall xs → NeverFall (filter p xs)
  never_filter p [] h = tt
  never_filter p (x ∷ xs) h = by (p x) (never_filter p xs h.1)
    where
      by : (k : Bool) → NeverFall (filter p xs) → NeverFall (cond k (x ∷ filter p xs) (filter p xs))
      by true rest = (all_filter (λ f. is_le (cmp (user_of x.key) (user_of f.key)) ≡ true) p xs h.0, rest)
      by false rest = rest

  stays_behind : (k : List ℕ) (e f : Entry) → is_before k e ≡ false → is_le (cmp (user_of e.key) (user_of f.key)) ≡ true → is_before k f ≡ false
  stays_behind k e f h le =
      unless (is_before k f) (is_before k e)
      (λ l. ap is_lt (below_by (user_of e.key) (user_of f.key) k (cmp (user_of e.key) (user_of f.key)) refl le (less_of (cmp (user_of f.key) k) l))) h

  low_then_high : (k : List ℕ) (xs : List Entry) → NeverFall xs → xs ≡ filter (is_before k) xs ++ filter (is_behind k) xs
  low_then_high k [] h = refl
  low_then_high k (x ∷ xs) h = by (is_before k x) refl (low_then_high k xs h.1)
    where
      by : (s : Bool) → is_before k x ≡ s → xs ≡ filter (is_before k) xs ++ filter (is_behind k) xs → x ∷ xs ≡ cond s (x ∷ filter (is_before k) xs) (filter (is_before k) xs) ++ cond (not s) (x ∷ filter (is_behind k) xs) (filter (is_behind k) xs)
      by true e rest = ap (λ zs. x ∷ zs) rest
      by false e rest =
          let behind : AllByRecursion (λ f. is_before k f ≡ false) xs = all_map (λ f. is_le (cmp (user_of x.key) (user_of f.key)) ≡ true) (λ f. is_before k f ≡ false) xs (λ f le. stays_behind k x f e le) h.0 in
          sym (ap (λ zs. zs ++ x ∷ filter (is_behind k) xs) (filter_none (is_before k) xs behind)
          ∙ ap (λ zs. x ∷ zs) (filter_all (is_behind k) xs (all_map (λ f. is_before k f ≡ false) (λ f. is_behind k f ≡ true) xs (λ f g. ap not g) behind)))

  -- entries before a boundary and entries after it are of different user keys
  different : (k : List ℕ) (e f : Entry) → is_before k e ≡ true → is_behind k f ≡ true → is_same_user e f ≡ false
  different k e f h g =
      unless (is_same_user e f) (is_before k f)
      (λ same. subst (λ (u : List ℕ). is_lt (cmp u k) ≡ true) ((bytes_eq-Decides (user_of e.key) (user_of f.key)).0 same) h)
      (not-true (is_before k f) g)

  low_fresh : (k : List ℕ) (xs : List Entry) → AllByRecursion (Fresh (filter (is_behind k) xs)) (filter (is_before k) xs)
  low_fresh k xs =
      all_map (λ e. is_before k e ≡ true) (Fresh (filter (is_behind k) xs)) (filter (is_before k) xs)
      (λ e h. all_map (λ f. is_behind k f ≡ true) (λ f. is_same_user e f ≡ false) (filter (is_behind k) xs) (λ f g. different k e f h g) (filter_passes (is_behind k) xs))
      (filter_passes (is_before k) xs)

  -- the entries of each range, one range after the other
  abbrev parts : List (List ℕ) → List Entry → List (List Entry)
  parts [] xs = xs ∷ []
  parts (k ∷ ks) xs = filter (is_before k) xs ∷ parts ks (filter (is_behind k) xs)

  abbrev Rises : List (List ℕ) → Type 0
  Rises [] = Unit {0}
  Rises (k ∷ ks) = AllByRecursion (λ l. cmp k l ≡ Less) ks × Rises ks

  rises_from : (ks : List (List ℕ)) → Pairs (λ key later. cmp key later ≡ Less) ks → Rises ks
  rises_from [] h = tt
  rises_from (k ∷ ks) h = (all_keys (λ l. cmp k l ≡ Less) ks h.0, rises_from ks h.1)

  abbrev lower_test : Option (List ℕ) → Entry → Bool
  lower_test lower e = option_map_or (λ l. not (is_lt (cmp (user_of e.key) l))) lower true

  held_behind : (k c : List ℕ) (upper : Option (List ℕ)) (e : Entry) → is_le (cmp k c) ≡ true → is_in_range cmp (record { lower = Some c; upper = upper }) (user_of e.key) ≡ true → is_behind k e ≡ true
  held_behind k c upper e le h =
      ap not (unless (is_before k e) (is_before c e)
      (λ l. ap is_lt (above_by (user_of e.key) k c (cmp k c) refl le (less_of (cmp (user_of e.key) k) l)))
      (not-true (is_before c e) (first_of_both (not (is_before c e)) (option_map_or (λ u. is_lt (cmp (user_of e.key) u)) upper true) h)))
    where
      first_of_both : (s t : Bool) → (s && t) ≡ true → s ≡ true
      first_of_both true t h = refl
      first_of_both false t h = h

  -- ranges after a boundary hold what they hold of the entries after it
  behind_alone : (k c : List ℕ) (ks : List (List ℕ)) (xs : List Entry) → is_le (cmp k c) ≡ true → AllByRecursion (λ l. cmp k l ≡ Less) ks
      → map (λ range. entries_in cmp range xs) (ranges_from (Some c) ks) ≡ map (λ range. entries_in cmp range (filter (is_behind k) xs)) (ranges_from (Some c) ks)
  behind_alone k c [] xs le h =
      ap (λ zs. zs ∷ []) (filter_of (λ e. is_in_range cmp (record { lower = Some c; upper = None }) (user_of e.key)) (is_behind k) xs (λ e. held_behind k c None e le))
  behind_alone k c (l ∷ ks) xs le h =
      ap (λ zs. zs ∷ map (λ range. entries_in cmp range xs) (ranges_from (Some l) ks)) (filter_of (λ e. is_in_range cmp (record { lower = Some c; upper = Some l }) (user_of e.key)) (is_behind k) xs (λ e. held_behind k c (Some l) e le))
      ∙ ap (λ zs. entries_in cmp (record { lower = Some c; upper = Some l }) (filter (is_behind k) xs) ∷ zs) (behind_alone k l ks xs (ap is_le h.0) h.1)

  range_parts : (lower : Option (List ℕ)) (ks : List (List ℕ)) (xs : List Entry) → Rises ks → AllByRecursion (λ e. lower_test lower e ≡ true) xs
      → map (λ range. entries_in cmp range xs) (ranges_from lower ks) ≡ parts ks xs
  range_parts lower [] xs rises h =
      ap (λ zs. zs ∷ []) (filter_all (λ e. is_in_range cmp (record { lower = lower; upper = None }) (user_of e.key)) xs (all_map (λ e. lower_test lower e ≡ true) (λ e. (lower_test lower e && true) ≡ true) xs (λ e g. ap (λ s. s && true) g) h))
  range_parts lower (k ∷ ks) xs rises h =
      ap (λ zs. zs ∷ map (λ range. entries_in cmp range xs) (ranges_from (Some k) ks))
      (filter_same (λ e. is_in_range cmp (record { lower = lower; upper = Some k }) (user_of e.key)) (is_before k) xs (all_map (λ e. lower_test lower e ≡ true) (λ e. (lower_test lower e && is_before k e) ≡ is_before k e) xs (λ e g. ap (λ s. s && is_before k e) g) h))
      ∙ ap (λ zs. filter (is_before k) xs ∷ zs) (behind_alone k k ks xs (ap is_le (tied_itself total k)) rises.0 ∙ range_parts (Some k) ks (filter (is_behind k) xs) rises.1 (filter_passes (is_behind k) xs))

  module _ (b : CompactionContext) where
    kept_parts : (ks : List (List ℕ)) (xs : List Entry) → NeverFall xs → flat_map (λ r. r.kept) (map (run_of cmp b) (parts ks xs)) ≡ kb cmp b None xs
    kept_parts [] xs h = append-nil (kb cmp b None xs)
    kept_parts (k ∷ ks) xs h =
        ap (λ zs. kb cmp b None (filter (is_before k) xs) ++ zs) (kept_parts ks (filter (is_behind k) xs) (never_filter (is_behind k) xs h))
        ∙ sym (kept_append cmp b None (filter (is_before k) xs) (filter (is_behind k) xs) tt (low_fresh k xs))
        ∙ ap (kb cmp b None) (sym (low_then_high k xs h))

    marks_parts : (ks : List (List ℕ)) (c : Option ℕ) (n : ℕ) (xs : List Entry) → NeverFall xs → ch c (joined_marks n (map (run_of cmp b) (parts ks xs))) ≡ ch c (hb cmp b None n xs)
    marks_parts [] c n xs h =
        ap (ch c) (append-nil (map (moved_mark n) (marks cmp b xs)) ∙ marks_at cmp b n xs) ∙ ch_again c (hb cmp b None n xs)
    marks_parts (k ∷ ks) c n xs h =
        let low = filter (is_before k) xs in
        let high = filter (is_behind k) xs in
        let count = length (kb cmp b None low) in
        let rest = joined_marks (n + count) (map (run_of cmp b) (parts ks high)) in
        let own = hb cmp b None n low in
        ap (λ zs. ch c (zs ++ rest)) (marks_at cmp b n low)
        ∙ ch_append c (changes own) rest
        ∙ ap (λ zs. zs ++ ch (last c (changes own)) rest) (ch_again c own)
        ∙ ap (λ d. ch c own ++ ch d rest) (last_changes c own)
        ∙ ap (λ zs. ch c own ++ zs) (marks_parts ks (last c own) (n + count) high (never_filter (is_behind k) xs h))
        ∙ sym (ch_append c own (hb cmp b None (n + count) high))
        ∙ ap (ch c) (sym (heads_append cmp b None n low high tt (low_fresh k xs)) ∙ ap (hb cmp b None n) (sym (low_then_high k xs h)))

  -- ---- what the law asks

  first_by : (o p : Ordering) → is_le (ordering_then o p) ≡ true → is_le o ≡ true
  first_by Less p h = refl
  first_by Equal p h = refl
  first_by Greater p h = h

  versions_never : (xs : List Entry) → VersionsRise cmp xs → NeverFall xs
  versions_never [] h = tt
  versions_never (x ∷ xs) h = (
    all_map (λ f. ordering_then (cmp (user_of x.key) (user_of f.key)) (nat_cmp (sequence_of f.key) (sequence_of x.key)) ≡ Less) (λ f. is_le (cmp (user_of x.key) (user_of f.key)) ≡ true) xs
        (λ f e. first_by (cmp (user_of x.key) (user_of f.key)) (nat_cmp (sequence_of f.key) (sequence_of x.key)) (ap is_le e)) h.0,
    versions_never xs h.1,
  )

  pub kept_compose : (b : CompactionContext) (ks : List (List ℕ)) (xs : List Entry) → KeysRise cmp ks → VersionsRise cmp xs
      → flat_map (λ r. r.kept) (map (run_of cmp b) (map (λ range. entries_in cmp range xs) (ranges_from None ks))) ≡ kept cmp b.readable b.deeper xs
  kept_compose b ks xs rising h =
      ap (λ ps. flat_map (λ r. r.kept) (map (run_of cmp b) ps)) (range_parts None ks xs (rises_from ks (pairs_from (λ key later. cmp key later ≡ Less) ks rising)) (all_any (λ e. lower_test None e ≡ true) xs (λ e. refl)))
      ∙ kept_parts b ks xs (versions_never xs h)

  pub marks_compose : (b : CompactionContext) (ks : List (List ℕ)) (xs : List Entry) → KeysRise cmp ks → VersionsRise cmp xs
      → changes (joined_marks 0 (map (run_of cmp b) (map (λ range. entries_in cmp range xs) (ranges_from None ks)))) ≡ marks cmp b xs
  marks_compose b ks xs rising h =
      ap (λ ps. changes (joined_marks 0 (map (run_of cmp b) ps))) (range_parts None ks xs (rises_from ks (pairs_from (λ key later. cmp key later ≡ Less) ks rising)) (all_any (λ e. lower_test None e ≡ true) xs (λ e. refl)))
      ∙ marks_parts b ks None 0 xs (versions_never xs h)

-- ---- one user key and sequence twice

any_fresh : (x : Entry) (ys : List Entry) → Fresh ys x → list_any (is_same_version x) ys ≡ false
any_fresh x [] h = refl
any_fresh x (y ∷ ys) h = ap (λ s. (s && nat_eq (sequence_of x.key) (sequence_of y.key)) || list_any (is_same_version x) ys) h.0 ∙ any_fresh x ys h.1

any_append : (x : Entry) (xs ys : List Entry) → Fresh ys x → list_any (is_same_version x) (xs ++ ys) ≡ list_any (is_same_version x) xs
any_append x [] ys h = any_fresh x ys h
any_append x (z ∷ xs) ys h = ap (λ t. is_same_version x z || t) (any_append x xs ys h)

and_assoc : (a b c : Bool) → (a && (b && c)) ≡ ((a && b) && c)
and_assoc true b c = refl
and_assoc false b c = refl

and_right_true : (a : Bool) → (a && true) ≡ a
and_right_true true = refl
and_right_true false = refl

distinct_append : (xs ys : List Entry) → AllByRecursion (Fresh ys) xs → are_distinct (xs ++ ys) ≡ (are_distinct xs && are_distinct ys)
distinct_append [] ys h = refl
distinct_append (x ∷ xs) ys h =
    ap (λ t. not t && are_distinct (xs ++ ys)) (any_append x xs ys h.0)
    ∙ ap (λ t. not (list_any (is_same_version x) xs) && t) (distinct_append xs ys h.1)
    ∙ and_assoc (not (list_any (is_same_version x) xs)) (are_distinct xs) (are_distinct ys)

module _ (cmp : List ℕ → List ℕ → Ordering) (total : IsTotalOrder cmp) where
  distinct_parts : (ks : List (List ℕ)) (xs : List Entry) → NeverFall cmp total xs → list_all are_distinct (parts cmp total ks xs) ≡ are_distinct xs
  distinct_parts [] xs h = and_right_true (are_distinct xs)
  distinct_parts (k ∷ ks) xs h =
      let low = filter (is_before cmp total k) xs in
      let high = filter (is_behind cmp total k) xs in
      ap (λ t. are_distinct low && t) (distinct_parts ks high (never_filter cmp total (is_behind cmp total k) xs h))
      ∙ sym (distinct_append low high (low_fresh cmp total k xs))
      ∙ ap are_distinct (sym (low_then_high cmp total k xs h))

  users_of : (a b : List ℕ) → is_le (internal_cmp cmp a b) ≡ true → is_le (cmp (user_of a) (user_of b)) ≡ true
  unfolding internal_cmp
  users_of a b h = first_by cmp total (cmp (user_of a) (user_of b)) (ordering_then (nat_cmp (sequence_of b) (sequence_of a)) (nat_cmp (kind_number (kind_of b)) (kind_number (kind_of a)))) h

  merge_never : (xs : List Entry) → NeverFalls cmp xs → NeverFall cmp total xs
  merge_never [] h = tt
  merge_never (x ∷ xs) h =
      (all_map (λ f. is_le (internal_cmp cmp x.key f.key) ≡ true) (λ f. is_le (cmp (user_of x.key) (user_of f.key)) ≡ true) xs (λ f. users_of x.key f.key) h.0, merge_never xs h.1)

  distinct_compose : (ks : List (List ℕ)) (xs : List Entry) → KeysRise cmp ks → NeverFalls cmp xs
      → list_all are_distinct (map (λ range. entries_in cmp range xs) (ranges_from None ks)) ≡ are_distinct xs
  distinct_compose ks xs rising h =
      ap (list_all are_distinct) (range_parts cmp total None ks xs (rises_from cmp total ks (pairs_from (λ key later. cmp key later ≡ Less) ks rising)) (all_any (λ e. lower_test cmp total None e ≡ true) xs (λ e. refl)))
      ∙ distinct_parts ks xs (merge_never xs h)

  behind_first : (lower : Option (List ℕ)) (ks : List (List ℕ)) (i : ℕ) → suc i ≤ length ks → slice_get (ranges_from lower ks) (suc i) ≡ Some (range_at ks (suc i))
  behind_first lower [] i h = absurd (omega arith)
  behind_first lower (k ∷ []) zero h = refl
  behind_first lower (k ∷ (l ∷ ks)) zero h = refl
  behind_first lower (k ∷ ks) (suc i) h = behind_first (Some k) ks i (omega arith)

  ranges_at : (ks : List (List ℕ)) (i : ℕ) → i ≤ length ks → slice_get (ranges_from None ks) i ≡ Some (range_at ks i)
  ranges_at [] zero h = refl
  ranges_at (k ∷ ks) zero h = refl
  ranges_at ks (suc i) h = behind_first None ks i h

  pub ranges_compose_law : RangesCompose cmp
  ranges_compose_law = record {
    kept = λ b ks xs split h. kept_compose cmp total b ks xs split.rising h;
    marks = λ b ks xs split h. marks_compose cmp total b ks xs split.rising h;
    refused = λ inputs ks split. distinct_compose ks (merged cmp inputs) split.rising (sorted_never_falls cmp total (entries_of_lists inputs));
    ranges = ranges_at;
  }

-- ---- what is kept of a range

filter_both : (p q : Entry → Bool) (xs : List Entry) → filter (λ e. p e && q e) xs ≡ filter q (filter p xs)
filter_both p q [] = refl
filter_both p q (x ∷ xs) = by (p x) (filter_both p q xs)
  where
    by : (b : Bool) → filter (λ e. p e && q e) xs ≡ filter q (filter p xs)
        → cond (b && q x) (x ∷ filter (λ e. p e && q e) xs) (filter (λ e. p e && q e) xs) ≡ filter q (cond b (x ∷ filter p xs) (filter p xs))
    by true same = ap (λ (ys : List Entry). cond (q x) (x ∷ ys) ys) same
    by false same = same

filter_joined : (p : Entry → Bool) (xs ys : List Entry) → filter p (xs ++ ys) ≡ filter p xs ++ filter p ys
filter_joined p [] ys = refl
filter_joined p (x ∷ xs) ys = by (p x) (filter_joined p xs ys)
  where
    by : (b : Bool) → filter p (xs ++ ys) ≡ filter p xs ++ filter p ys → cond b (x ∷ filter p (xs ++ ys)) (filter p (xs ++ ys)) ≡ cond b (x ∷ filter p xs) (filter p xs) ++ filter p ys
    by true same = ap (λ (zs : List Entry). x ∷ zs) same
    by false same = same

module _ (cmp : List ℕ → List ℕ → Ordering) (total : IsTotalOrder cmp) (b : CompactionContext) where
  -- what holds of all entries holds of the kept ones
  all_kept : (P : Entry → Type 0) (before : Option Entry) (xs : List Entry) → AllByRecursion P xs → AllByRecursion P (kb cmp b before xs)
  all_kept P before [] h = tt
  all_kept P before (x ∷ xs) h = by (keep cmp b before x) (all_kept P (Some x) xs h.1)
    where
      by : (k : Bool) → AllByRecursion P (kb cmp b (Some x) xs) → AllByRecursion P ((if k then x ∷ [] else []) ++ kb cmp b (Some x) xs)
      by true rest = (h.0, rest)
      by false rest = rest

  module _ (k : List ℕ) (xs : List Entry) (h : NeverFall cmp total xs) where
    abbrev low : List Entry
    low = filter (is_before cmp total k) xs

    abbrev high : List Entry
    high = filter (is_behind cmp total k) xs

    kept_halves : kb cmp b None xs ≡ kb cmp b None low ++ kb cmp b None high
    kept_halves = ap (kb cmp b None) (low_then_high cmp total k xs h) ∙ kept_append cmp b None low high tt (low_fresh cmp total k xs)

    kept_low : kb cmp b None low ≡ filter (is_before cmp total k) (kb cmp b None xs)
    kept_low =
        let test = is_before cmp total k in
        let own = filter_all test (kb cmp b None low) (all_kept (λ e. test e ≡ true) None low (filter_passes test xs)) in
        let other = filter_none test (kb cmp b None high) (all_map (λ e. not (test e) ≡ true) (λ e. test e ≡ false) (kb cmp b None high) (λ e g. not-true (test e) g) (all_kept (λ e. not (test e) ≡ true) None high (filter_passes (is_behind cmp total k) xs))) in
        sym (ap (filter test) kept_halves ∙ filter_joined test (kb cmp b None low) (kb cmp b None high) ∙ ap (λ (ys : List Entry). ys ++ filter test (kb cmp b None high)) own
        ∙ ap (λ (ys : List Entry). kb cmp b None low ++ ys) other ∙ append-nil (kb cmp b None low))

    kept_high : kb cmp b None high ≡ filter (is_behind cmp total k) (kb cmp b None xs)
    kept_high =
        let test = is_behind cmp total k in
        let own = filter_all test (kb cmp b None high) (all_kept (λ e. test e ≡ true) None high (filter_passes test xs)) in
        let other = filter_none test (kb cmp b None low) (all_map (λ e. is_before cmp total k e ≡ true) (λ e. test e ≡ false) (kb cmp b None low) (λ e g. ap not g) (all_kept (λ e. is_before cmp total k e ≡ true) None low (filter_passes (is_before cmp total k) xs))) in
        sym (ap (filter test) kept_halves ∙ filter_joined test (kb cmp b None low) (kb cmp b None high) ∙ ap (λ (ys : List Entry). ys ++ filter test (kb cmp b None high)) other ∙ own)

  abbrev upper_test : Option (List ℕ) → Entry → Bool
  upper_test upper e = option_map_or (λ u. is_lt (cmp (user_of e.key) u)) upper true

  kept_from : (lower : Option (List ℕ)) (xs : List Entry) → NeverFall cmp total xs → kb cmp b None (filter (lower_test cmp total lower) xs) ≡ filter (lower_test cmp total lower) (kb cmp b None xs)
  kept_from None xs h =
      ap (kb cmp b None) (filter_all (lower_test cmp total None) xs (all_any (λ e. lower_test cmp total None e ≡ true) xs (λ e. refl)))
      ∙ sym (filter_all (lower_test cmp total None) (kb cmp b None xs) (all_any (λ e. lower_test cmp total None e ≡ true) (kb cmp b None xs) (λ e. refl)))
  kept_from (Some k) xs h = kept_high k xs h

  kept_to : (upper : Option (List ℕ)) (xs : List Entry) → NeverFall cmp total xs → kb cmp b None (filter (upper_test upper) xs) ≡ filter (upper_test upper) (kb cmp b None xs)
  kept_to None xs h =
      ap (kb cmp b None) (filter_all (upper_test None) xs (all_any (λ e. upper_test None e ≡ true) xs (λ e. refl)))
      ∙ sym (filter_all (upper_test None) (kb cmp b None xs) (all_any (λ e. upper_test None e ≡ true) (kb cmp b None xs) (λ e. refl)))
  kept_to (Some k) xs h = kept_low k xs h

  kept_within : (range : KeyRange) (xs : List Entry) → NeverFall cmp total xs → kb cmp b None (entries_in cmp range xs) ≡ entries_in cmp range (kb cmp b None xs)
  kept_within range xs h =
      let from = lower_test cmp total range.lower in
      let to = upper_test range.upper in
      ap (kb cmp b None) (filter_both from to xs) ∙ kept_to range.upper (filter from xs) (never_filter cmp total from xs h)
      ∙ ap (filter to) (kept_from range.lower xs h) ∙ sym (filter_both from to (kb cmp b None xs))

pub kept_in_range_law : (cmp : List ℕ → List ℕ → Ordering) → IsTotalOrder cmp → KeptInRangeLaw cmp
kept_in_range_law cmp total b range union h = kept_within cmp total b range union (versions_never cmp total union h)
