-- Entries of lists, taken off in the order of their keys.
use Rattle.std.proofs.Common.{◌≡◌, ℕ, zero, suc, ◌<◌, ◌≤◌, Bool, true, false, List, [], ◌∷◌, ◌++◌, take, drop, set, get_or, Some, None, refl, sym, ap, subst, ◌∙◌, inl, inr, add-one, arith}
use Rattle.std.specs.Prelude.{◌⊎◌, Contains, slice_get, ◌||◌, nat_lt, nat_le}
use Rattle.std.specs.List.{AllByRecursion}
use Rattle.std.specs.Option.{option_map}
use Rattle.std.specs.Cmp.{IsTotalOrder}
use Rattle.std.specs.Ordering.{nat_cmp, ordering_then, ordering_reverse, is_le}
use Rattle.std.specs.Str.{bytes_eq}
use Rattle.std.specs.declared.cmp.Ordering.{Ordering}
use Rattle.std.specs.declared.cmp.Ordering.TheVariants.{Less, Equal, Greater}
use Rattle.std.proofs.lemmas.Bool.{cases_lt, or_cases, or_left, or_right, and_parts, and_from, leb-true, le-leb}
use Rattle.std.proofs.lemmas.Bool.Decides.{Decides-ltb}
use Rattle.std.proofs.lemmas.Cmp.{tied_itself}
use Rattle.std.proofs.lemmas.List.Elements.{All-contains, Contains-get_or, Contains-append_left, Contains-append_right, Contains-append_cases}
use Rattle.std.proofs.lemmas.Option.{same_Some, none-some}
use Rattle.std.proofs.lemmas.Slice.Eq.{bytes_eq-Decides}
use Rattle.ikey.specs.Comparator.{IsExact}
use Rattle.ikey.specs.Key.{IsInternalKey, kind_number, user_of, sequence_of, kind_of}
use Rattle.ikey.specs.Order.{internal_cmp}
use Rattle.ikey.proofs.Ordered.{internal_cmp-total}
use Rattle.table.specs.EncodedEntry.{Entry}
use Rattle.table.specs.EntriesFrom.{NeverFalls}
use Rattle.merge.specs.MergedLists.{entries_of_lists, merged}
use Rattle.merge.specs.LeastList.{StartsAbove, StartsFrom, IsLeast, IsAdvanced, IsMerging}
use Rattle.merge.proofs.Merges.{joined_at, joined_set, one_of, merged_first, joined_none}
use Rattle.merge.proofs.Orders.{le_trans}
use Rattle.reads.specs.FileChecks.{steps_back}
use Rattle.reads.specs.TableOrder.{IsNewerIn, AreFallingIn}
use Rattle.reads.proofs.Members.{first_or_later, later_in, first_in, none_in, from_flat_map}
use Rattle.reads.proofs.Orders.{less_is, equal_is, of_one_user, not_before_itself}
use Rattle.reads.proofs.FallingEntries.{each_of}
use Rattle.reads.proofs.Pairs.{Pairs, pairs_from, pairs_to, pairs_append, pairs_left, pairs_right, pairs_across}

-- ---- one entry among others

le_first : (a b : Ordering) → is_le (ordering_then a b) ≡ true → (a ≡ Less) ⊎ (a ≡ Equal)
le_first Less b e = inl refl
le_first Equal b e = inr refl
le_first Greater b e = absurd cc

module _ (cmp : List ℕ → List ℕ → Ordering) (total : IsTotalOrder cmp) (exact : IsExact cmp) where
  -- a key isn't after another
  abbrev pub AtMost : List ℕ → List ℕ → Type 0
  AtMost k m = is_le (internal_cmp cmp k m) ≡ true

  users_at_most : (k m : List ℕ) → AtMost k m → (cmp (user_of k) (user_of m) ≡ Less) ⊎ (cmp (user_of k) (user_of m) ≡ Equal)
  unfolding internal_cmp
  users_at_most k m le =
      le_first (cmp (user_of k) (user_of m)) (ordering_then (nat_cmp (sequence_of m) (sequence_of k)) (nat_cmp (kind_number (kind_of m)) (kind_number (kind_of k)))) le

  -- of one user key, what isn't before another has no greater sequence
  pub older : (k m : List ℕ) → AtMost k m → user_of k ≡ user_of m → sequence_of m ≤ sequence_of k
  older k m le same =
      elim (le_first (nat_cmp (sequence_of m) (sequence_of k)) (nat_cmp (kind_number (kind_of m)) (kind_number (kind_of k))) (ap is_le (sym (of_one_user cmp total k m same)) ∙ le)) [
        | inl e ↦ omega (arith, less_is (sequence_of m) (sequence_of k) e)
        | inr e ↦ omega (arith, equal_is (sequence_of m) (sequence_of k) e)
      ]

  -- what stands between two keys of one user key is of it too
  one_user : (k m n : List ℕ) → AtMost k m → AtMost m n → user_of n ≡ user_of k → user_of m ≡ user_of k
  one_user k m n km mn same = elim (users_at_most k m km) [ inl less ↦ absurd (refuted less) | inr e ↦ sym (exact (user_of k) (user_of m) e) ]
    where
      before : cmp (user_of k) (user_of m) ≡ Less → cmp (user_of k) (user_of n) ≡ Less
      before less = elim (users_at_most m n mn) [
        | inl e ↦ total.trans (user_of k) (user_of m) (user_of n) less e
        | inr e ↦ subst (λ (u : List ℕ). cmp (user_of k) u ≡ Less) (exact (user_of m) (user_of n) e) less
      ]

      refuted : cmp (user_of k) (user_of m) ≡ Less → ⊥
      refuted less = not_before_itself cmp total (user_of k) (subst (λ (u : List ℕ). cmp (user_of k) u ≡ Less) same (before less))

  -- Of the user keys of a kind: an entry that all others are at or after, and the first of the
  -- others. If that is of another user key, or stands after it in the list and is older, then so is
  -- each other.
  module _ (P : List ℕ → Type 0) where
    pub passes : (front behind : List Entry) (a b : Entry) → AtMost a.key b.key → ((c : Entry) → Contains (front ++ behind) c → AtMost b.key c.key)
        → (P (user_of a.key) → user_of b.key ≡ user_of a.key → Contains behind b × (sequence_of b.key < sequence_of a.key)) → Pairs (IsNewerIn P) (front ++ behind) → Pairs (IsNewerIn P) (front ++ a ∷ behind)
    passes front behind a b ab least test pairs = pairs_append (IsNewerIn P) front (a ∷ behind) (pairs_left (IsNewerIn P) front behind pairs) (over, pairs_right (IsNewerIn P) front behind pairs) across
      where
        own : (c : Entry) → Contains (front ++ behind) c → user_of c.key ≡ user_of a.key → user_of b.key ≡ user_of a.key
        own c at same = one_user a.key b.key c.key ab (least c at) same

        over : (c : Entry) → Contains behind c → IsNewerIn P a c
        over c at of_kind same =
            let there = Contains-append_right front behind c at in
            let of_b = own c there (sym same) in
            let lt : sequence_of b.key < sequence_of a.key = (test of_kind of_b).1 in
            let le : sequence_of c.key ≤ sequence_of b.key = older b.key c.key (least c there) (of_b ∙ same) in
            omega arith

        under : (c : Entry) → Contains front c → IsNewerIn P c a
        under c at of_kind same =
            let there = Contains-append_left front behind c at in
            let of_b = own c there same in
            let lt : sequence_of b.key < sequence_of c.key = pairs_across (IsNewerIn P) front behind pairs c b at (test (subst P same of_kind) of_b).0 of_kind (same ∙ sym of_b) in
            let le : sequence_of c.key ≤ sequence_of b.key = older b.key c.key (least c there) (of_b ∙ sym same) in
            absurd (omega arith)

        across : (x y : Entry) → Contains front x → Contains (a ∷ behind) y → IsNewerIn P x y
        across x y i j = elim (first_or_later a behind y j) [
          | inl is ↦ subst (λ (e : Entry). IsNewerIn P x e) (sym is) (under x i)
          | inr later ↦ pairs_across (IsNewerIn P) front behind pairs x y i later
        ]

    -- if it is of the same user key, and stands before it in the list or isn't older, they don't
    -- fall
    pub fails : (front behind : List Entry) (a b : Entry) → P (user_of a.key) → AtMost a.key b.key → user_of b.key ≡ user_of a.key → Contains front b ⊎ (Contains behind b × (sequence_of a.key ≤ sequence_of b.key))
        → Pairs (IsNewerIn P) (front ++ a ∷ behind) → ⊥
    fails front behind a b of_kind ab same (inl at) pairs =
        let lt : sequence_of a.key < sequence_of b.key = pairs_across (IsNewerIn P) front (a ∷ behind) pairs b a at (first_in a behind) (subst P (sym same) of_kind) same in
        let le : sequence_of b.key ≤ sequence_of a.key = older a.key b.key ab (sym same) in
        absurd (omega arith)
    fails front behind a b of_kind ab same (inr h) pairs =
        let lt : sequence_of b.key < sequence_of a.key = (pairs_right (IsNewerIn P) front (a ∷ behind) pairs).0 b h.0 of_kind (sym same) in
        let le : sequence_of a.key ≤ sequence_of b.key = h.1 in
        absurd (omega arith)

    pub without : (front behind : List Entry) (a : Entry) → Pairs (IsNewerIn P) (front ++ a ∷ behind) → Pairs (IsNewerIn P) (front ++ behind)
    without front behind a pairs =
        pairs_append (IsNewerIn P) front behind (pairs_left (IsNewerIn P) front (a ∷ behind) pairs) (pairs_right (IsNewerIn P) front (a ∷ behind) pairs).1
        (λ x y i j. pairs_across (IsNewerIn P) front (a ∷ behind) pairs x y i (later_in a behind y j))

    pub alone : (front behind : List Entry) (a : Entry) → front ++ behind ≡ [] → Pairs (IsNewerIn P) (front ++ a ∷ behind)
    alone [] [] a none = (λ c at. absurd (none_in c at), tt)
    alone [] (b ∷ behind) a none = absurd cc
    alone (b ∷ front) behind a none = absurd cc

    -- if no user key is of the kind
    pub no_pairs : (es : List Entry) → ((c : Entry) → Contains es c → P (user_of c.key) → ⊥) → Pairs (IsNewerIn P) es
    no_pairs [] none = tt
    no_pairs (e ∷ es) none = (λ c at of_kind same. absurd (none e (first_in e es) of_kind), no_pairs es (λ c at. none c (later_in e es c at)))

-- ---- lists, and one that loses its first entry

in_joined : (lists : List (List Entry)) (place : ℕ) (list : List Entry) (e : Entry) → slice_get lists place ≡ Some list → Contains list e → Contains (entries_of_lists lists) e
in_joined [] place list e h at = absurd (none-some list h)
in_joined (l ∷ ls) zero list e h at = Contains-append_left l (entries_of_lists ls) e (subst (λ (x : List Entry). Contains x e) (sym (same_Some l list h)) at)
in_joined (l ∷ ls) (suc place) list e h at = Contains-append_right l (entries_of_lists ls) e (in_joined ls place list e h at)

in_front : (lists : List (List Entry)) (place next : ℕ) (other list : List Entry) (e : Entry) → next < place → slice_get (set lists place other) next ≡ Some list → Contains list e → Contains (entries_of_lists (take place lists)) e
in_front [] place next other list e lt h at = absurd (none-some list h)
in_front (l ∷ ls) zero next other list e lt h at = absurd (omega arith)
in_front (l ∷ ls) (suc place) zero other list e lt h at =
    Contains-append_left l (entries_of_lists (take place ls)) e (subst (λ (x : List Entry). Contains x e) (sym (same_Some l list h)) at)
in_front (l ∷ ls) (suc place) (suc next) other list e lt h at = Contains-append_right l (entries_of_lists (take place ls)) e (in_front ls place next other list e (omega arith) h at)

in_behind : (lists : List (List Entry)) (place next : ℕ) (other list : List Entry) (e : Entry) → place ≤ next → slice_get (set lists place other) next ≡ Some list → Contains list e → Contains (other ++ entries_of_lists (drop (suc place) lists)) e
in_behind [] place next other list e le h at = absurd (none-some list h)
in_behind (l ∷ ls) zero zero other list e le h at = Contains-append_left other (entries_of_lists ls) e (subst (λ (x : List Entry). Contains x e) (sym (same_Some other list h)) at)
in_behind (l ∷ ls) zero (suc next) other list e le h at = Contains-append_right other (entries_of_lists ls) e (in_joined ls next list e h at)
in_behind (l ∷ ls) (suc place) zero other list e le h at = absurd (omega arith)
in_behind (l ∷ ls) (suc place) (suc next) other list e le h at = in_behind ls place next other list e (omega arith) h at

-- ---- the list whose first entry comes next

at_before : (P : List Entry → Type 0) (lists : List (List Entry)) (place other : ℕ) (list : List Entry) → place < other → slice_get lists place ≡ Some list → AllByRecursion P (take other lists) → P list
at_before P [] place other list lt h all = absurd (none-some list h)
at_before P (l ∷ ls) place zero list lt h all = absurd (omega arith)
at_before P (l ∷ ls) zero (suc other) list lt h all = subst P (same_Some l list h) all.0
at_before P (l ∷ ls) (suc place) (suc other) list lt h all = at_before P ls place other list (omega arith) h all.1

at_behind : (P : List Entry → Type 0) (lists : List (List Entry)) (place other : ℕ) (list : List Entry) → place < other → slice_get lists other ≡ Some list → AllByRecursion P (drop (suc place) lists) → P list
at_behind P [] place other list lt h all = absurd (none-some list h)
at_behind P (l ∷ ls) place zero list lt h all = absurd (omega arith)
at_behind P (l ∷ ls) zero (suc other) list lt h all = one_of P ls other list all h
at_behind P (l ∷ ls) (suc place) (suc other) list lt h all = at_behind P ls place other list (omega arith) h all

module _ (cmp : List ℕ → List ℕ → Ordering) (total : IsTotalOrder cmp) (exact : IsExact cmp) where
  both_ways : (k m : List ℕ) → internal_cmp cmp k m ≡ Less → is_le (internal_cmp cmp m k) ≡ true → ⊥
  both_ways k m less le = refuted (internal_cmp cmp m k) ((internal_cmp-total total).antisymm m k ∙ ap ordering_reverse less) le
    where
      refuted : (o : Ordering) → o ≡ Greater → is_le o ≡ true → ⊥
      refuted Less is le = absurd cc
      refuted Equal is le = absurd cc
      refuted Greater is le = absurd cc

  -- there is one place of the list that comes next
  not_both : (lists : List (List Entry)) (place other : ℕ) → IsLeast cmp lists place → IsLeast cmp lists other → place < other → ⊥
  not_both lists place other one two lt =
      let above : internal_cmp cmp two.first.key one.first.key ≡ Less = at_before (StartsAbove cmp two.first.key) lists place other (one.first ∷ one.others) lt one.here two.before in
      let rest : AllByRecursion (StartsFrom cmp one.first.key) (drop (suc place) lists) = rw (← add-one) one.behind in
      let from : is_le (internal_cmp cmp one.first.key two.first.key) ≡ true = at_behind (StartsFrom cmp one.first.key) lists place other (two.first ∷ two.others) lt two.here rest in
      both_ways two.first.key one.first.key above from

  one_place : (lists : List (List Entry)) (place other : ℕ) → IsLeast cmp lists place → IsLeast cmp lists other → place ≡ other
  one_place lists place other one two = by_cases (cases_lt place other) (cases_lt other place)
    where
      by_cases : (place < other) ⊎ (other ≤ place) → (other < place) ⊎ (place ≤ other) → place ≡ other
      by_cases (inl lt) c = absurd (not_both lists place other one two lt)
      by_cases (inr le) (inl lt) = absurd (not_both lists other place two one lt)
      by_cases (inr le) (inr ge) = omega arith

  -- what an advance of the merge leaves, by the place that comes next
  pub left_is : (lists new : List (List Entry)) (place : ℕ) (least : IsLeast cmp lists place) → IsAdvanced cmp lists new → new ≡ set lists place least.others
  left_is lists new place least advanced =
      let same : advanced.place ≡ place = one_place lists advanced.place place advanced.least least in
      let here : slice_get lists place ≡ Some (advanced.least.first ∷ advanced.least.others) = subst (λ (n : ℕ). slice_get lists n ≡ Some (advanced.least.first ∷ advanced.least.others)) same advanced.least.here in
      let lists_same : advanced.least.first ∷ advanced.least.others ≡ least.first ∷ least.others = same_Some (advanced.least.first ∷ advanced.least.others) (least.first ∷ least.others) (sym here ∙ least.here) in
      advanced.lost ∙ ap (λ (n : ℕ). set lists n advanced.least.others) same ∙ ap (set lists place) (ap (drop 1) lists_same)

  above_starts : (key : List ℕ) (list : List Entry) → StartsAbove cmp key list → StartsFrom cmp key list
  above_starts key [] h = tt
  above_starts key (e ∷ es) h = ap is_le h

  from_least : (key : List ℕ) (lists : List (List Entry)) (place : ℕ) (list : List Entry) → slice_get lists place ≡ Some list → AllByRecursion (StartsAbove cmp key) (take place lists) → StartsFrom cmp key list → AllByRecursion (StartsFrom cmp key) (drop (suc place) lists)
      → AllByRecursion (StartsFrom cmp key) lists
  from_least key [] place list h before own behind = absurd (none-some list h)
  from_least key (l ∷ ls) zero list h before own behind = (subst (StartsFrom cmp key) (sym (same_Some l list h)) own, behind)
  from_least key (l ∷ ls) (suc place) list h before own behind = (above_starts key l before.0, from_least key ls place list h before.1 own behind)

  all_start : (lists : List (List Entry)) (place : ℕ) (least : IsLeast cmp lists place) → AllByRecursion (StartsFrom cmp least.first.key) lists
  all_start lists place least =
      let rest : AllByRecursion (StartsFrom cmp least.first.key) (drop (suc place) lists) = rw (← add-one) least.behind in
      from_least least.first.key lists place (least.first ∷ least.others) least.here least.before (ap is_le (tied_itself (internal_cmp-total total) least.first.key)) rest

  in_list : (key : List ℕ) (list : List Entry) (c : Entry) → NeverFalls cmp list → StartsFrom cmp key list → Contains list c → is_le (internal_cmp cmp key c.key) ≡ true
  in_list key [] c falls starts at = absurd (none_in c at)
  in_list key (e ∷ es) c falls starts at =
      elim (first_or_later e es c at) [
        | inl is ↦ subst (λ (x : Entry). is_le (internal_cmp cmp key x.key) ≡ true) (sym is) starts
        | inr later ↦ le_trans cmp total key e.key c.key starts (each_of (λ (x : Entry). is_le (internal_cmp cmp e.key x.key) ≡ true) es falls.0 c later)
      ]

  -- no entry is before the one that comes next
  pub at_most_all : (lists : List (List Entry)) (place : ℕ) (m : IsMerging cmp lists (Some place)) (c : Entry) → Contains (entries_of_lists lists) c → is_le (internal_cmp cmp m.least.first.key c.key) ≡ true
  at_most_all lists place m c at =
      let from = from_flat_map (λ (list : List Entry). list) lists c at in
      in_list m.least.first.key from.source c (each_of (NeverFalls cmp) lists m.ordered from.source from.there) (each_of (StartsFrom cmp m.least.first.key) lists (all_start lists place m.least) from.source from.there) from.held

  -- ---- the test

  -- the next entry is of the user key, and comes of a list before or isn't older
  abbrev StepsBack : List ℕ → ℕ → List ℕ → ℕ → Type 0
  StepsBack last place key next = (user_of key ≡ user_of last) × ((next < place) ⊎ (sequence_of last ≤ sequence_of key))

  pub back_true : (last : List ℕ) (place : ℕ) (key : List ℕ) (next : ℕ) → steps_back last place key next ≡ true → StepsBack last place key next
  back_true last place key next e =
      let both = and_parts (bytes_eq (user_of key) (user_of last)) (nat_lt next place || nat_le (sequence_of last) (sequence_of key)) e in (
        (bytes_eq-Decides (user_of key) (user_of last)).0 both.0,
        elim (or_cases (nat_lt next place) (nat_le (sequence_of last) (sequence_of key)) both.1) [
          | inl lt ↦ inl ((Decides-ltb next place).0 lt)
          | inr le ↦ inr (leb-true (sequence_of last) (sequence_of key) le)
        ],
      )

  pub back_false : (last : List ℕ) (place : ℕ) (key : List ℕ) (next : ℕ) → steps_back last place key next ≡ false → StepsBack last place key next → ⊥
  back_false last place key next f h =
      let second : (nat_lt next place || nat_le (sequence_of last) (sequence_of key)) ≡ true = elim h.1 [
        | inl lt ↦ or_left (nat_lt next place) (nat_le (sequence_of last) (sequence_of key)) ((Decides-ltb next place).1 lt)
        | inr le ↦ or_right (nat_lt next place) (nat_le (sequence_of last) (sequence_of key)) (le-leb (sequence_of last) (sequence_of key) le)
      ] in
      let both : true ≡ false = sym (and_from (bytes_eq (user_of key) (user_of last)) (nat_lt next place || nat_le (sequence_of last) (sequence_of key)) ((bytes_eq-Decides (user_of key) (user_of last)).1 h.0) second) ∙ f in
      absurd cc

  -- ---- the walk

  -- the entries of lists fall, one list after the other, those of the user keys of a kind
  pub record Fall (P : List ℕ → Type 0) (lists : List (List Entry)) : Type 0 where
    pub keys : (e : Entry) → Contains (entries_of_lists lists) e → P (user_of e.key) → IsInternalKey e.key
    pub newer : Pairs (IsNewerIn P) (entries_of_lists lists)

  -- what is left of lists falls exactly if the whole lists do
  pub record IsLeft (P : List ℕ → Type 0) (left all : List (List Entry)) : Type 0 where
    pub up : Fall P left → Fall P all
    pub down : Fall P all → Fall P left

  pub all_left : (P : List ℕ → Type 0) (left all : List (List Entry)) → left ≡ all → IsLeft P left all
  all_left P left all is = subst (λ (l : List (List Entry)). IsLeft P left l) is (record { up = λ h. h; down = λ h. h })

  pub are_falling : (P : List ℕ → Type 0) (lists : List (List Entry)) → Fall P lists → AreFallingIn P (entries_of_lists lists)
  are_falling P lists h = record {
    keys = λ k d lt. h.keys (get_or (entries_of_lists lists) k d) (Contains-get_or (entries_of_lists lists) k d lt);
    newer = pairs_to (IsNewerIn P) (entries_of_lists lists) h.newer;
  }

  pub fall : (P : List ℕ → Type 0) (lists : List (List Entry)) → AreFallingIn P (entries_of_lists lists) → Fall P lists
  fall P lists h = record {
    keys = λ e at. All-contains (λ (x : Entry). P (user_of x.key) → IsInternalKey x.key) (entries_of_lists lists) e h.keys at;
    newer = pairs_from (IsNewerIn P) (entries_of_lists lists) h.newer;
  }

  -- the first key of the merge is that of the list that comes next
  pub key_is : (lists : List (List Entry)) (place : ℕ) (m : IsMerging cmp lists (Some place)) (key : List ℕ) → option_map (λ e. e.key) (slice_get (merged cmp lists) 0) ≡ Some key → m.least.first.key ≡ key
  key_is lists place m key h =
      same_Some m.least.first.key key (sym (ap (λ (es : List Entry). option_map (λ e. e.key) (slice_get es 0)) (merged_first cmp total lists place m.ordered m.least)) ∙ h)

  module _ (P : List ℕ → Type 0) (lists new all : List (List Entry)) (place : ℕ) (m : IsMerging cmp lists (Some place)) (lawful : IsInternalKey m.least.first.key) (advanced : IsAdvanced cmp lists new) (left : IsLeft P lists all) where
    abbrev front : List Entry
    front = entries_of_lists (take place lists)

    abbrev behind : List Entry
    behind = m.least.others ++ entries_of_lists (drop (suc place) lists)

    old_is : entries_of_lists lists ≡ front ++ m.least.first ∷ behind
    old_is = joined_at lists place (m.least.first ∷ m.least.others) m.least.here

    new_is : entries_of_lists new ≡ front ++ behind
    new_is = ap entries_of_lists (left_is lists new place m.least advanced) ∙ joined_set lists place (m.least.first ∷ m.least.others) m.least.others m.least.here

    -- an entry of the lists is the first, or it is left
    first_or_left : (c : Entry) → Contains (front ++ m.least.first ∷ behind) c → (c ≡ m.least.first) ⊎ Contains (front ++ behind) c
    first_or_left c at = elim (Contains-append_cases front (m.least.first ∷ behind) c at) [
      | inl i ↦ inr (Contains-append_left front behind c i)
      | inr i ↦ elim (first_or_later m.least.first behind c i) [ inl is ↦ inl is | inr later ↦ inr (Contains-append_right front behind c later) ]
    ]

    still_there : (c : Entry) → Contains (front ++ behind) c → Contains (front ++ m.least.first ∷ behind) c
    still_there c at = elim (Contains-append_cases front behind c at) [
      | inl i ↦ Contains-append_left front (m.least.first ∷ behind) c i
      | inr i ↦ Contains-append_right front (m.least.first ∷ behind) c (later_in m.least.first behind c i)
    ]

    old_fall : ((c : Entry) → Contains (front ++ behind) c → P (user_of c.key) → IsInternalKey c.key) → Pairs (IsNewerIn P) (front ++ m.least.first ∷ behind) → Fall P lists
    old_fall keys newer = record {
      keys = λ c at of_kind. elim (first_or_left c (subst (λ (es : List Entry). Contains es c) old_is at)) [
        | inl is ↦ subst (λ (e : Entry). IsInternalKey e.key) (sym is) lawful
        | inr there ↦ keys c there of_kind
      ];
      newer = subst (Pairs (IsNewerIn P)) (sym old_is) newer;
    }

    pub came_to_end : IsMerging cmp new None → Fall P all
    came_to_end n =
        let none : front ++ behind ≡ [] = sym new_is ∙ joined_none new n.least in
        left.up (old_fall (λ c at of_kind. absurd (none_in c (subst (λ (es : List Entry). Contains es c) none at))) (alone cmp total exact P front behind m.least.first none))

    module _ (next : ℕ) (n : IsMerging cmp new (Some next)) where
      there : Contains (front ++ behind) n.least.first
      there = subst (λ (es : List Entry). Contains es n.least.first) new_is (in_joined new next (n.least.first ∷ n.least.others) n.least.first n.least.here (first_in n.least.first n.least.others))

      behind_first : is_le (internal_cmp cmp m.least.first.key n.least.first.key) ≡ true
      behind_first = at_most_all lists place m n.least.first (subst (λ (es : List Entry). Contains es n.least.first) (sym old_is) (still_there n.least.first there))

      here : slice_get (set lists place m.least.others) next ≡ Some (n.least.first ∷ n.least.others)
      here = subst (λ (ls : List (List Entry)). slice_get ls next ≡ Some (n.least.first ∷ n.least.others)) (left_is lists new place m.least advanced) n.least.here

      in_lists_before : next < place → Contains front n.least.first
      in_lists_before lt = in_front lists place next m.least.others (n.least.first ∷ n.least.others) n.least.first lt here (first_in n.least.first n.least.others)

      in_lists_behind : place ≤ next → Contains behind n.least.first
      in_lists_behind le = in_behind lists place next m.least.others (n.least.first ∷ n.least.others) n.least.first le here (first_in n.least.first n.least.others)

      first_of_all : (c : Entry) → Contains (front ++ behind) c → is_le (internal_cmp cmp n.least.first.key c.key) ≡ true
      first_of_all c at = at_most_all new next n c (subst (λ (es : List Entry). Contains es c) (sym new_is) at)

      module _ (last key : List ℕ) (last_is : m.least.first.key ≡ last) (next_is : n.least.first.key ≡ key) where
        by_keys : (b : Bool) → steps_back last place key next ≡ b → steps_back m.least.first.key place n.least.first.key next ≡ b
        by_keys b test = ap (λ (k : List ℕ). steps_back k place n.least.first.key next) last_is ∙ ap (λ (k : List ℕ). steps_back last place k next) next_is ∙ test

        pub goes_on : (P (user_of m.least.first.key) → steps_back last place key next ≡ false) → IsLeft P new all
        goes_on test = record {
          up = λ h. left.up (old_fall (λ c at of_kind. h.keys c (subst (λ (es : List Entry). Contains es c) (sym new_is) at) of_kind)
              (passes cmp total exact P front behind m.least.first n.least.first behind_first first_of_all tested (subst (Pairs (IsNewerIn P)) new_is h.newer)));
          down = λ h. let old = left.down h in record {
            keys = λ c at of_kind. old.keys c (subst (λ (es : List Entry). Contains es c) (sym old_is) (still_there c (subst (λ (es : List Entry). Contains es c) new_is at))) of_kind;
            newer = subst (Pairs (IsNewerIn P)) (sym new_is) (without cmp total exact P front behind m.least.first (subst (Pairs (IsNewerIn P)) old_is old.newer));
          };
        }
          where
            no : P (user_of m.least.first.key) → user_of n.least.first.key ≡ user_of m.least.first.key → (next < place) ⊎ (sequence_of m.least.first.key ≤ sequence_of n.least.first.key) → ⊥
            no of_kind same h = back_false m.least.first.key place n.least.first.key next (by_keys false (test of_kind)) (same, h)

            by_cases : P (user_of m.least.first.key) → user_of n.least.first.key ≡ user_of m.least.first.key → (next < place) ⊎ (place ≤ next) → (sequence_of n.least.first.key < sequence_of m.least.first.key) ⊎ (sequence_of m.least.first.key ≤ sequence_of n.least.first.key)
                → Contains behind n.least.first × (sequence_of n.least.first.key < sequence_of m.least.first.key)
            by_cases of_kind same (inl lt) c = absurd (no of_kind same (inl lt))
            by_cases of_kind same (inr le) (inr ge) = absurd (no of_kind same (inr ge))
            by_cases of_kind same (inr le) (inl lt) = (in_lists_behind le, lt)

            tested : P (user_of m.least.first.key) → user_of n.least.first.key ≡ user_of m.least.first.key → Contains behind n.least.first × (sequence_of n.least.first.key < sequence_of m.least.first.key)
            tested of_kind same = by_cases of_kind same (cases_lt next place) (cases_lt (sequence_of n.least.first.key) (sequence_of m.least.first.key))

        pub went_back : P (user_of m.least.first.key) → steps_back last place key next ≡ true → Fall P all → ⊥
        went_back of_kind test h =
            let back = back_true m.least.first.key place n.least.first.key next (by_keys true test) in
            fails cmp total exact P front behind m.least.first n.least.first of_kind behind_first back.0 (by_cases back.1 (cases_lt next place)) (subst (Pairs (IsNewerIn P)) old_is (left.down h).newer)
          where
            by_cases : (next < place) ⊎ (sequence_of m.least.first.key ≤ sequence_of n.least.first.key) → (next < place) ⊎ (place ≤ next) → Contains front n.least.first ⊎ (Contains behind n.least.first × (sequence_of m.least.first.key ≤ sequence_of n.least.first.key))
            by_cases h (inl lt) = inl (in_lists_before lt)
            by_cases (inl lt) (inr le) = absurd (omega arith)
            by_cases (inr ge) (inr le) = inr (in_lists_behind le, ge)

  pub none_there : (P : List ℕ → Type 0) (lists all : List (List Entry)) → IsMerging cmp lists None → IsLeft P lists all → Fall P all
  none_there P lists all m left =
      let none = joined_none lists m.least in
      left.up (record { keys = λ c at of_kind. absurd (none_in c (subst (λ (es : List Entry). Contains es c) none at)); newer = subst (Pairs (IsNewerIn P)) (sym none) tt })

  -- if the next key and all after it are of no user key of the kind
  pub none_of_kind : (P : List ℕ → Type 0) (lists all : List (List Entry)) → ((c : Entry) → Contains (entries_of_lists lists) c → P (user_of c.key) → ⊥) → IsLeft P lists all → Fall P all
  none_of_kind P lists all none left = left.up (record { keys = λ c at of_kind. absurd (none c at of_kind); newer = no_pairs cmp total exact P (entries_of_lists lists) none })

  -- no user key after the first one is before a bound that that isn't before
  pub behind_bound : (lists : List (List Entry)) (place : ℕ) (m : IsMerging cmp lists (Some place)) (bound : List ℕ) → (cmp (user_of m.least.first.key) bound ≡ Less → ⊥)
      → (c : Entry) → Contains (entries_of_lists lists) c → cmp (user_of c.key) bound ≡ Less → ⊥
  behind_bound lists place m bound behind c at less = elim (users_at_most cmp total exact m.least.first.key c.key (at_most_all lists place m c at)) [
    | inl e ↦ behind (total.trans (user_of m.least.first.key) (user_of c.key) bound e less)
    | inr e ↦ behind (subst (λ (u : List ℕ). cmp u bound ≡ Less) (sym (exact (user_of m.least.first.key) (user_of c.key) e)) less)
  ]
