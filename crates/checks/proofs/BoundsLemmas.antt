-- What the bounds of tables tell, and tables that need no walk.
use Rattle.std.proofs.Common.{◌≡◌, ℕ, zero, suc, ◌+◌, ◌-◌, ◌<◌, ◌≤◌, min, max, Bool, true, false, ◌||◌, List, [], ◌∷◌, ◌++◌, length, get_or, take, drop, Option, Some, None, Result, Ok, Err, IfOk, refl, sym, ap, subst, ◌∙◌, inl, inr, append_assoc, append-nil, arith, eq-or-lt_of_le}
use Rattle.std.specs.Prelude.{◌≢◌, ◌⊎◌, ◌↔◌, Contains, nat_eq, nat_lt}
use Rattle.std.specs.Cmp.{IsTotalOrder}
use Rattle.std.specs.Str.{bytes_eq}
use Rattle.std.specs.declared.cmp.Ordering.{Ordering}
use Rattle.std.specs.declared.cmp.Ordering.TheVariants.{Less}
use Rattle.std.proofs.lemmas.Bool.Decides.{Decides-eqb, Decides-ltb}
use Rattle.std.proofs.lemmas.List.{drop_more, take_all, take_more, length-drop, nil_from_length}
use Rattle.std.proofs.lemmas.List.Elements.{All-contains, Contains-get_or, Contains-append_left, Contains-append_right, Contains-append_cases}
use Rattle.std.proofs.lemmas.Slice.Eq.{bytes_eq-Decides}
use Rattle.std.proofs.lemmas.Bool.{or_cases, or_parts, and_from}
use Rattle.ikey.specs.fault.Fault.{Fault}
use Rattle.ikey.specs.Comparator.{IsExact}
use Rattle.ikey.specs.Key.{IsInternalKey, user_of, sequence_of}
use Rattle.ikey.specs.Order.{internal_cmp}
use Rattle.ikey.proofs.Ordered.{internal_cmp-total, is_lt-true}
use Rattle.table.specs.EncodedEntry.{Entry}
use Rattle.reads.specs.BuilderView.{last_key}
use Rattle.reads.specs.MergedLists.{entries_of_lists}
use Rattle.split.specs.Ranges.{KeyRange, IsIn}
use Rattle.table.specs.EntriesFrom.{EntriesRise}
use Rattle.table.specs.EntryTests.{HaveInternalKeys, first_key}
use Rattle.table.specs.Tallies.{is_twin, has_twins, least_sequence, greatest_sequence, tally_of}
use Rattle.table.specs.declared.tally.Tally.{Tally}
use Rattle.reads.specs.Lawful.{AreNewer}
use Rattle.reads.specs.TableOrder.{IsNewer, IsNewerIn, AreFalling, AreFallingIn}
use Rattle.reads.proofs.Members.{first_or_later, none_in, from_flat_map}
use Rattle.reads.proofs.Newer.{newer_at, newer_of}
use Rattle.reads.proofs.Orders.{before_later, later_older, not_before_itself, users_rise}
use Rattle.reads.proofs.Pairs.{Pairs, pairs_from, pairs_to, pairs_append, pairs_left, pairs_right, pairs_across}
use Rattle.reads.proofs.Sought.{above_first}
use Rattle.checks.specs.TableBounds.{AreCheckedEntries, BoundsTell, FallAlike, IsApartFromOthers, bounds_tell_apart, are_below}

-- ---- sequences

at_least : (es : List Entry) (e : Entry) → Contains es e → least_sequence es ≤ sequence_of e.key
at_least [] e at = absurd (none_in e at)
at_least (d ∷ es) e at =
    elim (first_or_later d es e at) [
      | inl is ↦ subst (λ (x : Entry). least_sequence (d ∷ es) ≤ sequence_of x.key) (sym is) (first (sequence_of d.key) (least_sequence es))
      | inr later ↦ behind (sequence_of d.key) (least_sequence es) (sequence_of e.key) (at_least es e later)
    ]
  where
    first : (a b : ℕ) → min a b ≤ a
    first a b = omega arith

    behind : (a b n : ℕ) → b ≤ n → min a b ≤ n
    behind a b n le = omega (arith, le)

at_most : (es : List Entry) (e : Entry) → Contains es e → sequence_of e.key ≤ greatest_sequence es
at_most [] e at = absurd (none_in e at)
at_most (d ∷ es) e at =
    elim (first_or_later d es e at) [
      | inl is ↦ subst (λ (x : Entry). sequence_of x.key ≤ greatest_sequence (d ∷ es)) (sym is) (first (sequence_of d.key) (greatest_sequence es))
      | inr later ↦ behind (sequence_of d.key) (greatest_sequence es) (sequence_of e.key) (at_most es e later)
    ]
  where
    first : (a b : ℕ) → a ≤ max a b
    first a b = omega arith

    behind : (a b n : ℕ) → n ≤ b → n ≤ max a b
    behind a b n le = omega (arith, le)

below_newer : (newer older : List Entry) → greatest_sequence older < least_sequence newer → AreNewer newer older
below_newer newer older lt = newer_of newer older (λ a b i j same. between (sequence_of b.key) (greatest_sequence older) (least_sequence newer) (sequence_of a.key) (at_most older b j) lt (at_least newer a i))
  where
    between : (a b c d : ℕ) → a ≤ b → b < c → c ≤ d → a < d
    between a b c d one two three = omega (arith, one, two, three)

-- neighbours that are no twins have another user key or another sequence
not_twins : (a b : List ℕ) → is_twin (Some a) b ≡ false → user_of a ≡ user_of b → sequence_of a ≢ sequence_of b
not_twins a b isnt user sequence =
    let yes = and_from (nat_eq (sequence_of a) (sequence_of b)) (bytes_eq (user_of a) (user_of b)) ((Decides-eqb (sequence_of a) (sequence_of b)).1 sequence) ((bytes_eq-Decides (user_of a) (user_of b)).1 user) in
    let both : true ≡ false = sym yes ∙ isnt in
    cc

-- ---- user keys

module _ (cmp : List ℕ → List ℕ → Ordering) (total : IsTotalOrder cmp) where
  first_or_above : (es : List Entry) (e : Entry) → EntriesRise cmp es → Contains es e → (e.key ≡ first_key es) ⊎ (internal_cmp cmp (first_key es) e.key ≡ Less)
  first_or_above [] e rising at = absurd (none_in e at)
  first_or_above (d ∷ es) e rising at =
      elim (first_or_later d es e at) [
        | inl is ↦ inl (ap (λ (x : Entry). x.key) is)
        | inr later ↦ inr (above_first cmp d es e rising later)
      ]

  from_first : (d : Entry) (es : List Entry) → EntriesRise cmp (d ∷ es) → (d.key ≡ last_key d.key es) ⊎ (internal_cmp cmp d.key (last_key d.key es) ≡ Less)
  from_first d [] rising = inl refl
  from_first d (f ∷ es) rising =
      elim (from_first f es rising.1) [
        | inl is ↦ inr (subst (λ (k : List ℕ). internal_cmp cmp d.key k ≡ Less) is rising.0.0)
        | inr lt ↦ inr ((internal_cmp-total total).trans d.key f.key (last_key f.key es) rising.0.0 lt)
      ]

  last_or_below : (es : List Entry) (e : Entry) → EntriesRise cmp es → Contains es e → (e.key ≡ last_key [] es) ⊎ (internal_cmp cmp e.key (last_key [] es) ≡ Less)
  last_or_below [] e rising at = absurd (none_in e at)
  last_or_below (d ∷ []) e rising at =
      elim (first_or_later d [] e at) [
        | inl is ↦ inl (ap (λ (x : Entry). x.key) is)
        | inr later ↦ absurd (none_in e later)
      ]
  last_or_below (d ∷ (f ∷ es)) e rising at =
      elim (first_or_later d (f ∷ es) e at) [
        | inl is ↦ subst (λ (x : Entry). (x.key ≡ last_key d.key (f ∷ es)) ⊎ (internal_cmp cmp x.key (last_key d.key (f ∷ es)) ≡ Less)) (sym is) (from_first d (f ∷ es) rising)
        | inr later ↦ last_or_below (f ∷ es) e rising.1 later
      ]

  -- the user keys of one list are all below those of the other
  users_below : (xs ys : List Entry) → EntriesRise cmp xs → EntriesRise cmp ys → cmp (user_of (last_key [] xs)) (user_of (first_key ys)) ≡ Less → (x y : Entry) → Contains xs x → Contains ys y → user_of x.key ≡ user_of y.key → ⊥
  users_below xs ys one two less x y i j same =
      let last = last_key [] xs in
      let after : cmp (user_of last) (user_of y.key) ≡ Less = elim (first_or_above ys y two j) [
        | inl is ↦ subst (λ (k : List ℕ). cmp (user_of last) (user_of k) ≡ Less) (sym is) less
        | inr lt ↦ before_later cmp total (user_of last) (first_key ys) y.key less lt
      ] in
      let below : cmp (user_of x.key) (user_of y.key) ≡ Less = elim (last_or_below xs x one i) [
        | inl is ↦ subst (λ (k : List ℕ). cmp (user_of k) (user_of y.key) ≡ Less) (sym is) after
        | inr lt ↦ elim (users_rise cmp total x.key last lt) [
          | inl e ↦ total.trans (user_of x.key) (user_of last) (user_of y.key) e after
          | inr e ↦ total.congr (user_of x.key) (user_of last) (user_of y.key) e ∙ after
        ]
      ] in
      not_before_itself cmp total (user_of y.key) (subst (λ (u : List ℕ). cmp u (user_of y.key) ≡ Less) same below)

  pub apart_newer : (newer older : List Entry) → EntriesRise cmp newer → EntriesRise cmp older → bounds_tell_apart cmp newer older ≡ true → AreNewer newer older
  apart_newer newer older one two h =
      elim (or_cases (nat_lt (greatest_sequence older) (least_sequence newer) || are_below cmp newer older) (are_below cmp older newer) h) [
        | inl left ↦ elim (or_cases (nat_lt (greatest_sequence older) (least_sequence newer)) (are_below cmp newer older) left) [
          | inl below ↦ below_newer newer older ((Decides-ltb (greatest_sequence older) (least_sequence newer)).0 below)
          | inr before ↦ newer_of newer older (λ a b i j same. absurd (users_below newer older one two (is_lt-true _ before) a b i j same))
        ]
        | inr behind ↦ newer_of newer older (λ a b i j same. absurd (users_below older newer two one (is_lt-true _ behind) b a j i (sym same)))
      ]

  -- the same, by what was counted and by each comparison
  module _ (newer older : List Entry) (one : AreCheckedEntries cmp newer) (two : AreCheckedEntries cmp older) where
    pub by_sequences : (counted others : Tally) → counted ≡ tally_of newer → others ≡ tally_of older → nat_lt others.newest counted.oldest ≡ true → AreNewer newer older
    by_sequences counted others is are h =
        below_newer newer older (subst (λ (n : ℕ). greatest_sequence older < n) (ap (λ (t : Tally). t.oldest) is) (subst (λ (n : ℕ). n < counted.oldest) (ap (λ (t : Tally). t.newest) are) ((Decides-ltb others.newest counted.oldest).0 h)))

    pub by_front : are_below cmp newer older ≡ true → AreNewer newer older
    by_front h = newer_of newer older (λ a b i j same. absurd (users_below newer older one.rising two.rising (is_lt-true _ h) a b i j same))

    pub by_back : are_below cmp older newer ≡ true → AreNewer newer older
    by_back h = newer_of newer older (λ a b i j same. absurd (users_below older newer two.rising one.rising (is_lt-true _ h) b a j i (sym same)))

  -- ---- a table alone

  module _ (exact : IsExact cmp) where
    -- a key between two of one user key has that user key
    between : (a b c : List ℕ) → internal_cmp cmp a b ≡ Less → internal_cmp cmp b c ≡ Less → user_of a ≡ user_of c → user_of a ≡ user_of b
    between a b c one two same =
        elim (users_rise cmp total a b one) [
          | inl less ↦ absurd (not_before_itself cmp total (user_of c) (subst (λ (u : List ℕ). cmp u (user_of c) ≡ Less) same (before_later cmp total (user_of a) b c less two)))
          | inr tie ↦ exact (user_of a) (user_of b) tie
        ]

    older_next : (e g : Entry) → internal_cmp cmp e.key g.key ≡ Less → is_twin (Some e.key) g.key ≡ false → user_of e.key ≡ user_of g.key → sequence_of g.key < sequence_of e.key
    older_next e g below isnt same =
        elim (eq-or-lt_of_le (later_older cmp total e.key g.key below same)) [
          | inl tie ↦ absurd (not_twins e.key g.key isnt same (sym tie))
          | inr lt ↦ lt
        ]

    older_behind : (e g : Entry) (es : List Entry) → EntriesRise cmp (e ∷ (g ∷ es)) → is_twin (Some e.key) g.key ≡ false → (f : Entry) → Contains (g ∷ es) f → IsNewer e f
    older_behind e g es rising isnt f at same =
        elim (first_or_later g es f at) [
          | inl is ↦ subst (λ (x : Entry). sequence_of x.key < sequence_of e.key) (sym is) (older_next e g rising.0.0 isnt (subst (λ (x : Entry). user_of e.key ≡ user_of x.key) is same))
          | inr later ↦
              let below = above_first cmp g es f rising.1 later in
              let user : user_of e.key ≡ user_of g.key = between e.key g.key f.key rising.0.0 below same in
              lower (sequence_of f.key) (sequence_of g.key) (sequence_of e.key) (later_older cmp total g.key f.key below (sym user ∙ same)) (older_next e g rising.0.0 isnt user)
        ]
      where
        lower : (a b c : ℕ) → a ≤ b → b < c → a < c
        lower a b c one two = omega (arith, one, two)

    falls_behind : (before : Option (List ℕ)) (es : List Entry) → EntriesRise cmp es → has_twins before es ≡ false → Pairs IsNewer es
    falls_behind before [] rising none = tt
    falls_behind before (e ∷ []) rising none = (λ f at. absurd (none_in f at), tt)
    falls_behind before (e ∷ (g ∷ es)) rising none =
        let rest = (or_parts (is_twin before e.key) (has_twins (Some e.key) (g ∷ es)) none).1 in
        let next = (or_parts (is_twin (Some e.key) g.key) (has_twins (Some g.key) es) rest).0 in
        (older_behind e g es rising next, falls_behind (Some e.key) (g ∷ es) rising.1 rest)

    pub alone : (es : List Entry) → AreCheckedEntries cmp es → has_twins None es ≡ false → AreFalling es
    alone es h none = record {
      keys = λ k d lt. key_at es h.keys k d lt;
      newer = pairs_to IsNewer es (falls_behind None es h.rising none);
    }
      where
        key_at : (es : List Entry) → HaveInternalKeys es → (k : ℕ) (d : Entry) → k < length es → IsInternalKey (get_or es k d).key
        key_at [] keys k d lt = absurd (omega arith)
        key_at (e ∷ es) keys zero d lt = keys.0
        key_at (e ∷ es) keys (suc k) d lt = key_at es keys.1 k d (omega arith)

-- ---- the first and the last key, by their places

-- ---- a table among others

pub joined_append : (xs ys : List (List Entry)) → entries_of_lists (xs ++ ys) ≡ entries_of_lists xs ++ entries_of_lists ys
joined_append [] ys = refl
joined_append (x ∷ xs) ys = ap (λ (es : List Entry). x ++ es) (joined_append xs ys) ∙ sym (append_assoc x (entries_of_lists xs) (entries_of_lists ys))

-- entries fall in a kind of user keys, by what they contain
record Fall (P : List ℕ → Type 0) (es : List Entry) : Type 0 where
  keys : (e : Entry) → Contains es e → P (user_of e.key) → IsInternalKey e.key
  newer : Pairs (IsNewerIn P) es

module _ (P : List ℕ → Type 0) where
  to_fall : (es : List Entry) → AreFallingIn P es → Fall P es
  to_fall es h = record {
    keys = λ e at. All-contains (λ (x : Entry). P (user_of x.key) → IsInternalKey x.key) es e h.keys at;
    newer = pairs_from (IsNewerIn P) es h.newer;
  }

  of_fall : (es : List Entry) → Fall P es → AreFallingIn P es
  of_fall es h = record {
    keys = λ k d lt. h.keys (get_or es k d) (Contains-get_or es k d lt);
    newer = pairs_to (IsNewerIn P) es h.newer;
  }

  module _ (xs ys own : List Entry) where
    with_own : AreFalling own → ((a b : Entry) → Contains xs a → Contains own b → IsNewer a b) → ((a b : Entry) → Contains own a → Contains ys b → IsNewer a b) → Fall P (xs ++ ys) → Fall P (xs ++ (own ++ ys))
    with_own falls below above h = record {
      keys = λ e at of_kind. elim (Contains-append_cases xs (own ++ ys) e at) [
        | inl left ↦ h.keys e (Contains-append_left xs ys e left) of_kind
        | inr right ↦ elim (Contains-append_cases own ys e right) [
          | inl mine ↦ All-contains (λ (x : Entry). IsInternalKey x.key) own e falls.keys mine
          | inr behind ↦ h.keys e (Contains-append_right xs ys e behind) of_kind
        ]
      ];
      newer = pairs_append (IsNewerIn P) xs (own ++ ys) (pairs_left (IsNewerIn P) xs ys h.newer)
          (pairs_append (IsNewerIn P) own ys (in_kind own (pairs_from IsNewer own falls.newer)) (pairs_right (IsNewerIn P) xs ys h.newer) (λ a b i j of_kind. above a b i j))
          (λ a b i j of_kind. elim (Contains-append_cases own ys b j) [
            | inl mine ↦ below a b i mine
            | inr behind ↦ pairs_across (IsNewerIn P) xs ys h.newer a b i behind of_kind
          ]);
    }
      where
        in_kind : (es : List Entry) → Pairs IsNewer es → Pairs (IsNewerIn P) es
        in_kind [] pairs = tt
        in_kind (e ∷ es) pairs = (λ f at of_kind. pairs.0 f at, in_kind es pairs.1)

    without_own : Fall P (xs ++ (own ++ ys)) → Fall P (xs ++ ys)
    without_own h = record {
      keys = λ e at. elim (Contains-append_cases xs ys e at) [
        | inl left ↦ h.keys e (Contains-append_left xs (own ++ ys) e left)
        | inr right ↦ h.keys e (Contains-append_right xs (own ++ ys) e (Contains-append_right own ys e right))
      ];
      newer = pairs_append (IsNewerIn P) xs ys (pairs_left (IsNewerIn P) xs (own ++ ys) h.newer) (pairs_right (IsNewerIn P) own ys (pairs_right (IsNewerIn P) xs (own ++ ys) h.newer))
          (λ a b i j. pairs_across (IsNewerIn P) xs (own ++ ys) h.newer a b i (Contains-append_right own ys b j));
    }

pub left_out : (cmp : List ℕ → List ℕ → Ordering) (before : List (List Entry)) (entries : List Entry) (behind : List (List Entry)) → IsApartFromOthers before entries behind → FallAlike cmp (before ++ behind) (before ++ entries ∷ behind)
left_out cmp before entries behind h range =
    let P : List ℕ → Type 0 = IsIn cmp range in
    let xs = entries_of_lists before in
    let ys = entries_of_lists behind in
    let fewer : entries_of_lists (before ++ behind) ≡ xs ++ ys = joined_append before behind in
    let more : entries_of_lists (before ++ entries ∷ behind) ≡ xs ++ (entries ++ ys) = joined_append before (entries ∷ behind) in
    let below : (a b : Entry) → Contains xs a → Contains entries b → IsNewer a b = λ a b i j.
    let from = from_flat_map (λ (list : List Entry). list) before a i in
    newer_at from.source entries (h.below from.source from.there) a b from.held j in
    let above : (a b : Entry) → Contains entries a → Contains ys b → IsNewer a b = λ a b i j.
    let from = from_flat_map (λ (list : List Entry). list) behind b j in
    newer_at entries from.source (h.above from.source from.there) a b i from.held in (
      λ falls. subst (AreFallingIn P) (sym more) (of_fall P (xs ++ (entries ++ ys)) (with_own P xs ys entries h.falling below above (to_fall P (xs ++ ys) (subst (AreFallingIn P) fewer falls)))),
      λ falls. subst (AreFallingIn P) (sym fewer) (of_fall P (xs ++ ys) (without_own P xs ys entries (to_fall P (xs ++ (entries ++ ys)) (subst (AreFallingIn P) more falls)))),
    )

-- the law of bounds
pub bounds_tell : (cmp : List ℕ → List ℕ → Ordering) → IsTotalOrder cmp → IsExact cmp → BoundsTell cmp
bounds_tell cmp total exact = record {
  alone = alone cmp total exact;
  apart = λ newer older one two h. apart_newer cmp total newer older one.rising two.rising h;
  left_out = left_out cmp;
}

-- ---- the tables one after the other

module _ (cmp : List ℕ → List ℕ → Ordering) where
  same_alike : (lists others : List (List Entry)) → lists ≡ others → FallAlike cmp lists others
  same_alike lists others same range = (subst (λ (ls : List (List Entry)). AreFallingIn (IsIn cmp range) (entries_of_lists ls)) same, subst (λ (ls : List (List Entry)). AreFallingIn (IsIn cmp range) (entries_of_lists ls)) (sym same))

  through : (a b c : List (List Entry)) → FallAlike cmp a b → FallAlike cmp b c → FallAlike cmp a c
  through a b c one two range = (λ h. (two range).0 ((one range).0 h), λ h. (one range).1 ((two range).1 h))

  -- none is walked so far
  pub walk_begins : (walked all : List (List Entry)) → walked ≡ [] → FallAlike cmp (walked ++ drop 0 all) all
  walk_begins walked all none = same_alike (walked ++ drop 0 all) all (ap (λ (ls : List (List Entry)). ls ++ all) none)

  -- the table at a place, and those after it
  here : (all : List (List Entry)) (place : ℕ) (own : List Entry) → place < length all → own ≡ get_or all place own → drop place all ≡ own ∷ drop (place + 1) all
  here all place own lt is = drop_more all place own lt ∙ ap (λ (x : List Entry). x ∷ drop (place + 1) all) (sym is)

  -- it is walked
  pub walk_goes_on : (walked all : List (List Entry)) (place : ℕ) (own : List Entry) → place < length all → own ≡ get_or all place own → FallAlike cmp (walked ++ drop place all) all → FallAlike cmp ((walked ++ own ∷ []) ++ drop (place + 1) all) all
  walk_goes_on walked all place own lt is so_far =
      through ((walked ++ own ∷ []) ++ drop (place + 1) all) (walked ++ drop place all) all
      (same_alike ((walked ++ own ∷ []) ++ drop (place + 1) all) (walked ++ drop place all) (append_assoc walked (own ∷ []) (drop (place + 1) all) ∙ ap (λ (ls : List (List Entry)). walked ++ ls) (sym (here all place own lt is))))
      so_far

  -- it is left out
  pub walk_passes : (walked all : List (List Entry)) (place : ℕ) (own : List Entry) → place < length all → own ≡ get_or all place own → ((list : List Entry) → Contains walked list → Contains (take place all) list)
      → IsApartFromOthers (take place all) own (drop (place + 1) all) → FallAlike cmp (walked ++ drop place all) all → FallAlike cmp (walked ++ drop (place + 1) all) all
  walk_passes walked all place own lt is from settled so_far =
      let rest = drop (place + 1) all in
      let among : IsApartFromOthers walked own rest = record { falling = settled.falling; below = λ other at. settled.below other (from other at); above = settled.above } in
      through (walked ++ rest) (walked ++ own ∷ rest) all (left_out cmp walked own rest among)
      (through (walked ++ own ∷ rest) (walked ++ drop place all) all (same_alike (walked ++ own ∷ rest) (walked ++ drop place all) (ap (λ (ls : List (List Entry)). walked ++ ls) (sym (here all place own lt is)))) so_far)

  -- no more tables are left
  pub walk_ends : (walked all : List (List Entry)) (place : ℕ) → length all ≤ place → FallAlike cmp (walked ++ drop place all) all → FallAlike cmp walked all
  walk_ends walked all place le so_far =
      through walked (walked ++ drop place all) all
      (same_alike walked (walked ++ drop place all) (sym (ap (λ (ls : List (List Entry)). walked ++ ls) (nil_from_length (drop place all) (omega (arith, length-drop place all, le))) ∙ append-nil walked)))
      so_far

-- those that are walked are among those so far
pub more_from : (walked all : List (List Entry)) (place : ℕ) (own : List Entry) → place < length all → own ≡ get_or all place own → ((list : List Entry) → Contains walked list → Contains (take place all) list)
    → (list : List Entry) → Contains (walked ++ own ∷ []) list → Contains (take (place + 1) all) list
more_from walked all place own lt is from list at =
    let more : take (place + 1) all ≡ take place all ++ own ∷ [] = take_more all place own lt ∙ ap (λ (x : List Entry). take place all ++ x ∷ []) (sym is) in
    subst (λ (ls : List (List Entry)). Contains ls list) (sym more) (elim (Contains-append_cases walked (own ∷ []) list at) [
      | inl before ↦ Contains-append_left (take place all) (own ∷ []) list (from list before)
      | inr mine ↦ Contains-append_right (take place all) (own ∷ []) list mine
    ])

pub still_from : (walked all : List (List Entry)) (place : ℕ) (own : List Entry) → place < length all → ((list : List Entry) → Contains walked list → Contains (take place all) list)
    → (list : List Entry) → Contains walked list → Contains (take (place + 1) all) list
still_from walked all place own lt from list at =
    subst (λ (ls : List (List Entry)). Contains ls list) (sym (take_more all place own lt)) (Contains-append_left (take place all) (get_or all place own ∷ []) list (from list at))

-- ---- what holds of each table

pub all_more : (Q : List Entry → Type 0) (all : List (List Entry)) (place : ℕ) (own : List Entry) → place < length all → own ≡ get_or all place own → ((list : List Entry) → Contains (take place all) list → Q list) → Q own
    → (list : List Entry) → Contains (take (place + 1) all) list → Q list
all_more Q all place own lt is so_far mine list at =
    let more : take (place + 1) all ≡ take place all ++ own ∷ [] = take_more all place own lt ∙ ap (λ (x : List Entry). take place all ++ x ∷ []) (sym is) in
    elim (Contains-append_cases (take place all) (own ∷ []) list (subst (λ (ls : List (List Entry)). Contains ls list) more at)) [
      | inl before ↦ so_far list before
      | inr here ↦ elim (first_or_later own [] list here) [
        | inl same ↦ subst Q (sym same) mine
        | inr later ↦ absurd (none_in list later)
      ]
    ]

pub all_so_far : (all : List (List Entry)) (place : ℕ) → length all ≤ place → (list : List Entry) → Contains all list → Contains (take place all) list
all_so_far all place le list at = subst (λ (ls : List (List Entry)). Contains ls list) (sym (take_all place all le)) at

-- ---- what is told of those that are walked

pub told_alike : (cmp : List ℕ → List ℕ → Ordering) (range : KeyRange) (walked all : List (List Entry)) → FallAlike cmp walked all → (r : Result Bool Fault) → IfOk r (λ falls. (falls ≡ true) ↔ AreFallingIn (IsIn cmp range) (entries_of_lists walked))
    → IfOk r (λ falls. (falls ≡ true) ↔ AreFallingIn (IsIn cmp range) (entries_of_lists all))
told_alike cmp range walked all alike (Ok falls) h = (λ is. (alike range).0 (h.0 is), λ each. h.1 ((alike range).1 each))
told_alike cmp range walked all alike (Err e) h = tt

pub none_walked : (cmp : List ℕ → List ℕ → Ordering) (range : KeyRange) (walked all : List (List Entry)) → FallAlike cmp walked all → walked ≡ [] → (true ≡ true) ↔ AreFallingIn (IsIn cmp range) (entries_of_lists all)
none_walked cmp range walked all alike none = (λ _. (alike range).0 (subst (λ (ls : List (List Entry)). AreFallingIn (IsIn cmp range) (entries_of_lists ls)) (sym none) nothing), λ _. refl)
  where
    nothing : AreFallingIn (IsIn cmp range) []
    nothing = record { keys = λ k d lt. absurd (omega arith); newer = λ i j d lt below. absurd (omega arith) }
