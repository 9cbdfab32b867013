-- The user keys that are not in their order, one after the other.
use Rattle.std.proofs.Common.{◌≡◌, ℕ, ◌<◌, Bool, true, false, cond, List, [], ◌∷◌, ◌++◌, length, map, take, drop, append-nil, Option, Some, None, refl, sym, ap, subst, ◌∙◌, inl, inr, arith}
use Rattle.std.specs.Prelude.{◌≢◌, ◌⊎◌, Contains}
use Rattle.std.specs.List.{AllByRecursion, filter}
use Rattle.std.specs.Option.{ForSome, option_map, option_map_or, option_to_list}
use Rattle.std.specs.Cmp.{IsTotalOrder}
use Rattle.std.specs.Ordering.{is_lt}
use Rattle.std.specs.Str.{bytes_eq}
use Rattle.std.specs.declared.cmp.Ordering.TheVariants.{Less}
use Rattle.std.proofs.lemmas.List.{length-map, take_all}
use Rattle.std.proofs.lemmas.List.Elements.{Contains-append_cases, Contains-append_left, Contains-append_right}
use Rattle.std.proofs.lemmas.Slice.Eq.{bytes_eq-Decides}
use Rattle.std.proofs.lemmas.Bool.{both_ways}
use Rattle.std.proofs.lemmas.Option.{same_Some}
use Rattle.table.specs.Comparator.{IsExact, KeyOrder}
use Rattle.table.specs.Key.{user_of}
use Rattle.table.specs.EntriesFrom.{NeverFalls}
use Rattle.reads.specs.Boundaries.{KeysRise}
use Rattle.reads.specs.Ranges.{IsIn, KeyRange}
use Rattle.table.specs.EncodedEntry.{Entry}
use Rattle.table.proofs.Steps.{past_end}
use Rattle.table.proofs.Ordered.{is_lt-true, is_lt-false}
use Rattle.merge.specs.MergedLists.{entries_of_lists}
use Rattle.reads.proofs.Members.{first_in, first_or_later, from_filter, from_flat_map, from_map, in_filter, in_flat_map, in_map, none_in}
use Rattle.reads.proofs.Orders.{not_before_itself}
use Rattle.reads.proofs.Pairs.{Pairs, pairs_append, pairs_from, pairs_map, pairs_to, pairs_unmap}
use Rattle.faults.specs.VersionFault.{MisplacedKey}
use Rattle.faults.specs.KeyFaults.{FileEntries, SearchedEntry, first_break, is_of, misplaced_at, searched_in, searched_of}
use Rattle.faults.specs.KeyWalk.{AreAllFrom, AreMisplacedIn, IsBelowBound, IsNextUser, after_user, found_keys, with_user}
use Rattle.faults.proofs.UserEntries.{files_after, files_part, lists_of, of_user, other_files, own_files, parts_length, searched, user_is}

-- ---- a misplaced key

abbrev pub key_of : List ℕ → ℕ × ℕ → MisplacedKey
key_of user files = record { user = user; file = files.0; other = files.1 }

pub own_user : (user : List ℕ) (o : Option (ℕ × ℕ)) (k : MisplacedKey) → option_map (key_of user) o ≡ Some k → k.user ≡ user
own_user user None k h = absurd cc
own_user user (Some files) k h = ap (λ (o : Option MisplacedKey). option_map_or (λ (j : MisplacedKey). j.user) o user) (sym h)

pub misplaced_user : (entries : List SearchedEntry) (user : List ℕ) (k : MisplacedKey) → misplaced_at entries user ≡ Some k → k.user ≡ user
misplaced_user entries user k h = own_user user (first_break (filter (is_of user) entries)) k h

-- it has an entry
pub misplaced_entry : (entries : List SearchedEntry) (user : List ℕ) (k : MisplacedKey) → misplaced_at entries user ≡ Some k → (e : SearchedEntry) × Contains (filter (is_of user) entries) e
misplaced_entry entries user k h = by (filter (is_of user) entries) h
  where
    by : (es : List SearchedEntry) → option_map (key_of user) (first_break es) ≡ Some k → (e : SearchedEntry) × Contains es e
    by [] h = absurd cc
    by (e ∷ es) h = (e, first_in e es)

abbrev pub own_entries : FileEntries → List Entry
own_entries f = f.entries

abbrev user_in : MisplacedKey → List ℕ
user_in k = k.user

module _ (cmp : KeyOrder) where
  abbrev pub IsEarlier : MisplacedKey → MisplacedKey → Type 0
  IsEarlier j k = cmp j.user k.user ≡ Less

  abbrev Rises : List ℕ → List ℕ → Type 0
  Rises key later = cmp key later ≡ Less

  -- keys rise, by recursion
  pub rising_pairs : (keys : List MisplacedKey) (P : List ℕ → Type 0) (all : List SearchedEntry) → AreMisplacedIn cmp P all keys → Pairs IsEarlier keys
  rising_pairs keys P all h = pairs_unmap Rises user_in keys (pairs_from Rises (map user_in keys) h.rising)

  pub of_pairs : (keys : List MisplacedKey) → Pairs IsEarlier keys → KeysRise cmp (map user_in keys)
  of_pairs keys h = pairs_to Rises (map user_in keys) (pairs_map Rises user_in keys h)

-- ---- the next user key

record IsLike (fs : List FileEntries) (e : SearchedEntry) : Type 0 where
  entry : Entry
  there : Contains (entries_of_lists (map own_entries fs)) entry
  is : entry.key ≡ e.key

like_entry : (fs : List FileEntries) (e : SearchedEntry) → Contains (searched_of fs) e → IsLike fs e
like_entry fs e at =
    let from = from_flat_map searched_in fs e at in
    let of = from_map (searched from.source.number) from.source.entries e from.held in
    record { entry = of.source; there = in_flat_map (λ (l : List Entry). l) (map own_entries fs) from.source.entries of.source (in_map own_entries fs from.source from.there) of.there; is = ap (λ (x : SearchedEntry). x.key) of.is }

record IsSearchedLike (fs : List FileEntries) (x : Entry) : Type 0 where
  entry : SearchedEntry
  there : Contains (searched_of fs) entry
  is : entry.key ≡ x.key

searched_like : (fs : List FileEntries) (x : Entry) → Contains (entries_of_lists (map own_entries fs)) x → IsSearchedLike fs x
searched_like fs x at =
    let from = from_flat_map (λ (l : List Entry). l) (map own_entries fs) x at in
    let of = from_map own_entries fs from.source from.there in
    let held : Contains of.source.entries x = subst (λ (l : List Entry). Contains l x) (sym of.is) from.held in
    record { entry = searched of.source.number x; there = in_flat_map searched_in fs of.source (searched of.source.number x) of.there (in_map (searched of.source.number) of.source.entries x held); is = refl }

-- the same of the entries that are searched
record IsNextFound (cmp : KeyOrder) (upper : Option (List ℕ)) (entries : List SearchedEntry) (user : List ℕ) : Type 0 where
  entry : SearchedEntry
  there : Contains entries entry
  is : user_of entry.key ≡ user
  least : (e : SearchedEntry) → Contains entries e → cmp (user_of e.key) user ≢ Less
  within : IsBelowBound cmp upper user

next_found : (cmp : KeyOrder) (upper : Option (List ℕ)) (fs : List FileEntries) (user : List ℕ) → IsNextUser cmp upper (entries_of_lists (map own_entries fs)) user → IsNextFound cmp upper (searched_of fs) user
next_found cmp upper fs user next =
    let own = searched_like fs next.entry next.there in
    record {
      entry = own.entry;
      there = own.there;
      is = ap user_of own.is ∙ next.is;
      least = λ e at. let x = like_entry fs e at in subst (λ (k : List ℕ). cmp (user_of k) user ≢ Less) x.is (next.least x.entry x.there);
      within = next.within;
    }

some_there : {X : Type 0} (x : X) (xs : List X) → Contains xs x → 0 < length xs
some_there x [] at = absurd (none_in x at)
some_there x (y ∷ ys) at = omega arith

-- fewer entries are left
pub fewer : (cmp : KeyOrder) (total : IsTotalOrder cmp) (exact : IsExact cmp) (upper : Option (List ℕ)) (fs : List FileEntries) (user : List ℕ) → IsNextUser cmp upper (entries_of_lists (map own_entries fs)) user → AllByRecursion (NeverFalls cmp) (lists_of cmp total exact fs)
    → length (searched_of (map (after_user user) fs)) < length (searched_of fs)
fewer cmp total exact upper fs user upcoming falls =
    let next = next_found cmp upper fs user upcoming in
    let own : Contains (searched_of (map (with_user user) fs)) next.entry =
    subst (λ (es : List SearchedEntry). Contains es next.entry) (own_files cmp total exact fs user falls next.least) (in_filter (is_of user) (searched_of fs) next.entry (user_is user next.entry next.is) next.there) in
    omega (arith, parts_length cmp total exact fs user, some_there next.entry (searched_of (map (with_user user) fs)) own)

-- a list that was written over wholly
written : {X : Type 0} (n : ℕ) (new old after : List X) → n ≡ length old → length new ≡ length old → new ≡ after → take n (new ++ drop (length new) old) ≡ after
written n new old after len same is =
    let none : drop (length new) old ≡ [] = past_end old (length new) (omega (arith, same)) in
    ap (λ xs. take n (new ++ xs)) none ∙ ap (take n) (append-nil new) ∙ take_all n new (omega (arith, len, same)) ∙ is

-- files that a call was lent, and that lost the entries of a user key
pub left_is : (n : ℕ) (files lent new : List FileEntries) (user own : List ℕ) → lent ≡ files → own ≡ user → n ≡ length lent → new ≡ map (after_user own) lent → take n (new ++ drop (length new) files) ≡ map (after_user user) files
left_is n files lent new user own same is room after =
    let now : new ≡ map (after_user user) files = after ∙ ap (λ (u : List ℕ). map (after_user u) lent) is ∙ ap (map (after_user user)) same in
    let long : length new ≡ length files = ap (λ (fs : List FileEntries). length fs) now ∙ length-map files (after_user user) in
    written n new files (map (after_user user) files) (room ∙ ap (λ (fs : List FileEntries). length fs) same) long now

module _ (cmp : KeyOrder) (total : IsTotalOrder cmp) (exact : IsExact cmp) (range : KeyRange) (all : List SearchedEntry) where
  -- all entries that are left are of later user keys
  abbrev pub IsGone : List FileEntries → List ℕ → Type 0
  IsGone fs user = (e : SearchedEntry) → Contains (searched_of fs) e → cmp user (user_of e.key) ≡ Less

  abbrev IsOver : List FileEntries → List ℕ → Type 0
  IsOver fs user = IsIn cmp range user × IsGone fs user

  -- the keys so far, and what is left
  pub record IsWalkedTo (fs : List FileEntries) (keys : List MisplacedKey) : Type 0 where
    pub found : AreMisplacedIn cmp (IsOver fs) all keys
    pub rest : (user : List ℕ) → IsGone fs user ⊎ (filter (is_of user) (searched_of fs) ≡ filter (is_of user) all)

  -- what is gone has no entry that is left
  gone_none : (fs : List FileEntries) (user : List ℕ) → IsGone fs user → (e : SearchedEntry) → Contains (filter (is_of user) (searched_of fs)) e → ⊥
  gone_none fs user gone e at =
      let from = from_filter (is_of user) (searched_of fs) e at in
      not_before_itself cmp total user (subst (λ (u : List ℕ). cmp user u ≡ Less) (of_user user e from.1) (gone e from.0))

  -- so a misplaced key that is gone was all gone before
  gone_misplaced : (fs : List FileEntries) (user : List ℕ) (k : MisplacedKey) → IsGone fs user → filter (is_of user) (searched_of fs) ≡ filter (is_of user) all → misplaced_at all user ≡ Some k → ⊥
  gone_misplaced fs user k gone same is =
      let has = misplaced_entry all user k is in
      gone_none fs user gone has.0 (subst (λ (es : List SearchedEntry). Contains es has.0) (sym same) has.1)

  pub walk_begin : (fs : List FileEntries) → all ≡ searched_of fs → IsWalkedTo fs []
  walk_begin fs same = record {
    found = record {
      rising = λ i j d lt below. absurd (omega arith);
      each = λ k at. absurd (none_in k at);
      all = λ user k over is. absurd (gone_misplaced fs user k over.1 (ap (filter (is_of user)) (sym same)) is);
    };
    rest = λ user. inr (ap (filter (is_of user)) (sym same));
  }

  pub walk_end : (fs : List FileEntries) (keys : List MisplacedKey) → AreAllFrom cmp range.upper (entries_of_lists (map own_entries fs)) → IsWalkedTo fs keys → AreMisplacedIn cmp (IsIn cmp range) all keys
  walk_end fs keys from walked = record {
    rising = walked.found.rising;
    each = λ k at. let own = walked.found.each k at in (own.0.0, own.1);
    all = λ user k within is. elim (walked.rest user) [
      | inl gone ↦ walked.found.all user k (within, gone) is
      | inr same ↦ absurd (left user k within same is)
    ];
  }
    where
      left : (user : List ℕ) (k : MisplacedKey) → IsIn cmp range user → filter (is_of user) (searched_of fs) ≡ filter (is_of user) all → misplaced_at all user ≡ Some k → ⊥
      left user k within same is =
          let has = misplaced_entry all user k is in
          let here = from_filter (is_of user) (searched_of fs) has.0 (subst (λ (es : List SearchedEntry). Contains es has.0) (sym same) has.1) in
          let x = like_entry fs has.0 here.0 in
          from x.entry x.there (subst (IsBelowBound cmp range.upper) (sym (ap user_of x.is ∙ of_user user has.0 here.1)) within.before)

  -- ---- one user key more

  module _ (fs : List FileEntries) (keys : List MisplacedKey) (walked : IsWalkedTo fs keys) (user : List ℕ) (upcoming : IsNextUser cmp range.upper (entries_of_lists (map own_entries fs)) user) (falls : AllByRecursion (NeverFalls cmp) (lists_of cmp total exact fs))
      (found : Option (ℕ × ℕ)) (order : found ≡ first_break (searched_of (map (with_user user) fs))) where
    abbrev after : List FileEntries
    after = map (after_user user) fs

    next : IsNextFound cmp range.upper (searched_of fs) user
    next = next_found cmp range.upper fs user upcoming

    abbrev new : List MisplacedKey
    new = found_keys cmp range.lower user found

    gone_on : (u : List ℕ) → IsGone fs u → IsGone after u
    gone_on u gone e at = gone e (files_part cmp total exact fs user e at)

    user_gone : IsGone after user
    user_gone e at = files_after cmp total exact fs user falls next.least e at

    not_gone : IsGone fs user → ⊥
    not_gone gone = not_before_itself cmp total user (subst (λ (u : List ℕ). cmp user u ≡ Less) next.is (gone next.entry next.there))

    at_user : misplaced_at all user ≡ option_map (key_of user) found
    at_user = elim (walked.rest user) [
      | inl gone ↦ absurd (not_gone gone)
      | inr same ↦ ap (λ (es : List SearchedEntry). option_map (key_of user) (first_break es)) (sym same ∙ own_files cmp total exact fs user falls next.least) ∙ ap (option_map (key_of user)) (sym order)
    ]

    within_of : option_map_or (λ limit. is_lt (cmp user limit)) range.lower false ≡ false → IsIn cmp range user
    within_of h = record { from = from_of range.lower h; before = next.within }
      where
        from_of : (lower : Option (List ℕ)) → option_map_or (λ limit. is_lt (cmp user limit)) lower false ≡ false → ForSome lower (λ l. cmp user l ≢ Less)
        from_of None h = λ x e. absurd cc
        from_of (Some l) h = λ x e. subst (λ (k : List ℕ). cmp user k ≢ Less) (same_Some l x e) (is_lt-false (cmp user l) h)

    before_out : option_map_or (λ limit. is_lt (cmp user limit)) range.lower false ≡ true → IsIn cmp range user → ⊥
    before_out h within = by range.lower h within.from
      where
        by : (lower : Option (List ℕ)) → option_map_or (λ limit. is_lt (cmp user limit)) lower false ≡ true → ForSome lower (λ l. cmp user l ≢ Less) → ⊥
        by None h from = absurd cc
        by (Some l) h from = from l refl (is_lt-true (cmp user l) h)

    -- what is added
    record IsNew (k : MisplacedKey) : Type 0 where
      within : IsIn cmp range user
      is : option_map (key_of user) found ≡ Some k

    new_is : (k : MisplacedKey) → Contains new k → IsNew k
    new_is k at = by (option_map_or (λ limit. is_lt (cmp user limit)) range.lower false) refl (option_map (key_of user) found) refl at
      where
        by : (b : Bool) → option_map_or (λ limit. is_lt (cmp user limit)) range.lower false ≡ b → (o : Option MisplacedKey) → option_map (key_of user) found ≡ o → Contains (cond b [] (option_to_list o)) k → IsNew k
        by true e o is at = absurd (none_in k at)
        by false e None is at = absurd (none_in k at)
        by false e (Some j) is at = record { within = within_of e; is = is ∙ one j at }
          where
            one : (j : MisplacedKey) → Contains (j ∷ []) k → Some j ≡ Some k
            one j at = elim (first_or_later j [] k at) [ inl same ↦ ap (λ (x : MisplacedKey). Some x) (sym same) | inr later ↦ absurd (none_in k later) ]

    is_new : (k : MisplacedKey) → IsIn cmp range user → option_map (key_of user) found ≡ Some k → Contains new k
    is_new k within is = by (option_map_or (λ limit. is_lt (cmp user limit)) range.lower false) refl
      where
        by : (b : Bool) → option_map_or (λ limit. is_lt (cmp user limit)) range.lower false ≡ b → Contains (cond b [] (option_to_list (option_map (key_of user) found))) k
        by true e = absurd (before_out e within)
        by false e = subst (λ (o : Option MisplacedKey). Contains (option_to_list o) k) (sym is) (first_in k [])

    new_rises : Pairs (IsEarlier cmp) new
    new_rises = by (option_map_or (λ limit. is_lt (cmp user limit)) range.lower false) (option_map (key_of user) found)
      where
        by : (b : Bool) (o : Option MisplacedKey) → Pairs (IsEarlier cmp) (cond b [] (option_to_list o))
        by true o = tt
        by false None = tt
        by false (Some k) = (λ j at. absurd (none_in j at), tt)

    across : (j k : MisplacedKey) → Contains keys j → Contains new k → IsEarlier cmp j k
    across j k i l =
        let gone : IsGone fs j.user = (walked.found.each j i).0.1 in
        let own : k.user ≡ user = own_user user found k (new_is k l).is in
        subst (λ (u : List ℕ). cmp j.user u ≡ Less) (next.is ∙ sym own) (gone next.entry next.there)

    -- one that is gone now was gone before, or is this one
    gone_before : (u : List ℕ) (k : MisplacedKey) → IsGone after u → misplaced_at all u ≡ Some k → IsGone fs u ⊎ (user ≡ u)
    gone_before u k gone is = elim (walked.rest u) [ inl before ↦ inl before | inr same ↦ by (bytes_eq user u) refl same ]
      where
        by : (b : Bool) → bytes_eq user u ≡ b → filter (is_of u) (searched_of fs) ≡ filter (is_of u) all → IsGone fs u ⊎ (user ≡ u)
        by true e same = inr ((bytes_eq-Decides user u).0 e)
        by false e same = absurd (gone_misplaced after u k gone (other_files cmp total exact fs user u (λ h. both_ways (bytes_eq user u) e ((bytes_eq-Decides user u).1 h)) ∙ same) is)

    pub walk_more : (after_keys : List MisplacedKey) → after_keys ≡ keys ++ new → IsWalkedTo after after_keys
    walk_more after_keys pushed = subst (IsWalkedTo after) (sym pushed) (record {
      found = record {
        rising = of_pairs cmp (keys ++ new) (pairs_append (IsEarlier cmp) keys new (rising_pairs cmp keys (IsOver fs) all walked.found) new_rises across);
        each = λ k at. elim (Contains-append_cases keys new k at) [
          | inl old ↦ let own = walked.found.each k old in ((own.0.0, gone_on k.user own.0.1), own.1)
          | inr late ↦ each_new k (new_is k late)
        ];
        all = λ u k over is. elim (gone_before u k over.1 is) [
          | inl gone ↦ Contains-append_left keys new k (walked.found.all u k (over.0, gone) is)
          | inr same ↦ Contains-append_right keys new k (is_new k (subst (IsIn cmp range) (sym same) over.0) (sym at_user ∙ ap (misplaced_at all) same ∙ is))
        ];
      };
      rest = rest_after;
    })
      where
        each_new : (k : MisplacedKey) → IsNew k → IsOver after k.user × (misplaced_at all k.user ≡ Some k)
        each_new k h =
            let own : k.user ≡ user = own_user user found k h.is in (
              (subst (IsIn cmp range) (sym own) h.within, subst (IsGone after) (sym own) user_gone),
              ap (misplaced_at all) own ∙ at_user ∙ h.is,
            )

        rest_after : (u : List ℕ) → IsGone after u ⊎ (filter (is_of u) (searched_of after) ≡ filter (is_of u) all)
        rest_after u = elim (walked.rest u) [ inl gone ↦ inl (gone_on u gone) | inr same ↦ by (bytes_eq user u) refl same ]
          where
            by : (b : Bool) → bytes_eq user u ≡ b → filter (is_of u) (searched_of fs) ≡ filter (is_of u) all → IsGone after u ⊎ (filter (is_of u) (searched_of after) ≡ filter (is_of u) all)
            by true e same = inl (subst (IsGone after) ((bytes_eq-Decides user u).0 e) user_gone)
            by false e same = inr (other_files cmp total exact fs user u (λ h. both_ways (bytes_eq user u) e ((bytes_eq-Decides user u).1 h)) ∙ same)
