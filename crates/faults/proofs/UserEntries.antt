-- The entries of a user key at the front of files, and what comes after them.
use Rattle.std.proofs.Common.{◌≡◌, ℕ, ◌+◌, suc, Bool, true, false, cond, List, [], ◌∷◌, ◌++◌, length, map, refl, sym, ap, ap₂, subst, ◌∙◌, arith}
use Rattle.std.specs.Prelude.{◌≢◌, Contains}
use Rattle.std.specs.List.{AllByRecursion, filter}
use Rattle.std.specs.Cmp.{IsTotalOrder}
use Rattle.std.specs.Ordering.{is_le, nat_cmp, ordering_reverse, ordering_then}
use Rattle.std.specs.declared.cmp.Ordering.{Ordering}
use Rattle.std.specs.declared.cmp.Ordering.TheVariants.{Less, Equal, Greater}
use Rattle.std.proofs.lemmas.List.{length-append, length-map}
use Rattle.std.proofs.lemmas.List.Elements.{Contains-append_left, Contains-append_right, filter-append}
use Rattle.std.proofs.lemmas.Slice.Eq.{bytes_eq-Decides}
use Rattle.std.proofs.lemmas.Bool.{both_ways, false_from_ne_true}
use Rattle.table.specs.Comparator.{IsExact, KeyOrder}
use Rattle.table.specs.Key.{user_of, sequence_of, kind_of, kind_number}
use Rattle.table.specs.Order.{internal_cmp}
use Rattle.table.specs.EncodedEntry.{Entry}
use Rattle.table.specs.EntriesFrom.{NeverFalls}
use Rattle.reads.proofs.FallingEntries.{each_of, of_each}
use Rattle.reads.proofs.Members.{from_flat_map, from_map, in_flat_map, in_map}
use Rattle.reads.proofs.Orders.{not_before_itself}
use Rattle.faults.specs.KeyFaults.{FileEntries, SearchedEntry, is_of, searched_in, searched_of}
use Rattle.faults.specs.KeyWalk.{after_user, entries_after_user, entries_of_user, is_user, with_user}

-- ---- tests

pub of_user : (user : List ℕ) (e : SearchedEntry) → is_of user e ≡ true → user_of e.key ≡ user
of_user user e h = (bytes_eq-Decides (user_of e.key) user).0 h

pub user_is : (user : List ℕ) (e : SearchedEntry) → user_of e.key ≡ user → is_of user e ≡ true
user_is user e h = (bytes_eq-Decides (user_of e.key) user).1 h

-- an entry of a file
abbrev pub searched : ℕ → Entry → SearchedEntry
searched n e = record { file = n; key = e.key }

-- ---- the entries of one file

pub all_behind : (P : Entry → Type 0) (user : List ℕ) (es : List Entry) → AllByRecursion P es → AllByRecursion P (entries_after_user user es)
all_behind P user [] h = tt
all_behind P user (e ∷ es) h = by (is_user user e) (all_behind P user es h.1)
  where
    by : (b : Bool) → AllByRecursion P (entries_after_user user es) → AllByRecursion P (cond b (entries_after_user user es) (e ∷ es))
    by true rest = rest
    by false rest = h

-- those of other user keys are left
other_left : (n : ℕ) (user other : List ℕ) → (user ≡ other → ⊥) → (es : List Entry) → filter (is_of other) (map (searched n) (entries_after_user user es)) ≡ filter (is_of other) (map (searched n) es)
other_left n user other isnt [] = refl
other_left n user other isnt (e ∷ es) = by (is_user user e) refl (other_left n user other isnt es)
  where
    rest_of : List SearchedEntry
    rest_of = filter (is_of other) (map (searched n) es)

    by : (b : Bool) → is_user user e ≡ b → filter (is_of other) (map (searched n) (entries_after_user user es)) ≡ rest_of
        → filter (is_of other) (map (searched n) (cond b (entries_after_user user es) (e ∷ es))) ≡ cond (is_of other (searched n e)) (searched n e ∷ rest_of) rest_of
    by true is rest =
        let own : user_of e.key ≡ user = of_user user (searched n e) is in
        let isnt_other : is_of other (searched n e) ≡ false = false_from_ne_true (is_of other (searched n e)) (λ h. isnt (sym own ∙ of_user other (searched n e) h)) in
        rest ∙ sym (ap (λ (c : Bool). cond c (searched n e ∷ rest_of) rest_of) isnt_other)
    by false is rest = refl

-- the entries of a file are those at its front, and those after them
split_length : (user : List ℕ) (es : List Entry) → length es ≡ length (entries_of_user user es) + length (entries_after_user user es)
split_length user [] = refl
split_length user (e ∷ es) = by (is_user user e) (split_length user es)
  where
    one_more : (a b c : ℕ) → a ≡ b + c → suc a ≡ suc b + c
    one_more a b c h = omega arith

    none_more : (a : ℕ) → a ≡ 0 + a
    none_more a = omega arith

    by : (b : Bool) → length es ≡ length (entries_of_user user es) + length (entries_after_user user es)
        → suc (length es) ≡ length (cond b (e ∷ entries_of_user user es) []) + length (cond b (entries_after_user user es) (e ∷ es))
    by true rest = one_more (length es) (length (entries_of_user user es)) (length (entries_after_user user es)) rest
    by false rest = none_more (suc (length es))

module _ (cmp : KeyOrder) (total : IsTotalOrder cmp) (exact : IsExact cmp) where
  first_le : (o p : Ordering) → is_le (ordering_then o p) ≡ true → is_le o ≡ true
  first_le Less p h = refl
  first_le Equal p h = refl
  first_le Greater p h = h

  users_le : (a b : List ℕ) → is_le (internal_cmp cmp a b) ≡ true → is_le (cmp (user_of a) (user_of b)) ≡ true
  unfolding internal_cmp
  users_le a b h =
      first_le (cmp (user_of a) (user_of b)) (ordering_then (nat_cmp (sequence_of b) (sequence_of a)) (nat_cmp (kind_number (kind_of b)) (kind_number (kind_of a)))) h

  before_le : (u x y : List ℕ) → cmp u x ≡ Less → is_le (cmp x y) ≡ true → cmp u y ≡ Less
  before_le u x y less le = by (cmp x y) refl le
    where
      by : (o : Ordering) → cmp x y ≡ o → is_le o ≡ true → cmp u y ≡ Less
      by Less e h = total.trans u x y less e
      by Equal e h = total.antisymm u y ∙ ap ordering_reverse (sym (total.congr x y u e)) ∙ sym (total.antisymm u x) ∙ less
      by Greater e h = absurd cc

  -- a user key that isn't before another one and isn't it comes after it
  after_other : (x u : List ℕ) → cmp x u ≢ Less → (x ≡ u → ⊥) → cmp u x ≡ Less
  after_other x u from isnt = by (cmp x u) refl
    where
      by : (o : Ordering) → cmp x u ≡ o → cmp u x ≡ Less
      by Less e = absurd (from e)
      by Equal e = absurd (isnt (exact x u e))
      by Greater e = total.antisymm u x ∙ ap ordering_reverse e

  -- an entry's user key comes after this one
  abbrev pub IsAfter : List ℕ → Entry → Type 0
  IsAfter user e = cmp user (user_of e.key) ≡ Less

  abbrev pub IsFrom : List ℕ → Entry → Type 0
  IsFrom user e = cmp (user_of e.key) user ≢ Less

  all_after : (user : List ℕ) (e : Entry) (es : List Entry) → AllByRecursion (λ f. is_le (internal_cmp cmp e.key f.key) ≡ true) es → IsAfter user e → AllByRecursion (IsAfter user) es
  all_after user e [] h after = tt
  all_after user e (f ∷ fs) h after = (before_le user (user_of e.key) (user_of f.key) after (users_le e.key f.key h.0), all_after user e fs h.1 after)

  -- from the first entry of another user key on
  from_other : (user : List ℕ) (e : Entry) (es : List Entry) → NeverFalls cmp (e ∷ es) → IsFrom user e → is_user user e ≡ false → AllByRecursion (IsAfter user) (e ∷ es)
  from_other user e es falls from isnt =
      let first : IsAfter user e = after_other (user_of e.key) user from (λ same. both_ways (is_user user e) isnt ((bytes_eq-Decides (user_of e.key) user).1 same)) in
      (first, all_after user e es falls.0 first)

  -- what comes after the front is of later user keys
  behind_after : (user : List ℕ) (es : List Entry) → NeverFalls cmp es → AllByRecursion (IsFrom user) es → AllByRecursion (IsAfter user) (entries_after_user user es)
  behind_after user [] falls from = tt
  behind_after user (e ∷ es) falls from = by (is_user user e) refl (behind_after user es falls.1 from.1)
    where
      by : (b : Bool) → is_user user e ≡ b → AllByRecursion (IsAfter user) (entries_after_user user es) → AllByRecursion (IsAfter user) (cond b (entries_after_user user es) (e ∷ es))
      by true is rest = rest
      by false is rest = from_other user e es falls from.0 is

  none_own : (n : ℕ) (user : List ℕ) (es : List Entry) → AllByRecursion (IsAfter user) es → filter (is_of user) (map (searched n) es) ≡ []
  none_own n user [] h = refl
  none_own n user (e ∷ es) h =
      let isnt : is_of user (searched n e) ≡ false =
      false_from_ne_true (is_of user (searched n e)) (λ is. not_before_itself cmp total user (subst (λ (u : List ℕ). cmp user u ≡ Less) (of_user user (searched n e) is) h.0)) in
      ap (λ (b : Bool). cond b (searched n e ∷ filter (is_of user) (map (searched n) es)) (filter (is_of user) (map (searched n) es))) isnt ∙ none_own n user es h.1

  -- the front has all entries of the user key
  own_front : (n : ℕ) (user : List ℕ) (es : List Entry) → NeverFalls cmp es → AllByRecursion (IsFrom user) es → filter (is_of user) (map (searched n) es) ≡ map (searched n) (entries_of_user user es)
  own_front n user [] falls from = refl
  own_front n user (e ∷ es) falls from = by (is_user user e) refl (own_front n user es falls.1 from.1)
    where
      rest_of : List SearchedEntry
      rest_of = filter (is_of user) (map (searched n) es)

      by : (b : Bool) → is_user user e ≡ b → rest_of ≡ map (searched n) (entries_of_user user es) → cond b (searched n e ∷ rest_of) rest_of ≡ map (searched n) (cond b (e ∷ entries_of_user user es) [])
      by true is rest = ap (λ (xs : List SearchedEntry). searched n e ∷ xs) rest
      by false is rest = none_own n user es (from_other user e es falls from.0 is).1

  -- ---- the entries of all files

  abbrev pub lists_of : List FileEntries → List (List Entry)
  lists_of fs = map (λ (f : FileEntries). f.entries) fs

  -- no entry is of an earlier user key
  abbrev pub AreFrom : List FileEntries → List ℕ → Type 0
  AreFrom fs user = (e : SearchedEntry) → Contains (searched_of fs) e → cmp (user_of e.key) user ≢ Less

  own_from : (f : FileEntries) (fs : List FileEntries) (user : List ℕ) → AreFrom (f ∷ fs) user → AllByRecursion (IsFrom user) f.entries
  own_from f fs user from = of_each (IsFrom user) f.entries (λ e at. from (searched f.number e) (Contains-append_left (searched_in f) (searched_of fs) (searched f.number e) (in_map (searched f.number) f.entries e at)))

  rest_from : (f : FileEntries) (fs : List FileEntries) (user : List ℕ) → AreFrom (f ∷ fs) user → AreFrom fs user
  rest_from f fs user from e at = from e (Contains-append_right (searched_in f) (searched_of fs) e at)

  pub own_files : (fs : List FileEntries) (user : List ℕ) → AllByRecursion (NeverFalls cmp) (lists_of fs) → AreFrom fs user → filter (is_of user) (searched_of fs) ≡ searched_of (map (with_user user) fs)
  own_files [] user falls from = refl
  own_files (f ∷ fs) user falls from =
      filter-append (is_of user) (searched_in f) (searched_of fs)
      ∙ ap₂ (λ (xs ys : List SearchedEntry). xs ++ ys) (own_front f.number user f.entries falls.0 (own_from f fs user from)) (own_files fs user falls.1 (rest_from f fs user from))

  pub other_files : (fs : List FileEntries) (user other : List ℕ) → (user ≡ other → ⊥) → filter (is_of other) (searched_of (map (after_user user) fs)) ≡ filter (is_of other) (searched_of fs)
  other_files [] user other isnt = refl
  other_files (f ∷ fs) user other isnt =
      filter-append (is_of other) (searched_in (after_user user f)) (searched_of (map (after_user user) fs))
      ∙ ap₂ (λ (xs ys : List SearchedEntry). xs ++ ys) (other_left f.number user other isnt f.entries) (other_files fs user other isnt)
      ∙ sym (filter-append (is_of other) (searched_in f) (searched_of fs))

  -- which entry of which file it is
  record IsBehind (fs : List FileEntries) (user : List ℕ) (e : SearchedEntry) : Type 0 where
    file : FileEntries
    file_there : Contains fs file
    entry : Entry
    there : Contains (entries_after_user user file.entries) entry
    is : searched file.number entry ≡ e

  behind_of : (fs : List FileEntries) (user : List ℕ) (e : SearchedEntry) → Contains (searched_of (map (after_user user) fs)) e → IsBehind fs user e
  behind_of fs user e at =
      let from = from_flat_map searched_in (map (after_user user) fs) e at in
      let file = from_map (after_user user) fs from.source from.there in
      let held : Contains (searched_in (after_user user file.source)) e = subst (λ (f : FileEntries). Contains (searched_in f) e) (sym file.is) from.held in
      let entry = from_map (searched file.source.number) (entries_after_user user file.source.entries) e held in
      record { file = file.source; file_there = file.there; entry = entry.source; there = entry.there; is = entry.is }

  in_files : (fs : List FileEntries) (f : FileEntries) (e : Entry) → Contains fs f → Contains f.entries e → Contains (searched_of fs) (searched f.number e)
  in_files fs f e i j = in_flat_map searched_in fs f (searched f.number e) i (in_map (searched f.number) f.entries e j)

  pub files_part : (fs : List FileEntries) (user : List ℕ) (e : SearchedEntry) → Contains (searched_of (map (after_user user) fs)) e → Contains (searched_of fs) e
  files_part fs user e at =
      let b = behind_of fs user e at in
      let own : Contains b.file.entries b.entry = each_of (Contains b.file.entries) (entries_after_user user b.file.entries) (all_behind (Contains b.file.entries) user b.file.entries (of_each (Contains b.file.entries) b.file.entries (λ x there. there))) b.entry b.there in
      subst (Contains (searched_of fs)) b.is (in_files fs b.file b.entry b.file_there own)

  pub files_after : (fs : List FileEntries) (user : List ℕ) → AllByRecursion (NeverFalls cmp) (lists_of fs) → AreFrom fs user → (e : SearchedEntry) → Contains (searched_of (map (after_user user) fs)) e → cmp user (user_of e.key) ≡ Less
  files_after fs user falls from e at =
      let b = behind_of fs user e at in
      let own_falls : NeverFalls cmp b.file.entries = each_of (NeverFalls cmp) (lists_of fs) falls b.file.entries (in_map (λ (f : FileEntries). f.entries) fs b.file b.file_there) in
      let own : AllByRecursion (IsFrom user) b.file.entries = of_each (IsFrom user) b.file.entries (λ x there. from (searched b.file.number x) (in_files fs b.file x b.file_there there)) in
      subst (λ (x : SearchedEntry). cmp user (user_of x.key) ≡ Less) b.is (each_of (IsAfter user) (entries_after_user user b.file.entries) (behind_after user b.file.entries own_falls own) b.entry b.there)

  pub parts_length : (fs : List FileEntries) (user : List ℕ) → length (searched_of fs) ≡ length (searched_of (map (with_user user) fs)) + length (searched_of (map (after_user user) fs))
  parts_length [] user = refl
  parts_length (f ∷ fs) user =
      let one : length (searched_in f) ≡ length (searched_in (with_user user f)) + length (searched_in (after_user user f)) =
      length-map f.entries (searched f.number) ∙ split_length user f.entries
      ∙ ap₂ (λ (a b : ℕ). a + b) (sym (length-map (entries_of_user user f.entries) (searched f.number))) (sym (length-map (entries_after_user user f.entries) (searched f.number))) in
      joined (length (searched_in f)) (length (searched_in (with_user user f))) (length (searched_in (after_user user f))) (length (searched_of fs)) (length (searched_of (map (with_user user) fs))) (length (searched_of (map (after_user user) fs)))
      (length (searched_in f ++ searched_of fs)) (length (searched_in (with_user user f) ++ searched_of (map (with_user user) fs))) (length (searched_in (after_user user f) ++ searched_of (map (after_user user) fs)))
      one (parts_length fs user) (length-append (searched_in f) (searched_of fs)) (length-append (searched_in (with_user user f)) (searched_of (map (with_user user) fs))) (length-append (searched_in (after_user user f)) (searched_of (map (after_user user) fs)))
    where
      joined : (a b c d e f x y z : ℕ) → a ≡ b + c → d ≡ e + f → x ≡ a + d → y ≡ b + e → z ≡ c + f → x ≡ y + z
      joined a b c d e f x y z h k i j l = omega arith
