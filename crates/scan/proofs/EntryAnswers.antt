-- The rows of sorted entries are what the entries of each user key answer.
use Rattle.std.proofs.Common.{◌≡◌, ℕ, Bool, true, false, cond, not, List, [], ◌∷◌, ◌++◌, Option, Some, None, refl, sym, ap, subst, ◌∙◌, inl, inr}
use Rattle.std.specs.Prelude.{◌⊎◌, Contains, nat_le, filter, find}
use Rattle.std.specs.Option.{option_and_then}
use Rattle.std.specs.Str.{bytes_eq}
use Rattle.std.specs.Cmp.{IsTotalOrder}
use Rattle.std.specs.Ordering.{is_le, nat_cmp, ordering_then}
use Rattle.std.specs.declared.cmp.Ordering.{Ordering}
use Rattle.std.specs.declared.cmp.Ordering.TheVariants.{Less, Equal, Greater}
use Rattle.std.proofs.lemmas.List.Elements.{Contains-append_right, Contains-append_cases}
use Rattle.std.proofs.lemmas.Option.{none-some, same_Some}
use Rattle.std.proofs.lemmas.Slice.Eq.{bytes_eq-Decides}
use Rattle.std.proofs.lemmas.Bool.{false_from_ne_true, or_cases, or_parts, not-true, not-false, both_ways}
use Rattle.table.specs.Comparator.{IsExact}
use Rattle.table.specs.Key.{user_of, sequence_of, kind_of, kind_number}
use Rattle.table.specs.Order.{internal_cmp}
use Rattle.reads.specs.kind.Kind.{Kind}
use Rattle.reads.specs.kind.Kind.TheVariants.{Put, Delete}
use Rattle.block.specs.EncodedEntry.{Entry}
use Rattle.table.specs.EntriesFrom.{NeverFalls}
use Rattle.reads.specs.Gets.{value_by, value_in}
use Rattle.reads.specs.NewestFirst.{answer_at}
use Rattle.reads.proofs.FallingEntries.{each_of}
use Rattle.reads.proofs.Members.{first_or_later, later_in, first_in, none_in}
use Rattle.reads.proofs.Orders.{not_before_itself}
use Rattle.reads.proofs.Pairs.{Pairs}
use Rattle.scan.specs.Row.{Row}
use Rattle.scan.specs.EntryRows.{is_decided, is_passed_over, rows_after, rows_by}

-- whether an entry is of a user key
abbrev pub is_of : List ℕ → Entry → Bool
is_of user e = bytes_eq (user_of e.key) user

pub of_user : (user : List ℕ) (e : Entry) → is_of user e ≡ true → user_of e.key ≡ user
of_user user e h = (bytes_eq-Decides (user_of e.key) user).0 h

pub user_is : (user : List ℕ) (e : Entry) → user_of e.key ≡ user → is_of user e ≡ true
user_is user e h = (bytes_eq-Decides (user_of e.key) user).1 h

decided_is : (decided user : List ℕ) → bytes_eq decided user ≡ true → decided ≡ user
decided_is decided user h = (bytes_eq-Decides decided user).0 h

isnt_decided : (decided user : List ℕ) → bytes_eq decided user ≡ false → decided ≡ user → ⊥
isnt_decided decided user h same = both_ways (bytes_eq decided user) h ((bytes_eq-Decides decided user).1 same)

-- ---- what the entries of a user key answer

module _ (at : ℕ) where
  abbrev pub own : List ℕ → List Entry → List Entry
  own user es = filter (is_of user) es

  abbrev pub answer_of : List ℕ → List Entry → Option (List ℕ)
  answer_of user es = answer_at at (own user es)

  abbrev sees : Entry → Bool
  sees e = nat_le (sequence_of e.key) at

  -- without an entry of another user key
  other_same : (user : List ℕ) (e : Entry) (es : List Entry) → (user_of e.key ≡ user → ⊥) → answer_of user (e ∷ es) ≡ answer_of user es
  other_same user e es isnt =
      let other : is_of user e ≡ false = false_from_ne_true (is_of user e) (λ h. isnt (of_user user e h)) in
      ap (λ (b : Bool). answer_at at (cond b (e ∷ own user es) (own user es))) other

  -- without an entry that the sequence doesn't see
  unseen_same : (user : List ℕ) (e : Entry) (es : List Entry) → sees e ≡ false → answer_of user (e ∷ es) ≡ answer_of user es
  unseen_same user e es unseen = by (is_of user e)
    where
      by : (b : Bool) → answer_at at (cond b (e ∷ own user es) (own user es)) ≡ answer_at at (own user es)
      by true = ap (λ (b : Bool). option_and_then value_in (cond b (Some e) (find sees (own user es)))) unseen
      by false = refl

  -- the first entry that the sequence sees
  seen_first : (user : List ℕ) (e : Entry) (es : List Entry) → user_of e.key ≡ user → sees e ≡ true → answer_of user (e ∷ es) ≡ value_in e
  seen_first user e es same seen =
      ap (λ (b : Bool). answer_at at (cond b (e ∷ own user es) (own user es))) (user_is user e same)
      ∙ ap (λ (b : Bool). option_and_then value_in (cond b (Some e) (find sees (own user es)))) seen

-- a row of a user key before that of another one
abbrev pub IsBelow : (List ℕ → List ℕ → Ordering) → Row → Row → Type 0
IsBelow cmp r s = cmp r.key s.key ≡ Less

module _ (cmp : List ℕ → List ℕ → Ordering) (total : IsTotalOrder cmp) (exact : IsExact cmp) (at : ℕ) where
  -- ---- the order of user keys

  first_up : (o p : Ordering) → is_le (ordering_then o p) ≡ true → (o ≡ Less) ⊎ (o ≡ Equal)
  first_up Less p h = inl refl
  first_up Equal p h = inr refl
  first_up Greater p h = absurd cc

  abbrev IsUp : List ℕ → List ℕ → Type 0
  IsUp a b = (cmp a b ≡ Less) ⊎ (a ≡ b)

  pub users_up : (a b : List ℕ) → is_le (internal_cmp cmp a b) ≡ true → IsUp (user_of a) (user_of b)
  unfolding internal_cmp
  users_up a b h =
      elim (first_up (cmp (user_of a) (user_of b)) (ordering_then (nat_cmp (sequence_of b) (sequence_of a)) (nat_cmp (kind_number (kind_of b)) (kind_number (kind_of a)))) h) [
        | inl less ↦ inl less
        | inr tied ↦ inr (exact (user_of a) (user_of b) tied)
      ]

  later_up : (e : Entry) (es : List Entry) → NeverFalls cmp (e ∷ es) → (f : Entry) → Contains es f → IsUp (user_of e.key) (user_of f.key)
  later_up e es falls f there = users_up e.key f.key (each_of (λ (g : Entry). is_le (internal_cmp cmp e.key g.key) ≡ true) es falls.0 f there)

  -- a user key is above the one that was decided last, or is not below it
  abbrev pub IsAbove : Option (List ℕ) → List ℕ → Type 0
  IsAbove None key = Unit {0}
  IsAbove (Some decided) key = cmp decided key ≡ Less

  abbrev pub IsFrom : Option (List ℕ) → List ℕ → Type 0
  IsFrom None key = Unit {0}
  IsFrom (Some decided) key = IsUp decided key

  abbrev pub AreFrom : Option (List ℕ) → List Entry → Type 0
  AreFrom decided es = (f : Entry) → Contains es f → IsFrom decided (user_of f.key)

  above_first : (decided : Option (List ℕ)) (key : List ℕ) → IsFrom decided key → is_decided decided key ≡ false → IsAbove decided key
  above_first None key up isnt = tt
  above_first (Some d) key (inl less) isnt = less
  above_first (Some d) key (inr same) isnt = absurd (isnt_decided d key isnt same)

  above_later : (decided : Option (List ℕ)) (key later : List ℕ) → IsFrom decided key → cmp key later ≡ Less → IsAbove decided later
  above_later None key later up less = tt
  above_later (Some d) key later (inl before) less = total.trans d key later before less
  above_later (Some d) key later (inr same) less = subst (λ (k : List ℕ). cmp k later ≡ Less) (sym same) less

  -- of a user key above the decided one, the entries of that one answer nothing
  passed_same : (decided : Option (List ℕ)) (key : List ℕ) (e : Entry) (es : List Entry) → IsAbove decided key → is_passed_over at decided e ≡ true → answer_of at key (e ∷ es) ≡ answer_of at key es
  passed_same decided key e es above is = elim (or_cases (not (nat_le (sequence_of e.key) at)) (is_decided decided (user_of e.key)) is) [
    | inl unseen ↦ unseen_same at key e es (not-true (nat_le (sequence_of e.key) at) unseen)
    | inr same ↦ other_same at key e es (by decided above same)
  ]
    where
      by : (d : Option (List ℕ)) → IsAbove d key → is_decided d (user_of e.key) ≡ true → user_of e.key ≡ key → ⊥
      by None above same is = absurd cc
      by (Some d) above same is = not_before_itself cmp total key (subst (λ (k : List ℕ). cmp k key ≡ Less) (decided_is d (user_of e.key) same ∙ is) above)

  -- ---- each row

  pub record HasAnswer (es : List Entry) (r : Row) : Type 0 where
    pub entry : Entry
    pub there : Contains es entry
    pub own_key : user_of entry.key ≡ r.key
    pub answer : answer_of at r.key es ≡ Some r.value

  abbrev IsRowOf : Option (List ℕ) → List Entry → Row → Type 0
  IsRowOf decided es r = IsAbove decided r.key × HasAnswer es r

  here_by : (k : Kind) (decided : Option (List ℕ)) (e : Entry) (es : List Entry) → kind_of e.key ≡ k → IsFrom decided (user_of e.key) → is_decided decided (user_of e.key) ≡ false → nat_le (sequence_of e.key) at ≡ true
      → (r : Row) → Contains (rows_by k (user_of e.key) e.value) r → IsRowOf decided (e ∷ es) r
  here_by Put decided e es is up isnt seen r there = elim (first_or_later (record { key = user_of e.key; value = e.value }) [] r there) [
    | inl same ↦ subst (IsRowOf decided (e ∷ es)) (sym same) (
      above_first decided (user_of e.key) up isnt,
      record { entry = e; there = first_in e es; own_key = refl; answer = seen_first at (user_of e.key) e es refl seen ∙ ap (λ (k : Kind). value_by k e.value) is },
    )
    | inr later ↦ absurd (none_in r later)
  ]
  here_by Delete decided e es is up isnt seen r there = absurd (none_in r there)

  -- a row of the entries after one
  later_row : (decided : Option (List ℕ)) (e : Entry) (es : List Entry) (r : Row) → IsAbove decided r.key → answer_of at r.key (e ∷ es) ≡ answer_of at r.key es → HasAnswer es r → IsRowOf decided (e ∷ es) r
  later_row decided e es r above same h = (above, record { entry = h.entry; there = later_in e es h.entry h.there; own_key = h.own_key; answer = same ∙ h.answer })

  each_by : (decided : Option (List ℕ)) (e : Entry) (es : List Entry) (b : Bool) → is_passed_over at decided e ≡ b → IsFrom decided (user_of e.key)
      → ((r : Row) → Contains (rows_after at decided es) r → IsRowOf decided es r) → ((r : Row) → Contains (rows_after at (Some (user_of e.key)) es) r → IsRowOf (Some (user_of e.key)) es r)
      → (r : Row) → Contains (cond b [] (rows_by (kind_of e.key) (user_of e.key) e.value) ++ rows_after at (cond b decided (Some (user_of e.key))) es) r → IsRowOf decided (e ∷ es) r
  each_by decided e es true is up same other r there =
      let h = same r there in
      later_row decided e es r h.0 (passed_same decided r.key e es h.0 is) h.1
  each_by decided e es false is up same other r there =
      let parts = or_parts (not (nat_le (sequence_of e.key) at)) (is_decided decided (user_of e.key)) is in
      elim (Contains-append_cases (rows_by (kind_of e.key) (user_of e.key) e.value) (rows_after at (Some (user_of e.key)) es) r there) [
        | inl here ↦ here_by (kind_of e.key) decided e es refl up parts.1 (not-false (nat_le (sequence_of e.key) at) parts.0) r here
        | inr later ↦
            let h = other r later in
            later_row decided e es r (above_later decided (user_of e.key) r.key up h.0)
            (other_same at r.key e es (λ equal. not_before_itself cmp total r.key (subst (λ (k : List ℕ). cmp k r.key ≡ Less) equal h.0))) h.1
      ]

  pub each_row : (decided : Option (List ℕ)) (es : List Entry) → NeverFalls cmp es → AreFrom decided es → (r : Row) → Contains (rows_after at decided es) r → IsRowOf decided es r
  each_row decided [] falls up r there = absurd (none_in r there)
  each_row decided (e ∷ es) falls up r there =
      each_by decided e es (is_passed_over at decided e) refl (up e (first_in e es)) (each_row decided es falls.1 (λ f k. up f (later_in e es f k))) (each_row (Some (user_of e.key)) es falls.1 (later_up e es falls)) r there

  -- ---- the rows rise

  rising_kind : (k : Kind) (user value : List ℕ) (rows : List Row) → ((r : Row) → Contains rows r → cmp user r.key ≡ Less) → Pairs (IsBelow cmp) rows → Pairs (IsBelow cmp) (rows_by k user value ++ rows)
  rising_kind Put user value rows above rest = (above, rest)
  rising_kind Delete user value rows above rest = rest

  rising_by : (decided : Option (List ℕ)) (e : Entry) (es : List Entry) (b : Bool) → ((r : Row) → Contains (rows_after at (Some (user_of e.key)) es) r → cmp (user_of e.key) r.key ≡ Less)
      → Pairs (IsBelow cmp) (rows_after at decided es) → Pairs (IsBelow cmp) (rows_after at (Some (user_of e.key)) es)
      → Pairs (IsBelow cmp) (cond b [] (rows_by (kind_of e.key) (user_of e.key) e.value) ++ rows_after at (cond b decided (Some (user_of e.key))) es)
  rising_by decided e es true above same other = same
  rising_by decided e es false above same other = rising_kind (kind_of e.key) (user_of e.key) e.value (rows_after at (Some (user_of e.key)) es) above other

  pub rising_rows : (decided : Option (List ℕ)) (es : List Entry) → NeverFalls cmp es → AreFrom decided es → Pairs (IsBelow cmp) (rows_after at decided es)
  rising_rows decided [] falls up = tt
  rising_rows decided (e ∷ es) falls up =
      rising_by decided e es (is_passed_over at decided e)
      (λ r there. (each_row (Some (user_of e.key)) es falls.1 (later_up e es falls) r there).0)
      (rising_rows decided es falls.1 (λ f k. up f (later_in e es f k))) (rising_rows (Some (user_of e.key)) es falls.1 (later_up e es falls))

  -- ---- all rows

  abbrev IsOther : Option (List ℕ) → List ℕ → Type 0
  IsOther None key = Unit {0}
  IsOther (Some decided) key = decided ≡ key → ⊥

  abbrev row : List ℕ → List ℕ → Row
  row key value = record { key = key; value = value }

  told_by : (k : Kind) (key value held : List ℕ) (rows : List Row) → value_by k held ≡ Some value → Contains (rows_by k key held ++ rows) (row key value)
  told_by Put key value held rows is =
      subst (λ (v : List ℕ). Contains (row key held ∷ rows) (row key v)) (same_Some held value is) (first_in (row key held) rows)
  told_by Delete key value held rows is = absurd (none-some value is)

  passed_other : (decided : Option (List ℕ)) (key : List ℕ) (e : Entry) (es : List Entry) → IsOther decided key → is_passed_over at decided e ≡ true → answer_of at key (e ∷ es) ≡ answer_of at key es
  passed_other decided key e es other is = elim (or_cases (not (nat_le (sequence_of e.key) at)) (is_decided decided (user_of e.key)) is) [
    | inl unseen ↦ unseen_same at key e es (not-true (nat_le (sequence_of e.key) at) unseen)
    | inr same ↦ other_same at key e es (by decided other same)
  ]
    where
      by : (d : Option (List ℕ)) → IsOther d key → is_decided d (user_of e.key) ≡ true → user_of e.key ≡ key → ⊥
      by None other same is = absurd cc
      by (Some d) other same is = other (decided_is d (user_of e.key) same ∙ is)

  all_by : (decided : Option (List ℕ)) (e : Entry) (es : List Entry) (key value : List ℕ) (b : Bool) → is_passed_over at decided e ≡ b → IsOther decided key → answer_of at key (e ∷ es) ≡ Some value
      → (IsOther decided key → answer_of at key es ≡ Some value → Contains (rows_after at decided es) (row key value))
      → (IsOther (Some (user_of e.key)) key → answer_of at key es ≡ Some value → Contains (rows_after at (Some (user_of e.key)) es) (row key value))
      → Contains (cond b [] (rows_by (kind_of e.key) (user_of e.key) e.value) ++ rows_after at (cond b decided (Some (user_of e.key))) es) (row key value)
  all_by decided e es key value true is other answered same next = same other (sym (passed_other decided key e es other is) ∙ answered)
  all_by decided e es key value false is other answered same next = by (is_of key e) refl
    where
      by : (c : Bool) → is_of key e ≡ c → Contains (rows_by (kind_of e.key) (user_of e.key) e.value ++ rows_after at (Some (user_of e.key)) es) (row key value)
      by true own_key =
          let equal : user_of e.key ≡ key = of_user key e own_key in
          let parts = or_parts (not (nat_le (sequence_of e.key) at)) (is_decided decided (user_of e.key)) is in
          let held : value_by (kind_of e.key) e.value ≡ Some value = sym (seen_first at key e es equal (not-false (nat_le (sequence_of e.key) at) parts.0)) ∙ answered in
          subst (λ (k : List ℕ). Contains (rows_by (kind_of e.key) (user_of e.key) e.value ++ rows_after at (Some (user_of e.key)) es) (row k value)) equal
          (told_by (kind_of e.key) (user_of e.key) value e.value (rows_after at (Some (user_of e.key)) es) held)
      by false not_own =
          let isnt : user_of e.key ≡ key → ⊥ = λ equal. both_ways (is_of key e) not_own (user_is key e equal) in
          Contains-append_right (rows_by (kind_of e.key) (user_of e.key) e.value) (rows_after at (Some (user_of e.key)) es) (row key value)
          (next isnt (sym (other_same at key e es isnt) ∙ answered))

  pub all_rows : (decided : Option (List ℕ)) (es : List Entry) (key value : List ℕ) → IsOther decided key → answer_of at key es ≡ Some value → Contains (rows_after at decided es) (row key value)
  all_rows decided [] key value other answered = absurd (none-some value answered)
  all_rows decided (e ∷ es) key value other answered =
      all_by decided e es key value (is_passed_over at decided e) refl other answered (all_rows decided es key value) (all_rows (Some (user_of e.key)) es key value)
