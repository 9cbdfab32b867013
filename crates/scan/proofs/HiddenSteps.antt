-- Which entries are hidden, as sorted entries are taken off one by one.
use Rattle.std.proofs.Common.{◌≡◌, ◌<◌, ◌≤◌, ℕ, Bool, true, false, cond, not, List, [], ◌∷◌, ◌++◌, Option, Some, None, refl, sym, ap, subst, ◌∙◌, inl, inr, arith, eq-or-lt_of_le}
use Rattle.std.specs.Prelude.{◌⊎◌, ◌&&◌, ◌||◌, Contains, nat_le, nat_lt}
use Rattle.std.specs.List.{count_by}
use Rattle.std.specs.Cmp.{IsTotalOrder}
use Rattle.std.specs.Ordering.{is_le}
use Rattle.std.specs.Str.{bytes_eq}
use Rattle.std.specs.declared.cmp.Ordering.{Ordering}
use Rattle.std.specs.declared.cmp.Ordering.TheVariants.{Less}
use Rattle.std.proofs.lemmas.Bool.{eq-eqb, false_from_ne_true, and_right, and_from, or_cases, or_parts, not-true, not-false, both_ways}
use Rattle.std.proofs.lemmas.Bool.Decides.{Decides-ltb}
use Rattle.std.proofs.lemmas.List.Elements.{Contains-append_cases, Contains-append_left, Contains-append_right, Contains-get_or, filter-append}
use Rattle.std.proofs.lemmas.List.Folds.{list_any-append, list_any_none}
use Rattle.std.proofs.lemmas.Slice.Eq.{bytes_eq-Decides}
use Rattle.std.proofs.Math.Bool.{or-false, or-true}
use Rattle.table.specs.Comparator.{IsExact}
use Rattle.table.specs.Key.{sequence_of, user_of}
use Rattle.table.specs.Order.{internal_cmp}
use Rattle.block.specs.EncodedEntry.{Entry}
use Rattle.reads.specs.Ranges.{KeyRange}
use Rattle.merge.specs.InRange.{entries_in, is_in_range}
use Rattle.reads.proofs.EntriesInOrder.{older}
use Rattle.reads.proofs.Members.{first_in, first_or_later, in_filter, later_in}
use Rattle.reads.proofs.Orders.{not_before_itself}
use Rattle.scan.specs.Counts.{AreOnce, is_version}
use Rattle.scan.specs.EntryRows.{decided_after, is_decided, is_passed_over}
use Rattle.scan.specs.HiddenEntries.{hides, is_hidden_among}
use Rattle.scan.proofs.CountedEntries.{count_middle, count_some, one_if}
use Rattle.scan.proofs.EntryAnswers.{users_up}

-- ---- what hides what

module _ (last : ℕ) where
  -- an entry of another user key hides nothing
  pub other_hides : (e f : Entry) → bytes_eq (user_of e.key) (user_of f.key) ≡ false → hides last e f ≡ false
  other_hides e f other = ap (λ (b : Bool). b && (nat_lt (sequence_of f.key) (sequence_of e.key) && nat_le (sequence_of e.key) last)) other

  unseen_hides : (e f : Entry) → nat_le (sequence_of e.key) last ≡ false → hides last e f ≡ false
  unseen_hides e f unseen = and_right (bytes_eq (user_of e.key) (user_of f.key)) _ (and_right (nat_lt (sequence_of f.key) (sequence_of e.key)) (nat_le (sequence_of e.key) last) unseen)

  no_newer_hides : (e f : Entry) → sequence_of e.key ≤ sequence_of f.key → hides last e f ≡ false
  no_newer_hides e f le = and_right (bytes_eq (user_of e.key) (user_of f.key)) _
      (ap (λ (b : Bool). b && nat_le (sequence_of e.key) last) (false_from_ne_true (nat_lt (sequence_of f.key) (sequence_of e.key)) (λ lt. absurd (omega (arith, (Decides-ltb (sequence_of f.key) (sequence_of e.key)).0 lt)))))

  newer_hides : (e f : Entry) → user_of e.key ≡ user_of f.key → sequence_of f.key < sequence_of e.key → nat_le (sequence_of e.key) last ≡ true → hides last e f ≡ true
  newer_hides e f same lt seen = and_from (bytes_eq (user_of e.key) (user_of f.key)) _ ((bytes_eq-Decides (user_of e.key) (user_of f.key)).1 same) (and_from (nat_lt (sequence_of f.key) (sequence_of e.key)) _ ((Decides-ltb (sequence_of f.key) (sequence_of e.key)).1 lt) seen)

  -- what is hidden in a range is hidden by entries of the range
  pub hidden_in_range : (cmp : List ℕ → List ℕ → Ordering) (range : KeyRange) (es : List Entry) (f : Entry) → is_in_range cmp range (user_of f.key) ≡ true → is_hidden_among last (entries_in cmp range es) f ≡ is_hidden_among last es f
  hidden_in_range cmp range [] f within = refl
  hidden_in_range cmp range (e ∷ es) f within = by (hidden_in_range cmp range es f within) (is_in_range cmp range (user_of e.key)) refl
    where
      by : is_hidden_among last (entries_in cmp range es) f ≡ is_hidden_among last es f → (b : Bool) → is_in_range cmp range (user_of e.key) ≡ b → is_hidden_among last (cond b (e ∷ entries_in cmp range es) (entries_in cmp range es)) f ≡ (hides last e f || is_hidden_among last es f)
      by rest true is = ap (λ (b : Bool). hides last e f || b) rest
      by rest false isnt =
          let other : bytes_eq (user_of e.key) (user_of f.key) ≡ false = false_from_ne_true (bytes_eq (user_of e.key) (user_of f.key)) (λ h. both_ways (is_in_range cmp range (user_of e.key)) isnt (ap (is_in_range cmp range) ((bytes_eq-Decides (user_of e.key) (user_of f.key)).0 h) ∙ within)) in
          rest ∙ ap (λ (b : Bool). b || is_hidden_among last es f) (sym (other_hides e f other))

  -- the same entries hide, in any order
  pub hidden_same : (es fs : List Entry) → ((e : Entry) → Contains es e → Contains fs e) → ((e : Entry) → Contains fs e → Contains es e) → (f : Entry) → is_hidden_among last es f ≡ is_hidden_among last fs f
  hidden_same es fs to back f = by (is_hidden_among last es f) (is_hidden_among last fs f) (moved es fs to) (moved fs es back)
    where
      moved : (es fs : List Entry) → ((e : Entry) → Contains es e → Contains fs e) → is_hidden_among last es f ≡ true → is_hidden_among last fs f ≡ true
      moved es fs to h =
          let at = hider es h in
          hidden_by fs at.0 (to at.0 at.1) at.2
        where
          hider : (es : List Entry) → is_hidden_among last es f ≡ true → (e : Entry) × Contains es e × (hides last e f ≡ true)
          hider [] h = absurd cc
          hider (e ∷ es) h = elim (or_cases (hides last e f) (is_hidden_among last es f) h) [
            | inl own ↦ (e, first_in e es, own)
            | inr later ↦ let at = hider es later in (at.0, later_in e es at.0 at.1, at.2)
          ]

          hidden_by : (es : List Entry) (e : Entry) → Contains es e → hides last e f ≡ true → is_hidden_among last es f ≡ true
          hidden_by [] e at own = absurd (no_place e at)
            where
              no_place : (e : Entry) → Contains [] e → ⊥
              no_place e at = absurd (omega (arith, at.1))
          hidden_by (d ∷ es) e at own = elim (first_or_later d es e at) [
            | inl same ↦ ap (λ (b : Bool). b || is_hidden_among last es f) (ap (λ (x : Entry). hides last x f) (sym same) ∙ own)
            | inr later ↦ ap (λ (b : Bool). hides last d f || b) (hidden_by es e later own) ∙ or-true (hides last d f)
          ]

      by : (a b : Bool) → (a ≡ true → b ≡ true) → (b ≡ true → a ≡ true) → a ≡ b
      by true b to back = sym (to refl)
      by false true to back = back refl
      by false false to back = refl

-- ---- a walk

-- a user key isn't before the decided one
abbrev IsFrom : (List ℕ → List ℕ → Ordering) → Option (List ℕ) → List ℕ → Type 0
IsFrom cmp None user = Unit {0}
IsFrom cmp (Some decided) user = (cmp decided user ≡ Less) ⊎ (decided ≡ user)

abbrev AreFrom : (List ℕ → List ℕ → Ordering) → Option (List ℕ) → List Entry → Type 0
AreFrom cmp decided es = (f : Entry) → Contains es f → IsFrom cmp decided (user_of f.key)

-- What is known of the entries to come, if `decided` was decided last: which of them are hidden;
-- that none is of a user key before the decided one; and that none is there twice.
pub record IsWalked (cmp : List ℕ → List ℕ → Ordering) (range : KeyRange) (last : ℕ) (hidden : Entry → Bool) (es : List Entry) (decided : Option (List ℕ)) : Type 0 where
  pub known : (f : Entry) → Contains es f → is_in_range cmp range (user_of f.key) ≡ true → hidden f ≡ (is_decided decided (user_of f.key) || is_hidden_among last es f)
  pub from : AreFrom cmp decided es
  pub once : AreOnce (entries_in cmp range es)

module _ (cmp : List ℕ → List ℕ → Ordering) (total : IsTotalOrder cmp) (exact : IsExact cmp) (range : KeyRange) (last : ℕ) (hidden : Entry → Bool) where
  abbrev within : Entry → Bool
  within e = is_in_range cmp range (user_of e.key)

  -- before the first
  pub walk_begins : (es : List Entry) → ((f : Entry) → hidden f ≡ is_hidden_among last (entries_in cmp range es) f) → AreOnce (entries_in cmp range es) → IsWalked cmp range last hidden es None
  walk_begins es is once = record {
    known = λ f at inside. is f ∙ hidden_in_range last cmp range es f inside;
    from = λ f at. tt;
    once = once;
  }

  -- one entry, which none of the others is before
  module _ (front : List Entry) (e : Entry) (behind : List Entry) (decided : Option (List ℕ)) (walked : IsWalked cmp range last hidden (front ++ e ∷ behind) decided)
      (least : (c : Entry) → Contains (front ++ e ∷ behind) c → is_le (internal_cmp cmp e.key c.key) ≡ true) where
    abbrev old : List Entry
    old = front ++ e ∷ behind

    abbrev new : List Entry
    new = front ++ behind

    still : (c : Entry) → Contains new c → Contains old c
    still c at = elim (Contains-append_cases front behind c at) [
      | inl here ↦ Contains-append_left front (e ∷ behind) c here
      | inr there ↦ Contains-append_right front (e ∷ behind) c (later_in e behind c there)
    ]

    own : Contains old e
    own = Contains-append_right front (e ∷ behind) e (first_in e behind)

    -- it hides, or another one does
    split : (c : Entry) → is_hidden_among last old c ≡ (hides last e c || is_hidden_among last new c)
    split c =
        list_any-append (λ (x : Entry). hides last x c) front (e ∷ behind)
        ∙ swapped (is_hidden_among last front c) (hides last e c) (is_hidden_among last behind c)
        ∙ ap (λ (b : Bool). hides last e c || b) (sym (list_any-append (λ (x : Entry). hides last x c) front behind))
      where
        swapped : (a b c : Bool) → (a || (b || c)) ≡ (b || (a || c))
        swapped true true c = refl
        swapped true false c = refl
        swapped false b c = refl

    -- none hides it
    not_hidden : is_hidden_among last old e ≡ false
    not_hidden = none_of old (λ c at. by c at (bytes_eq (user_of c.key) (user_of e.key)) refl)
      where
        none_of : (es : List Entry) → ((c : Entry) → Contains es c → hides last c e ≡ false) → is_hidden_among last es e ≡ false
        none_of es none = list_any_none (λ (x : Entry). hides last x e) es (λ k d lt. none _ (Contains-get_or es k d lt))

        by : (c : Entry) → Contains old c → (b : Bool) → bytes_eq (user_of c.key) (user_of e.key) ≡ b → hides last c e ≡ false
        by c at true same = no_newer_hides last c e (older cmp total exact e.key c.key (least c at) (sym ((bytes_eq-Decides (user_of c.key) (user_of e.key)).0 same)))
        by c at false other = other_hides last c e other

    -- so it is hidden exactly if it was decided
    pub hidden_first : within e ≡ true → hidden e ≡ is_decided decided (user_of e.key)
    hidden_first inside = walked.known e own inside ∙ ap (λ (b : Bool). is_decided decided (user_of e.key) || b) not_hidden ∙ or-false (is_decided decided (user_of e.key))

    fewer : AreOnce (entries_in cmp range new)
    fewer user sequence =
        let before = walked.once user sequence in
        let whole = ap (count_by (is_version user sequence)) (filter-append within front (e ∷ behind)) in
        let less = ap (count_by (is_version user sequence)) (filter-append within front behind) in
        by (within e) user sequence (subst (λ (es : List Entry). count_by (is_version user sequence) es ≤ 1) (filter-append within front (e ∷ behind)) before) less
      where
        by : (b : Bool) (user : List ℕ) (sequence : ℕ) → count_by (is_version user sequence) (entries_in cmp range front ++ cond b (e ∷ entries_in cmp range behind) (entries_in cmp range behind)) ≤ 1
            → count_by (is_version user sequence) (entries_in cmp range new) ≡ count_by (is_version user sequence) (entries_in cmp range front ++ entries_in cmp range behind) → count_by (is_version user sequence) (entries_in cmp range new) ≤ 1
        by true user sequence few is =
            let more = count_middle (is_version user sequence) (entries_in cmp range front) e (entries_in cmp range behind) in
            omega arith
        by false user sequence few is = omega arith

    -- the same is known of the others, if it hides none of the range that wasn't hidden
    after : (next : Option (List ℕ)) → ((f : Entry) → Contains new f → within f ≡ true → (is_decided decided (user_of f.key) || (hides last e f || is_hidden_among last new f)) ≡ (is_decided next (user_of f.key) || is_hidden_among last new f))
        → AreFrom cmp next new → IsWalked cmp range last hidden new next
    after next same from = record {
      known = λ f at inside. walked.known f (still f at) inside ∙ ap (λ (b : Bool). is_decided decided (user_of f.key) || b) (split f) ∙ same f at inside;
      from = from;
      once = fewer;
    }

    no_more : (f : Entry) → hides last e f ≡ false → (is_decided decided (user_of f.key) || (hides last e f || is_hidden_among last new f)) ≡ (is_decided decided (user_of f.key) || is_hidden_among last new f)
    no_more f hidden_none = ap (λ (b : Bool). is_decided decided (user_of f.key) || (b || is_hidden_among last new f)) hidden_none

    still_from : AreFrom cmp decided new
    still_from f at = walked.from f (still f at)

    -- an entry that isn't of the range
    pub walked_outside : within e ≡ false → IsWalked cmp range last hidden new decided
    walked_outside outside = after decided (λ f at inside. no_more f (other_hides last e f (false_from_ne_true (bytes_eq (user_of e.key) (user_of f.key)) (λ h. both_ways (within e) outside (ap (is_in_range cmp range) ((bytes_eq-Decides (user_of e.key) (user_of f.key)).0 h) ∙ inside))))) still_from

    -- one that is passed over
    over : is_passed_over last decided e ≡ true → IsWalked cmp range last hidden new decided
    over is = after decided (λ f at inside. elim (or_cases (not (nat_le (sequence_of e.key) last)) (is_decided decided (user_of e.key)) is) [
      | inl unseen ↦ no_more f (unseen_hides last e f (not-true (nat_le (sequence_of e.key) last) unseen))
      | inr same ↦ by f same (bytes_eq (user_of e.key) (user_of f.key)) refl
    ]) still_from
      where
        by : (f : Entry) → is_decided decided (user_of e.key) ≡ true → (b : Bool) → bytes_eq (user_of e.key) (user_of f.key) ≡ b
            → (is_decided decided (user_of f.key) || (hides last e f || is_hidden_among last new f)) ≡ (is_decided decided (user_of f.key) || is_hidden_among last new f)
        by f same true own_user =
            let is : is_decided decided (user_of f.key) ≡ true = ap (is_decided decided) (sym ((bytes_eq-Decides (user_of e.key) (user_of f.key)).0 own_user)) ∙ same in
            ap (λ (b : Bool). b || (hides last e f || is_hidden_among last new f)) is ∙ sym (ap (λ (b : Bool). b || is_hidden_among last new f) is)
        by f same false other = no_more f (other_hides last e f other)

    -- one that decides
    decides : within e ≡ true → is_passed_over last decided e ≡ false → IsWalked cmp range last hidden new (Some (user_of e.key))
    decides inside isnt =
        let parts = or_parts (not (nat_le (sequence_of e.key) last)) (is_decided decided (user_of e.key)) isnt in
        after (Some (user_of e.key)) (λ f at inside_too. by f at inside_too (not-false (nat_le (sequence_of e.key) last) parts.0) parts.1 (bytes_eq (user_of e.key) (user_of f.key)) refl) (λ f at. users_up cmp total exact last e.key f.key (least f (still f at)))
      where
        -- the two would be one entry twice
        twice : (f : Entry) → Contains new f → within f ≡ true → user_of e.key ≡ user_of f.key → sequence_of f.key ≡ sequence_of e.key → ⊥
        twice f at inside_too same tie =
            let passes : is_version (user_of e.key) (sequence_of e.key) f ≡ true = and_from (bytes_eq (user_of f.key) (user_of e.key)) _ ((bytes_eq-Decides (user_of f.key) (user_of e.key)).1 (sym same)) (eq-eqb (sequence_of f.key) (sequence_of e.key) tie) in
            let itself : is_version (user_of e.key) (sequence_of e.key) e ≡ true = and_from (bytes_eq (user_of e.key) (user_of e.key)) _ ((bytes_eq-Decides (user_of e.key) (user_of e.key)).1 refl) (eq-eqb (sequence_of e.key) (sequence_of e.key) refl) in
            let kept : entries_in cmp range old ≡ entries_in cmp range front ++ e ∷ entries_in cmp range behind =
            filter-append within front (e ∷ behind) ∙ ap (λ (b : Bool). entries_in cmp range front ++ cond b (e ∷ entries_in cmp range behind) (entries_in cmp range behind)) inside in
            let few = subst (λ (es : List Entry). count_by (is_version (user_of e.key) (sequence_of e.key)) es ≤ 1) kept (walked.once (user_of e.key) (sequence_of e.key)) in
            let more = count_middle (is_version (user_of e.key) (sequence_of e.key)) (entries_in cmp range front) e (entries_in cmp range behind) in
            let one = ap one_if itself in
            let there : Contains (entries_in cmp range front ++ entries_in cmp range behind) f = subst (λ (es : List Entry). Contains es f) (filter-append within front behind) (in_filter within new f inside_too at) in
            let other = count_some (is_version (user_of e.key) (sequence_of e.key)) (entries_in cmp range front ++ entries_in cmp range behind) f there passes in
            absurd (omega arith)

        older_one : (f : Entry) → Contains new f → within f ≡ true → user_of e.key ≡ user_of f.key → sequence_of f.key < sequence_of e.key
        older_one f at inside_too same =
            let le = older cmp total exact e.key f.key (least f (still f at)) same in
            elim (eq-or-lt_of_le le) [
              | inl tie ↦ absurd (twice f at inside_too same tie)
              | inr lt ↦ lt
            ]

        -- of another user key, it wasn't decided
        undecided : (d : Option (List ℕ)) (f : Entry) → Contains new f → IsFrom cmp d (user_of e.key) → is_decided d (user_of e.key) ≡ false → is_decided d (user_of f.key) ≡ false
        undecided None f at up isnt = refl
        undecided (Some d) f at (inr same) isnt = absurd (both_ways (bytes_eq d (user_of e.key)) isnt ((bytes_eq-Decides d (user_of e.key)).1 same))
        undecided (Some d) f at (inl above) isnt = false_from_ne_true (bytes_eq d (user_of f.key)) (λ h. refuted ((bytes_eq-Decides d (user_of f.key)).0 h))
          where
            refuted : d ≡ user_of f.key → ⊥
            refuted same = elim (users_up cmp total exact last e.key f.key (least f (still f at))) [
              | inl less ↦ not_before_itself cmp total d (total.trans d (user_of e.key) d above (subst (λ (k : List ℕ). cmp (user_of e.key) k ≡ Less) (sym same) less))
              | inr equal ↦ not_before_itself cmp total d (subst (λ (k : List ℕ). cmp d k ≡ Less) (equal ∙ sym same) above)
            ]

        by : (f : Entry) → Contains new f → within f ≡ true → nat_le (sequence_of e.key) last ≡ true → is_decided decided (user_of e.key) ≡ false → (b : Bool) → bytes_eq (user_of e.key) (user_of f.key) ≡ b
            → (is_decided decided (user_of f.key) || (hides last e f || is_hidden_among last new f)) ≡ (bytes_eq (user_of e.key) (user_of f.key) || is_hidden_among last new f)
        by f at inside_too seen isnt true own_user =
            let same = (bytes_eq-Decides (user_of e.key) (user_of f.key)).0 own_user in
            let hid : hides last e f ≡ true = newer_hides last e f same (older_one f at inside_too same) seen in
            ap (λ (b : Bool). is_decided decided (user_of f.key) || (b || is_hidden_among last new f)) hid ∙ or-true (is_decided decided (user_of f.key)) ∙ sym (ap (λ (b : Bool). b || is_hidden_among last new f) own_user)
        by f at inside_too seen isnt false other =
            ap (λ (b : Bool). b || (hides last e f || is_hidden_among last new f)) (undecided decided f at (walked.from e own) isnt)
            ∙ ap (λ (b : Bool). b || is_hidden_among last new f) (other_hides last e f other)
            ∙ sym (ap (λ (b : Bool). b || is_hidden_among last new f) other)

    -- an entry of the range
    pub walked_inside : within e ≡ true → IsWalked cmp range last hidden new (decided_after last decided e)
    walked_inside inside = by (is_passed_over last decided e) refl
      where
        by : (b : Bool) → is_passed_over last decided e ≡ b → IsWalked cmp range last hidden new (cond b decided (Some (user_of e.key)))
        by true is = over is
        by false isnt = decides inside isnt
