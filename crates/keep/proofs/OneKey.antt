-- One key: what a compaction drops of a user key, no readable sequence sees.
use Rattle.std.proofs.Common.{◌≡◌, ℕ, ◌<◌, ◌≤◌, Bool, true, false, List, [], ◌∷◌, ◌++◌, refl, sym, ap, subst, ◌∙◌, inl, inr, arith}
use Rattle.std.specs.Prelude.{nat_lt, nat_le, nat_eq, ◌&&◌, ◌||◌, not, if◌then◌else◌, cond, find, Option, Some, None}
use Rattle.std.specs.List.{list_any, list_all, AllByRecursion}
use Rattle.std.specs.Option.{option_and_then}
use Rattle.std.specs.declared.cmp.Ordering.{Ordering}
use Rattle.std.proofs.lemmas.Bool.{eqb-true, leb-true, le-leb, lt-ltb, le-ltb, and_parts, and_cases, and_from, and_right, or_cases, not-true, not-false, leb-false, false≢true, both_ways}
use Rattle.std.proofs.lemmas.Slice.Eq.{bytes_eq-Decides}
use Rattle.ikey.specs.declared.kind.Kind.{Kind}
use Rattle.ikey.specs.declared.kind.Kind.TheVariants.{Delete, Put}
use Rattle.ikey.specs.Key.{user_of, sequence_of, kind_of}
use Rattle.reads.specs.EncodedEntry.{Entry}
use Rattle.reads.specs.meta.FileMeta.{FileMeta}
use Rattle.reads.specs.Gets.{value_by, value_in}
use Rattle.reads.specs.NewestFirst.{SequencesFall, AreOf, answer_at}
use Rattle.pick.specs.Ranges.{is_in_none}
use Rattle.keep.specs.Readable.{Readable, is_read}
use Rattle.keep.specs.DropRule.{is_same_user, is_deletion, is_snapshot_between, is_hidden, is_obsolete, keeps, kept_after, kept}

or_first : (x y : Bool) → x ≡ true → (x || y) ≡ true
or_first true y h = refl
or_first false y h = absurd (false≢true h)

or_second : (x y : Bool) → y ≡ true → (x || y) ≡ true
or_second true y h = refl
or_second false y h = h

neither : (x y : Bool) → x ≡ false → y ≡ false → (x || y) ≡ false
neither true y h k = h
neither false y h k = k

-- a number that is among others, and passes a test
pub listed_has : (test : ℕ → Bool) (at : ℕ) (l : List ℕ) → list_any (nat_eq at) l ≡ true → test at ≡ true → list_any test l ≡ true
listed_has test at [] h t = h
listed_has test at (x ∷ l) h t =
    elim (or_cases (nat_eq at x) (list_any (nat_eq at) l) h) as (λ _. list_any test (x ∷ l) ≡ true) [
      | inl here ↦ or_first (test x) (list_any test l) (subst (λ k. test k ≡ true) (eqb-true at x here) t)
      | inr later ↦ or_second (test x) (list_any test l) (listed_has test at l later t)
    ]

-- no number from n on lies before a lesser one
none_between : (a m n : ℕ) (l : List ℕ) → list_all (nat_le n) l ≡ true → m ≤ n → list_any (λ s. nat_le a s && nat_lt s m) l ≡ false
none_between a m n [] h k = refl
none_between a m n (x ∷ l) h k =
    let parts = and_parts (nat_le n x) (list_all (nat_le n) l) h in
    let high : n ≤ x = leb-true n x parts.0 in
    neither (nat_le a x && nat_lt x m) (list_any (λ s. nat_le a s && nat_lt s m) l)
    (and_right (nat_le a x) (nat_lt x m) (le-ltb x m (omega (arith, high, k)))) (none_between a m n l parts.1 k)

all_weaker : (m n : ℕ) (l : List ℕ) → m ≤ n → list_all (nat_le n) l ≡ true → list_all (nat_le m) l ≡ true
all_weaker m n [] k h = refl
all_weaker m n (x ∷ l) k h =
    let parts = and_parts (nat_le n x) (list_all (nat_le n) l) h in
    let high : n ≤ x = leb-true n x parts.0 in
    and_from (nat_le m x) (list_all (nat_le m) l) (le-leb m x (omega (arith, high, k))) (all_weaker m n l k parts.1)

deletion_value : (k : Kind) (value : List ℕ) → is_deletion k ≡ true → value_by k value ≡ None
deletion_value Delete value h = refl
deletion_value Put value h = absurd (false≢true h)

pub falls_behind : (above rest : List Entry) → SequencesFall (above ++ rest) → SequencesFall rest
falls_behind [] rest h = h
falls_behind (a ∷ above) rest h = falls_behind above rest h.1

pub all_front : (P : Entry → Type 0) (xs ys : List Entry) → AllByRecursion P (xs ++ ys) → AllByRecursion P xs
all_front P [] ys h = tt
all_front P (x ∷ xs) ys h = (h.0, all_front P xs ys h.1)

pub falls_front : (xs ys : List Entry) → SequencesFall (xs ++ ys) → SequencesFall xs
falls_front [] ys h = tt
falls_front (x ∷ xs) ys h = (all_front (λ f. sequence_of f.key < sequence_of x.key) xs ys h.0, falls_front xs ys h.1)

-- what entries answer after one that may be seen
behind_by : (a : Entry) (x y : Option Entry) (seen : Bool) → option_and_then value_in x ≡ option_and_then value_in y
    → option_and_then value_in (cond seen (Some a) x) ≡ option_and_then value_in (cond seen (Some a) y)
behind_by a x y true h = refl
behind_by a x y false h = h

pub behind_same : (at : ℕ) (above xs ys : List Entry) → answer_at at xs ≡ answer_at at ys → answer_at at (above ++ xs) ≡ answer_at at (above ++ ys)
behind_same at [] xs ys h = h
behind_same at (a ∷ above) xs ys h =
    behind_by a (find (λ e. nat_le (sequence_of e.key) at) (above ++ xs)) (find (λ e. nat_le (sequence_of e.key) at) (above ++ ys)) (nat_le (sequence_of a.key) at) (behind_same at above xs ys h)

module _ (cmp : List ℕ → List ℕ → Ordering) (r : Readable) (deeper : List FileMeta) (user : List ℕ) where
  same_user : (p e : Entry) → user_of p.key ≡ user → user_of e.key ≡ user → is_same_user p e ≡ true
  same_user p e h k = (bytes_eq-Decides (user_of p.key) (user_of e.key)).1 (h ∙ sym k)

  -- below a deletion that each readable sequence sees, every entry is hidden
  pub all_hidden : (p : Entry) (es : List Entry) → user_of p.key ≡ user → AreOf user es → SequencesFall (p ∷ es)
      → nat_le (sequence_of p.key) r.floor ≡ true → list_all (nat_le (sequence_of p.key)) r.listed ≡ true → kept_after cmp r deeper (Some p) es ≡ []
  all_hidden p [] is of falls low listed = refl
  all_hidden p (e ∷ es) is of falls low listed =
      let lower : sequence_of e.key < sequence_of p.key = falls.0.0 in
      let floor : sequence_of p.key ≤ r.floor = leb-true (sequence_of p.key) r.floor low in
      let hidden : is_hidden r (Some p) e ≡ true =
      and_from (is_same_user p e && nat_le (sequence_of p.key) r.floor) (not (list_any (is_snapshot_between p e) r.listed))
      (and_from (is_same_user p e) (nat_le (sequence_of p.key) r.floor) (same_user p e is of.0) low)
      (ap not (none_between (sequence_of e.key) (sequence_of p.key) (sequence_of p.key) r.listed listed (omega arith))) in
      let dropped : keeps cmp r deeper (Some p) e ≡ false = ap (λ b. not b && not (is_obsolete cmp r deeper e)) hidden in
      rw dropped (all_hidden e es of.0 of.1 falls.1 (le-leb (sequence_of e.key) r.floor (omega (arith, lower, floor))) (all_weaker (sequence_of e.key) (sequence_of p.key) r.listed (omega (arith, lower)) listed))

  module _ (below : List Entry) (at : ℕ) (base : is_in_none cmp deeper user ≡ true → below ≡ []) (read : is_read r at ≡ true) where
    -- the entry before isn't seen
    abbrev IsUnseen : Option Entry → Type 0
    IsUnseen None = Unit {0}
    IsUnseen (Some p) = at < sequence_of p.key

    -- an entry that is seen isn't hidden by one that isn't
    seen_not_hidden : (before : Option Entry) (e : Entry) → IsUnseen before → nat_le (sequence_of e.key) at ≡ true → is_hidden r before e ≡ true → ⊥
    seen_not_hidden None e unseen seen h = false≢true h
    seen_not_hidden (Some p) e unseen seen h =
        let outer = and_parts (is_same_user p e && nat_le (sequence_of p.key) r.floor) (not (list_any (is_snapshot_between p e) r.listed)) h in
        let inner = and_parts (is_same_user p e) (nat_le (sequence_of p.key) r.floor) outer.0 in
        let low : sequence_of p.key ≤ r.floor = leb-true (sequence_of p.key) r.floor inner.1 in
        elim (or_cases (list_any (nat_eq at) r.listed) (nat_le r.floor at) read) as (λ _. ⊥) [
          | inl listed ↦ both_ways (list_any (is_snapshot_between p e) r.listed) (not-true (list_any (is_snapshot_between p e) r.listed) outer.1)
              (listed_has (is_snapshot_between p e) at r.listed listed (and_from (nat_le (sequence_of e.key) at) (nat_lt at (sequence_of p.key)) seen (lt-ltb at (sequence_of p.key) unseen)))
          | inr high ↦ let up : r.floor ≤ at = leb-true r.floor at high in let un : at < sequence_of p.key = unseen in omega (arith, low, up, un)
        ]

    -- a deletion that is seen and dropped, with nothing left below it
    nothing_left : (e : Entry) (es : List Entry) → user_of e.key ≡ user → AreOf user es → SequencesFall (e ∷ es) → nat_le (sequence_of e.key) at ≡ true → is_obsolete cmp r deeper e ≡ true
        → answer_at at (kept_after cmp r deeper (Some e) es ++ below) ≡ answer_at at (e ∷ (es ++ below))
    nothing_left e es is of falls seen o =
        let a = is_deletion (kind_of e.key) in
        let b = nat_le (sequence_of e.key) r.floor in
        let c = list_all (nat_le (sequence_of e.key)) r.listed in
        let d = is_in_none cmp deeper (user_of e.key) in
        let abc = and_parts ((a && b) && c) d o in
        let ab = and_parts (a && b) c abc.0 in
        let both = and_parts a b ab.0 in
        let empty : below ≡ [] = base (subst (λ (u : List ℕ). is_in_none cmp deeper u ≡ true) is abc.1) in
        let left : kept_after cmp r deeper (Some e) es ≡ [] = all_hidden e es is of falls both.1 ab.1 in
        let shown : answer_at at (e ∷ (es ++ below)) ≡ None =
        ap (λ s. option_and_then value_in (cond s (Some e) (find (λ f. nat_le (sequence_of f.key) at) (es ++ below)))) seen ∙ deletion_value (kind_of e.key) e.value both.0 in
        ap (λ xs. answer_at at (xs ++ below)) left ∙ ap (answer_at at) empty ∙ sym shown

    same_by : (before : Option Entry) (e : Entry) (es : List Entry) (seen keep : Bool) → nat_le (sequence_of e.key) at ≡ seen → keeps cmp r deeper before e ≡ keep
        → IsUnseen before → AreOf user (e ∷ es) → SequencesFall (e ∷ es)
        → (at < sequence_of e.key → answer_at at (kept_after cmp r deeper (Some e) es ++ below) ≡ answer_at at (es ++ below))
        → answer_at at (((if keep then e ∷ [] else []) ++ kept_after cmp r deeper (Some e) es) ++ below) ≡ answer_at at (e ∷ (es ++ below))
    same_by before e es true true s k unseen of falls rest = rw s refl
    same_by before e es true false s k unseen of falls rest =
        elim (and_cases (not (is_hidden r before e)) (not (is_obsolete cmp r deeper e)) k) as (λ _. answer_at at (kept_after cmp r deeper (Some e) es ++ below) ≡ answer_at at (e ∷ (es ++ below))) [
          | inl h ↦ absurd (seen_not_hidden before e unseen s (not-false (is_hidden r before e) h))
          | inr o ↦ nothing_left e es of.0 of.1 falls s (not-false (is_obsolete cmp r deeper e) o)
        ]
    same_by before e es false true s k unseen of falls rest = rw s (rest (leb-false (sequence_of e.key) at s))
    same_by before e es false false s k unseen of falls rest = rw s (rest (leb-false (sequence_of e.key) at s))

    pub same : (before : Option Entry) (es : List Entry) → IsUnseen before → AreOf user es → SequencesFall es
        → answer_at at (kept_after cmp r deeper before es ++ below) ≡ answer_at at (es ++ below)
    same before [] unseen of falls = refl
    same before (e ∷ es) unseen of falls =
        same_by before e es (nat_le (sequence_of e.key) at) (keeps cmp r deeper before e) refl refl unseen of falls (λ un. same (Some e) es un of.1 falls.1)

-- the kept ones answer what all answer
pub answers : (cmp : List ℕ → List ℕ → Ordering) (r : Readable) (deeper : List FileMeta) (user : List ℕ) (above inputs below : List Entry) (at : ℕ) →
    AreOf user inputs → SequencesFall (above ++ (inputs ++ below)) → (is_in_none cmp deeper user ≡ true → below ≡ []) → is_read r at ≡ true →
    answer_at at (above ++ (kept cmp r deeper inputs ++ below)) ≡ answer_at at (above ++ (inputs ++ below))
answers cmp r deeper user above inputs below at of falls base read =
    behind_same at above (kept cmp r deeper inputs ++ below) (inputs ++ below)
    (same cmp r deeper user below at base read None inputs tt of (falls_front inputs below (falls_behind above (inputs ++ below) falls)))
