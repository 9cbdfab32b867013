-- The entries of a range in a list that never falls.
use Rattle.std.proofs.Common.{◌≡◌, ℕ, ◌<◌, ◌≤◌, ◌^◌, Bool, true, false, not, cond, List, [], ◌∷◌, Some, None, Option, refl, sym, ap, ◌∙◌, arith, lit<}
use borrow.Author.Tests.{ltb-true}
use Rattle.std.specs.Prelude.{filter, ◌&&◌, ◌||◌, nat_lt, nat_eq}
use Rattle.std.specs.List.{AllByRecursion}
use Rattle.std.specs.Option.{option_map_or}
use Rattle.std.specs.Cmp.{IsTotalOrder}
use Rattle.std.specs.Ordering.{is_lt, is_le, ordering_then, nat_cmp}
use Rattle.std.specs.declared.cmp.Ordering.{Ordering}
use Rattle.std.specs.declared.cmp.Ordering.TheVariants.{Less, Equal, Greater}
use Rattle.std.proofs.lemmas.Bool.{both_ways, false≢true}
use Rattle.ikey.specs.declared.kind.Kind.{Kind}
use Rattle.ikey.specs.declared.kind.Kind.TheVariants.{Delete, Put}
use Rattle.table.specs.Key.{user_of, sequence_of, kind_of, kind_number, internal_key}
use Rattle.table.specs.Order.{internal_cmp}
use Rattle.table.proofs.Keys.{user_of-internal_key, sequence_of-internal_key, kind_of-internal_key}
use Rattle.table.proofs.Ordered.{is_lt-true}
use Rattle.table.specs.EncodedEntry.{Entry}
use Rattle.table.specs.EntriesFrom.{NeverFalls}
use Rattle.split.specs.Ranges.{KeyRange}
use Rattle.merge.specs.InRange.{is_in_range, entries_in}
use Rattle.merge.specs.CursorsLeft.{is_before, is_passed}
use Rattle.merge.specs.FirstEntry.{first_is}

-- ---- the tests of a range

not_before : (cmp : List ℕ → List ℕ → Ordering) (lower : Option (List ℕ)) (e : Entry) → option_map_or (λ l. not (is_lt (cmp (user_of e.key) l))) lower true ≡ not (is_before cmp lower false e)
not_before cmp None e = refl
not_before cmp (Some l) e = refl

holds_is : (cmp : List ℕ → List ℕ → Ordering) (range : KeyRange) (e : Entry) → is_in_range cmp range (user_of e.key) ≡ (not (is_before cmp range.lower false e) && is_before cmp range.upper true e)
holds_is cmp range e = ap (λ s. s && is_before cmp range.upper true e) (not_before cmp range.lower e)

by_parts : (cmp : List ℕ → List ℕ → Ordering) (range : KeyRange) (e : Entry) (low up : Bool) → is_before cmp range.lower false e ≡ low → is_before cmp range.upper true e ≡ up → is_in_range cmp range (user_of e.key) ≡ (not low && up)
by_parts cmp range e low up l u = holds_is cmp range e ∙ ap (λ s. not s && is_before cmp range.upper true e) l ∙ ap (λ s. not low && s) u

-- an entry before the lower bound isn't in the range
pub below_apart : (cmp : List ℕ → List ℕ → Ordering) (range : KeyRange) (e : Entry) → is_before cmp range.lower false e ≡ true → is_in_range cmp range (user_of e.key) ≡ false
below_apart cmp range e h = by_parts cmp range e true (is_before cmp range.upper true e) h refl

-- one that isn't before the lower bound, but before the upper one, is
pub within : (cmp : List ℕ → List ℕ → Ordering) (range : KeyRange) (e : Entry) → is_before cmp range.lower false e ≡ false → is_before cmp range.upper true e ≡ true → is_in_range cmp range (user_of e.key) ≡ true
within cmp range e l u = by_parts cmp range e false true l u

-- one that is at the upper bound or after it isn't
behind_apart : (cmp : List ℕ → List ℕ → Ordering) (range : KeyRange) (e : Entry) → is_before cmp range.lower false e ≡ false → is_before cmp range.upper true e ≡ false → is_in_range cmp range (user_of e.key) ≡ false
behind_apart cmp range e l u = by_parts cmp range e false false l u

pub below_passed : (cmp : List ℕ → List ℕ → Ordering) (range : KeyRange) (e : Entry) → is_before cmp range.lower false e ≡ true → is_passed cmp range e ≡ true
below_passed cmp range e h = ap (λ s. s || is_before cmp range.upper true e) h

or_true : (s : Bool) → (s || true) ≡ true
or_true true = refl
or_true false = refl

pub before_passed : (cmp : List ℕ → List ℕ → Ordering) (range : KeyRange) (e : Entry) → is_before cmp range.upper true e ≡ true → is_passed cmp range e ≡ true
before_passed cmp range e h = ap (λ s. is_before cmp range.lower false e || s) h ∙ or_true (is_before cmp range.lower false e)

not_passed : (cmp : List ℕ → List ℕ → Ordering) (range : KeyRange) (e : Entry) → is_before cmp range.lower false e ≡ false → is_before cmp range.upper true e ≡ false → is_passed cmp range e ≡ false
not_passed cmp range e l u = ap (λ s. s || is_before cmp range.upper true e) l ∙ u

-- ---- in order

first_le : (o p : Ordering) → is_le (ordering_then o p) ≡ true → is_le o ≡ true
first_le Less p h = refl
first_le Equal p h = refl
first_le Greater p h = h

module _ (cmp : List ℕ → List ℕ → Ordering) (total : IsTotalOrder cmp) where
  users_le : (a b : List ℕ) → is_le (internal_cmp cmp a b) ≡ true → is_le (cmp (user_of a) (user_of b)) ≡ true
  unfolding internal_cmp
  users_le a b h =
      first_le (cmp (user_of a) (user_of b)) (ordering_then (nat_cmp (sequence_of b) (sequence_of a)) (nat_cmp (kind_number (kind_of b)) (kind_number (kind_of a)))) h

  le_lt : (x y z : List ℕ) (o : Ordering) → cmp x y ≡ o → is_le o ≡ true → cmp y z ≡ Less → cmp x z ≡ Less
  le_lt x y z Less e h l = total.trans x y z e l
  le_lt x y z Equal e h l = total.congr x y z e ∙ l
  le_lt x y z Greater e h l = absurd (false≢true h)

  -- what comes after an entry that isn't before a bound isn't either
  stays : (bound : Option (List ℕ)) (otherwise : Bool) (e f : Entry) → is_le (internal_cmp cmp e.key f.key) ≡ true → is_before cmp bound otherwise e ≡ false → is_before cmp bound otherwise f ≡ false
  stays None otherwise e f le h = h
  stays (Some l) otherwise e f le h = by_test (is_lt (cmp (user_of f.key) l)) refl
    where
      by_test : (b : Bool) → is_lt (cmp (user_of f.key) l) ≡ b → is_lt (cmp (user_of f.key) l) ≡ false
      by_test true is =
          absurd (both_ways (is_lt (cmp (user_of e.key) l)) h
          (ap is_lt (le_lt (user_of e.key) (user_of f.key) l (cmp (user_of e.key) (user_of f.key)) refl (users_le e.key f.key le) (is_lt-true (cmp (user_of f.key) l) is))))
      by_test false is = is

  stay : (bound : Option (List ℕ)) (otherwise : Bool) (e : Entry) (es : List Entry) → AllByRecursion (λ f. is_le (internal_cmp cmp e.key f.key) ≡ true) es → is_before cmp bound otherwise e ≡ false → AllByRecursion (λ f. is_before cmp bound otherwise f ≡ false) es
  stay bound otherwise e [] le h = tt
  stay bound otherwise e (f ∷ es) le h = (stays bound otherwise e f le.0 h, stay bound otherwise e es le.1 h)

  -- if the first entry isn't before a bound, none is
  pub from_bound : (bound : Option (List ℕ)) (otherwise : Bool) (es : List Entry) → NeverFalls cmp es → first_is (is_before cmp bound otherwise) es ≡ false → AllByRecursion (λ e. is_before cmp bound otherwise e ≡ false) es
  from_bound bound otherwise [] falls h = tt
  from_bound bound otherwise (e ∷ es) falls h = (h, stay bound otherwise e es falls.0 h)

  -- after the upper bound nothing is in the range
  pub none_in : (range : KeyRange) (es : List Entry) → AllByRecursion (λ e. is_before cmp range.lower false e ≡ false) es → AllByRecursion (λ e. is_before cmp range.upper true e ≡ false) es → entries_in cmp range es ≡ []
  none_in range [] low up = refl
  none_in range (e ∷ es) low up =
      ap (λ s. cond s (e ∷ entries_in cmp range es) (entries_in cmp range es)) (behind_apart cmp range e low.0 up.0) ∙ none_in range es low.1 up.1

  pub none_passed : (range : KeyRange) (es : List Entry) → AllByRecursion (λ e. is_before cmp range.lower false e ≡ false) es → AllByRecursion (λ e. is_before cmp range.upper true e ≡ false) es → AllByRecursion (λ e. is_passed cmp range e ≡ false) es
  none_passed range [] low up = tt
  none_passed range (e ∷ es) low up = (not_passed cmp range e low.0 up.0, none_passed range es low.1 up.1)

  -- an entry of the range, and those after it
  pub one_in : (range : KeyRange) (e : Entry) (es : List Entry) → is_before cmp range.lower false e ≡ false → is_before cmp range.upper true e ≡ true → entries_in cmp range (e ∷ es) ≡ e ∷ entries_in cmp range es
  one_in range e es low up = ap (λ s. cond s (e ∷ entries_in cmp range es) (entries_in cmp range es)) (within cmp range e low up)

  falls_filter : (p : Entry → Bool) (es : List Entry) → NeverFalls cmp es → NeverFalls cmp (filter p es)
  falls_filter p [] h = tt
  falls_filter p (e ∷ es) h = by_test (p e) (falls_filter p es h.1)
    where
      kept : (fs : List Entry) → AllByRecursion (λ f. is_le (internal_cmp cmp e.key f.key) ≡ true) fs → AllByRecursion (λ f. is_le (internal_cmp cmp e.key f.key) ≡ true) (filter p fs)
      kept [] k = tt
      kept (f ∷ fs) k = by_kept (p f) (kept fs k.1)
        where
          by_kept : (b : Bool) → AllByRecursion (λ f. is_le (internal_cmp cmp e.key f.key) ≡ true) (filter p fs) → AllByRecursion (λ f. is_le (internal_cmp cmp e.key f.key) ≡ true) (cond b (f ∷ filter p fs) (filter p fs))
          by_kept true more = (k.0, more)
          by_kept false more = more

      by_test : (b : Bool) → NeverFalls cmp (filter p es) → NeverFalls cmp (cond b (e ∷ filter p es) (filter p es))
      by_test true more = (kept es h.0, more)
      by_test false more = more

  pub in_falls : (range : KeyRange) (es : List Entry) → NeverFalls cmp es → NeverFalls cmp (entries_in cmp range es)
  in_falls range es h = falls_filter (λ e. is_in_range cmp range (user_of e.key)) es h

-- ---- the first internal key of a user key

then_low : (o : Ordering) (x y k l : ℕ) → y ≤ x → l ≤ k → ordering_then o (ordering_then (nat_cmp x y) (nat_cmp k l)) ≡ Less → o ≡ Less
then_low Less x y k l h i e = refl
then_low Equal x y k l h i e = by_test (nat_lt x y) (nat_eq x y) refl e
  where
    by_kinds : (a b : Bool) → nat_lt k l ≡ a → cond a Less (cond b Equal Greater) ≡ Less → Equal ≡ Less
    by_kinds true b is e = absurd (omega (arith, ltb-true _ _ is, i))
    by_kinds false true is e = e
    by_kinds false false is e = absurd cc

    by_test : (a b : Bool) → nat_lt x y ≡ a → ordering_then (cond a Less (cond b Equal Greater)) (nat_cmp k l) ≡ Less → Equal ≡ Less
    by_test true b is e = absurd (omega (arith, ltb-true _ _ is, h))
    by_test false true is e = by_kinds (nat_lt k l) (nat_eq k l) refl e
    by_test false false is e = absurd cc
then_low Greater x y k l h i e = e

pub kind_low : (k : Kind) → kind_number k ≤ 1
kind_low Put = omega arith
kind_low Delete = omega arith

-- an internal key below the first of a user key is of a lesser user key
pub below_first : (cmp : List ℕ → List ℕ → Ordering) (user key : List ℕ) → sequence_of key < 2 ^ 56 → internal_cmp cmp key (internal_key user 72057594037927935 Put) ≡ Less → cmp (user_of key) user ≡ Less
unfolding internal_cmp
below_first cmp user key fits h =
    let target : List ℕ = internal_key user 72057594037927935 Put in
    let max : 72057594037927935 < 2 ^ 56 = lit< tt in
    let sequence : sequence_of target ≡ 72057594037927935 = sequence_of-internal_key user 72057594037927935 Put max in
    let kind : kind_number (kind_of target) ≡ 1 = ap kind_number (kind_of-internal_key user 72057594037927935 Put max) in
    let low : kind_number (kind_of key) ≤ 1 = kind_low (kind_of key) in
    ap (cmp (user_of key)) (sym (user_of-internal_key user 72057594037927935 Put))
    ∙ then_low (cmp (user_of key) (user_of target)) (sequence_of target) (sequence_of key) (kind_number (kind_of target)) (kind_number (kind_of key)) (omega (arith, sequence, fits)) (omega (arith, kind, low)) h
