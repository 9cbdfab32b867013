-- Choices that stand apart are closed, and stay so.
use Rattle.std.proofs.Common.{◌≡◌, ℕ, zero, suc, ◌+◌, Bool, true, false, ◌&&◌, ◌||◌, ◌<◌, List, [], ◌∷◌, ◌++◌, length, get_or, Some, refl, sym, ap, subst, ◌∙◌, inl, inr, arith}
use Rattle.std.specs.Prelude.{◌⊎◌, Contains}
use Rattle.std.specs.List.{AllByRecursion, filter, list_any}
use Rattle.std.specs.Cmp.{IsTotalOrder}
use Rattle.std.specs.Ordering.{is_eq, is_le, is_lt, ordering_then, ordering_reverse}
use Rattle.std.specs.declared.cmp.Ordering.{Ordering}
use Rattle.std.specs.declared.cmp.Ordering.TheVariants.{Less, Equal, Greater}
use Rattle.edit.specs.Key.{user_of}
use Rattle.edit.specs.Order.{internal_cmp}
use Rattle.edit.specs.Version.{State}
use Rattle.edit.specs.VersionOrder.{level_files}
use Rattle.edit.specs.declared.meta.FileMeta.{FileMeta}
use Rattle.pick.specs.ApartChoice.{ApartIsClosed, ApartShareNone, AreDisjointChoices, HaveRanges, IsApartChoice, IsOldOrNew, LiesWithin, StaysApart, both_chosen, both_files}
use Rattle.pick.specs.Boundaries.{goes_on}
use Rattle.pick.specs.ClosedChoice.{IsClosedChoice, goes_with, is_needed_above, is_needed_below, lies_among, share_range}
use Rattle.pick.specs.Ranges.{begins_by, ends_at_or_after, is_at_most, overlaps}
use Rattle.pick.proofs.Lists.{IsIn, Passing, all_from, all_in, and_both, and_first, and_second, any_from, any_gives, cases, false_true, filter_in, in_back, in_either, in_filter, in_front, or_either}
use Rattle.pick.proofs.UserOrders.{le_trans}

pub then_le : (o p : Ordering) → is_le (ordering_then o p) ≡ true → is_le o ≡ true
then_le Less p e = refl
then_le Equal p e = refl
then_le Greater p e = absurd cc

eq_le : (o : Ordering) → is_eq o ≡ true → is_le o ≡ true
eq_le Less e = absurd cc
eq_le Equal e = refl
eq_le Greater e = absurd cc

eq_back : (o : Ordering) → is_eq o ≡ true → is_le (ordering_reverse o) ≡ true
eq_back Less e = absurd cc
eq_back Equal e = refl
eq_back Greater e = absurd cc

le_either : (o : Ordering) → is_le o ≡ false → is_le (ordering_reverse o) ≡ true
le_either Less e = absurd cc
le_either Equal e = absurd cc
le_either Greater e = refl

pub refuted : (b : Bool) → (b ≡ true → ⊥) → b ≡ false
refuted true h = absurd (h refl)
refuted false h = refl

pub is_there : {X : Type 0} (xs : List X) (q : X) → Contains xs q → IsIn xs q
is_there [] q at = absurd (omega (arith, at.1))
is_there {X = X} (x ∷ xs) q at = of_place (λ i lt e. is_there xs q (i, lt, e)) at.0 at.1 at.2
  where
    of_place : ((i : ℕ) → i < length xs → get_or xs i q ≡ q → IsIn xs q) → (i : ℕ) → i < length (x ∷ xs) → get_or (x ∷ xs) i q ≡ q → (q ≡ x) ⊎ IsIn xs q
    of_place later zero lt e = inl (sym e)
    of_place later (suc i) lt e = inr (later i (omega arith) e)

module _ (cmp : List ℕ → List ℕ → Ordering) (total : IsTotalOrder cmp) where
  -- internal keys that rise have user keys that rise
  pub user_le : (a b : List ℕ) → is_le (internal_cmp cmp a b) ≡ true → is_at_most cmp (user_of a) (user_of b) ≡ true
  unfolding internal_cmp
  user_le a b h = then_le (cmp (user_of a) (user_of b)) _ h

  pub le_by : (a b : List ℕ) → is_at_most cmp a b ≡ false → is_at_most cmp b a ≡ true
  le_by a b h = ap is_le (total.antisymm b a) ∙ le_either (cmp a b) h

  -- a file reaches a set of files if one begins at or before its end, and one ends at or after its begin
  pub overlaps_by : (files : List FileMeta) (f g h : FileMeta) → IsIn files g → IsIn files h → is_at_most cmp (user_of g.smallest) (user_of f.largest) ≡ true → is_at_most cmp (user_of f.smallest) (user_of h.largest) ≡ true → overlaps cmp files f ≡ true
  overlaps_by files f g h i j begins ends =
      and_both (begins_by cmp files (user_of f.largest)) (ends_at_or_after cmp files (user_of f.smallest))
      (any_from (λ (x : FileMeta). is_at_most cmp (user_of x.smallest) (user_of f.largest)) files g i begins)
      (any_from (λ (x : FileMeta). is_at_most cmp (user_of f.smallest) (user_of x.largest)) files h j ends)

  -- files that reach another one
  pub record Reached (files : List FileMeta) (f : FileMeta) : Type 0 where
    pub first : FileMeta
    pub first_in : IsIn files first
    pub begins : is_at_most cmp (user_of first.smallest) (user_of f.largest) ≡ true
    pub last : FileMeta
    pub last_in : IsIn files last
    pub ends : is_at_most cmp (user_of f.smallest) (user_of last.largest) ≡ true

  pub reached : (files : List FileMeta) (f : FileMeta) → overlaps cmp files f ≡ true → Reached files f
  reached files f h =
      let x = any_gives (λ (g : FileMeta). is_at_most cmp (user_of g.smallest) (user_of f.largest)) files (and_first (begins_by cmp files (user_of f.largest)) (ends_at_or_after cmp files (user_of f.smallest)) h) in
      let y = any_gives (λ (g : FileMeta). is_at_most cmp (user_of f.smallest) (user_of g.largest)) files (and_second (begins_by cmp files (user_of f.largest)) (ends_at_or_after cmp files (user_of f.smallest)) h) in
      record { first = x.item; first_in = x.inside; begins = x.passes; last = y.item; last_in = y.inside; ends = y.passes }

  pub more_overlap : (some all : List FileMeta) (f : FileMeta) → ((g : FileMeta) → IsIn some g → IsIn all g) → overlaps cmp some f ≡ true → overlaps cmp all f ≡ true
  more_overlap some all f inside h = let r = reached some f h in overlaps_by all f r.first r.last (inside r.first r.first_in) (inside r.last r.last_in) r.begins r.ends

  -- a file that goes on within the user key with which another ends overlaps it
  goes_overlaps : (files : List FileMeta) (g f : FileMeta) → IsIn files g → is_at_most cmp (user_of g.smallest) (user_of g.largest) ≡ true → is_at_most cmp (user_of f.smallest) (user_of f.largest) ≡ true → goes_on cmp (Some g.largest) f ≡ true → overlaps cmp files f ≡ true
  goes_overlaps files g f i own other h =
      let tied = and_second (is_lt (internal_cmp cmp g.largest f.smallest)) (is_eq (cmp (user_of g.largest) (user_of f.smallest))) h in
      let forth : is_at_most cmp (user_of g.largest) (user_of f.smallest) ≡ true = eq_le (cmp (user_of g.largest) (user_of f.smallest)) tied in
      let back : is_at_most cmp (user_of f.smallest) (user_of g.largest) ≡ true = ap is_le (total.antisymm (user_of f.smallest) (user_of g.largest)) ∙ eq_back (cmp (user_of g.largest) (user_of f.smallest)) tied in
      overlaps_by files f g g i i
      (le_trans cmp total (user_of g.smallest) (user_of g.largest) (user_of f.largest) own (le_trans cmp total (user_of g.largest) (user_of f.smallest) (user_of f.largest) forth other)) back

  module _ (v : State) (level : ℕ) (ranges : HaveRanges cmp v level) where
    rises : (f : FileMeta) → IsIn (both_files cmp v level) f → is_at_most cmp (user_of f.smallest) (user_of f.largest) ≡ true
    rises f i = all_in (λ (g : FileMeta). is_at_most cmp (user_of g.smallest) (user_of g.largest) ≡ true) (both_files cmp v level) ranges f i

    module _ (chosen : FileMeta → Bool) (apart : IsApartChoice cmp v level chosen) where
      abbrev upper : List FileMeta
      upper = filter chosen (level_files cmp v level)

      abbrev lower : List FileMeta
      lower = filter chosen (level_files cmp v (level + 1))

      abbrev all : List FileMeta
      all = both_chosen cmp v level chosen

      taken : (f : FileMeta) → IsIn (both_files cmp v level) f → overlaps cmp (both_chosen cmp v level chosen) f ≡ true → chosen f ≡ true
      taken f i h = all_in (λ (g : FileMeta). overlaps cmp (both_chosen cmp v level chosen) g ≡ true → chosen g ≡ true) (both_files cmp v level) apart f i h

      above_there : (f : FileMeta) → IsIn (level_files cmp v level) f → IsIn (both_files cmp v level) f
      above_there f i = in_front (level_files cmp v level) (level_files cmp v (level + 1)) f i

      below_there : (f : FileMeta) → IsIn (level_files cmp v (level + 1)) f → IsIn (both_files cmp v level) f
      below_there f i = in_back (level_files cmp v level) (level_files cmp v (level + 1)) f i

      of_upper : (g : FileMeta) → IsIn upper g → IsIn all g
      of_upper g i = in_front upper lower g i

      of_lower : (g : FileMeta) → IsIn lower g → IsIn all g
      of_lower g i = in_back upper lower g i

      upper_rises : (g : FileMeta) → IsIn upper g → is_at_most cmp (user_of g.smallest) (user_of g.largest) ≡ true
      upper_rises g i = rises g (above_there g (filter_in chosen (level_files cmp v level) g i).0)

      lower_rises : (g : FileMeta) → IsIn lower g → is_at_most cmp (user_of g.smallest) (user_of g.largest) ≡ true
      lower_rises g i = rises g (below_there g (filter_in chosen (level_files cmp v (level + 1)) g i).0)

      with_it : (n : ℕ) (g f : FileMeta) → IsIn upper g → IsIn (level_files cmp v level) f → goes_with cmp n g f ≡ true → overlaps cmp (both_chosen cmp v level chosen) f ≡ true
      with_it zero g f i j h =
          overlaps_by all f g g (of_upper g i) (of_upper g i) (and_first (is_at_most cmp (user_of g.smallest) (user_of f.largest)) (is_at_most cmp (user_of f.smallest) (user_of g.largest)) h)
          (and_second (is_at_most cmp (user_of g.smallest) (user_of f.largest)) (is_at_most cmp (user_of f.smallest) (user_of g.largest)) h)
      with_it (suc n) g f i j h = goes_overlaps all g f (of_upper g i) (upper_rises g i) (rises f (above_there f j)) h

      above_closed : (f : FileMeta) → IsIn (level_files cmp v level) f → is_needed_above cmp level upper f ≡ true → chosen f ≡ true
      above_closed f j needed =
          let x = any_gives (λ (g : FileMeta). goes_with cmp level g f) upper needed in
          taken f (above_there f j) (with_it level x.item f x.inside j x.passes)

      among_all : (f : FileMeta) → lies_among cmp all f ≡ true → overlaps cmp (both_chosen cmp v level chosen) f ≡ true
      among_all f h =
          let x = any_gives (λ (g : FileMeta). is_le (internal_cmp cmp g.smallest f.largest)) all (and_first (list_any (λ (g : FileMeta). is_le (internal_cmp cmp g.smallest f.largest)) all) (list_any (λ (g : FileMeta). is_le (internal_cmp cmp f.smallest g.largest)) all) h) in
          let y = any_gives (λ (g : FileMeta). is_le (internal_cmp cmp f.smallest g.largest)) all (and_second (list_any (λ (g : FileMeta). is_le (internal_cmp cmp g.smallest f.largest)) all) (list_any (λ (g : FileMeta). is_le (internal_cmp cmp f.smallest g.largest)) all) h) in
          overlaps_by all f x.item y.item x.inside y.inside (user_le x.item.smallest f.largest x.passes) (user_le f.smallest y.item.largest y.passes)

      below_closed : (f : FileMeta) → IsIn (level_files cmp v (level + 1)) f → is_needed_below cmp upper lower f ≡ true → chosen f ≡ true
      below_closed f j needed =
          let goes = list_any (λ (g : FileMeta). goes_on cmp (Some g.largest) f) lower in
          taken f (below_there f j)
          (elim (or_either (overlaps cmp upper f || goes) (lies_among cmp (upper ++ lower) f) needed) [
            | inl h ↦ elim (or_either (overlaps cmp upper f) goes h) [
              | inl k ↦ more_overlap upper all f of_upper k
              | inr k ↦ (let x = any_gives (λ (g : FileMeta). goes_on cmp (Some g.largest) f) lower k in goes_overlaps all x.item f (of_lower x.item x.inside) (lower_rises x.item x.inside) (rises f (below_there f j)) x.passes)
            ]
            | inr h ↦ among_all f h
          ])

      pub are_closed : IsClosedChoice cmp v level chosen
      are_closed = record {
        above = all_from (λ (f : FileMeta). is_needed_above cmp level (filter chosen (level_files cmp v level)) f ≡ true → chosen f ≡ true) (level_files cmp v level) above_closed;
        below = all_from (λ (f : FileMeta). is_needed_below cmp (filter chosen (level_files cmp v level)) (filter chosen (level_files cmp v (level + 1))) f ≡ true → chosen f ≡ true) (level_files cmp v (level + 1)) below_closed;
      }

  pub apart_is_closed : ApartIsClosed cmp
  apart_is_closed v level chosen ranges apart = are_closed v level ranges chosen apart

  -- ---- two choices

  -- a chosen file is one of the two levels
  pub chosen_there : (v : State) (level : ℕ) (chosen : FileMeta → Bool) (f : FileMeta) → IsIn (both_chosen cmp v level chosen) f → IsIn (both_files cmp v level) f × (chosen f ≡ true)
  chosen_there v level chosen f i =
      elim (in_either (filter chosen (level_files cmp v level)) (filter chosen (level_files cmp v (level + 1))) f i) [
        | inl j ↦ (let k = filter_in chosen (level_files cmp v level) f j in (in_front (level_files cmp v level) (level_files cmp v (level + 1)) f k.0, k.1))
        | inr j ↦ (let k = filter_in chosen (level_files cmp v (level + 1)) f j in (in_back (level_files cmp v level) (level_files cmp v (level + 1)) f k.0, k.1))
      ]

  -- and a file of the two levels that is chosen is among them
  pub there_chosen : (v : State) (level : ℕ) (chosen : FileMeta → Bool) (f : FileMeta) → IsIn (both_files cmp v level) f → chosen f ≡ true → IsIn (both_chosen cmp v level chosen) f
  there_chosen v level chosen f i h =
      elim (in_either (level_files cmp v level) (level_files cmp v (level + 1)) f i) [
        | inl j ↦ in_front (filter chosen (level_files cmp v level)) (filter chosen (level_files cmp v (level + 1))) f (in_filter chosen (level_files cmp v level) f j h)
        | inr j ↦ in_back (filter chosen (level_files cmp v level)) (filter chosen (level_files cmp v (level + 1))) f (in_filter chosen (level_files cmp v (level + 1)) f j h)
      ]

  pub apart_share_none : ApartShareNone cmp
  apart_share_none v level one other apart disjoint =
      all_from (λ (f : FileMeta). AllByRecursion (λ (g : FileMeta). share_range cmp f g ≡ false) (both_chosen cmp v level other)) (both_chosen cmp v level one)
      (λ f i.
      all_from (λ (g : FileMeta). share_range cmp f g ≡ false) (both_chosen cmp v level other) (λ g j. refuted (share_range cmp f g) (λ h. shared f g i j h)))
    where
      shared : (f g : FileMeta) → IsIn (both_chosen cmp v level one) f → IsIn (both_chosen cmp v level other) g → share_range cmp f g ≡ true → ⊥
      shared f g i j h =
          let own = chosen_there v level other g j in
          let begins = and_first (is_at_most cmp (user_of f.smallest) (user_of g.largest)) (is_at_most cmp (user_of g.smallest) (user_of f.largest)) h in
          let ends = and_second (is_at_most cmp (user_of f.smallest) (user_of g.largest)) (is_at_most cmp (user_of g.smallest) (user_of f.largest)) h in
          let first : one g ≡ true = all_in (λ (x : FileMeta). overlaps cmp (both_chosen cmp v level one) x ≡ true → one x ≡ true) (both_files cmp v level) apart g own.0 (overlaps_by (both_chosen cmp v level one) g f f i i begins ends) in
          false_true (other g) own.1 (all_in (λ (x : FileMeta). one x ≡ true → other x ≡ false) (both_files cmp v level) disjoint g own.0 first)

  module _ (v after : State) (level : ℕ) (staying compacted : FileMeta → Bool) (ranges : HaveRanges cmp v level) (apart : IsApartChoice cmp v level staying) (other : IsApartChoice cmp v level compacted) (disjoint : AreDisjointChoices cmp v level staying compacted)
      (left : AllByRecursion (IsOldOrNew cmp v level staying compacted) (both_files cmp after level)) where
    abbrev ours : List FileMeta
    ours = both_chosen cmp v level staying

    abbrev theirs : List FileMeta
    theirs = both_chosen cmp v level compacted

    -- no file is of both choices
    not_both : (f : FileMeta) → IsIn (both_files cmp v level) f → staying f ≡ true → compacted f ≡ true → ⊥
    not_both f i one two = false_true (compacted f) two (all_in (λ (x : FileMeta). staying x ≡ true → compacted x ≡ false) (both_files cmp v level) disjoint f i one)

    our_reach : (f : FileMeta) → IsIn (both_files cmp v level) f → overlaps cmp ours f ≡ true → staying f ≡ true
    our_reach f i h = all_in (λ (x : FileMeta). overlaps cmp (both_chosen cmp v level staying) x ≡ true → staying x ≡ true) (both_files cmp v level) apart f i h

    their_reach : (f : FileMeta) → IsIn (both_files cmp v level) f → overlaps cmp theirs f ≡ true → compacted f ≡ true
    their_reach f i h = all_in (λ (x : FileMeta). overlaps cmp (both_chosen cmp v level compacted) x ≡ true → compacted x ≡ true) (both_files cmp v level) other f i h

    ours_rise : (f : FileMeta) → IsIn (both_files cmp v level) f → is_at_most cmp (user_of f.smallest) (user_of f.largest) ≡ true
    ours_rise f i = all_in (λ (g : FileMeta). is_at_most cmp (user_of g.smallest) (user_of g.largest) ≡ true) (both_files cmp v level) ranges f i

    -- a chosen file after it was one before
    still_chosen : (g : FileMeta) → IsIn (both_chosen cmp after level staying) g → IsIn ours g
    still_chosen g i =
        let own = chosen_there after level staying g i in
        elim (all_in (IsOldOrNew cmp v level staying compacted) (both_files cmp after level) left g own.0) [
          | inl old ↦ there_chosen v level staying g (is_there (both_files cmp v level) g old.0) own.1
          | inr new ↦ false_true (staying g) own.1 new.0
        ]

    -- what lies within the one doesn't reach the other
    no_reach : (f : FileMeta) → LiesWithin cmp theirs f → overlaps cmp ours f ≡ true → ⊥
    no_reach f within h = by (is_at_most cmp (user_of r.first.smallest) (user_of a.item.largest)) refl
      where
        r : Reached ours f
        r = reached ours f h

        a : Passing (λ (x : FileMeta). is_at_most cmp (user_of x.smallest) (user_of f.smallest)) theirs
        a = any_gives (λ (x : FileMeta). is_at_most cmp (user_of x.smallest) (user_of f.smallest)) theirs within.begins

        b : Passing (λ (x : FileMeta). is_at_most cmp (user_of f.largest) (user_of x.largest)) theirs
        b = any_gives (λ (x : FileMeta). is_at_most cmp (user_of f.largest) (user_of x.largest)) theirs within.ends

        of_theirs : IsIn (both_files cmp v level) a.item × (compacted a.item ≡ true)
        of_theirs = chosen_there v level compacted a.item a.inside

        of_ours : IsIn (both_files cmp v level) r.first × (staying r.first ≡ true)
        of_ours = chosen_there v level staying r.first r.first_in

        by : (t : Bool) → is_at_most cmp (user_of r.first.smallest) (user_of a.item.largest) ≡ t → ⊥
        by true e =
            not_both a.item of_theirs.0
            (our_reach a.item of_theirs.0 (overlaps_by ours a.item r.first r.last r.first_in r.last_in e (le_trans cmp total (user_of a.item.smallest) (user_of f.smallest) (user_of r.last.largest) a.passes r.ends)))
            of_theirs.1
        by false e =
            let behind = le_by (user_of r.first.smallest) (user_of a.item.largest) e in
            let begins = le_trans cmp total (user_of a.item.smallest) (user_of a.item.largest) (user_of r.first.largest) (ours_rise a.item of_theirs.0)
            (le_trans cmp total (user_of a.item.largest) (user_of r.first.smallest) (user_of r.first.largest) behind (ours_rise r.first of_ours.0)) in
            not_both r.first of_ours.0 of_ours.1
            (their_reach r.first of_ours.0 (overlaps_by theirs r.first a.item b.item a.inside b.inside begins (le_trans cmp total (user_of r.first.smallest) (user_of f.largest) (user_of b.item.largest) r.begins b.passes)))

    pub stays : IsApartChoice cmp after level staying
    stays =
        all_from (λ (f : FileMeta). overlaps cmp (both_chosen cmp after level staying) f ≡ true → staying f ≡ true) (both_files cmp after level)
        (λ f i h.
        let before = more_overlap (both_chosen cmp after level staying) ours f still_chosen h in
        elim (all_in (IsOldOrNew cmp v level staying compacted) (both_files cmp after level) left f i) [
          | inl old ↦ our_reach f (is_there (both_files cmp v level) f old.0) before
          | inr new ↦ absurd (no_reach f new.1 before)
        ])

  pub stays_apart : StaysApart cmp
  stays_apart v after level staying compacted ranges apart other disjoint left = stays v after level staying compacted ranges apart other disjoint left
