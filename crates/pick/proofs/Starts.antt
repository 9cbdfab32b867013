-- Files in the order of their smallest user keys.
use Rattle.std.proofs.Common.{Bor, ◌≡◌, ℕ, zero, suc, ◌+◌, ◌<◌, Bool, true, false, cond, List, [], ◌∷◌, length, get_or, drop, Some, refl, sym, ap, subst, ◌∙◌, inl, inr, arith}
use Rattle.std.specs.List.{AllByRecursion, filter, slice_get}
use Rattle.std.specs.List.Sorted.{IsSortedBy, IsStrictlySortedBy}
use Rattle.std.specs.Cmp.{IsTotalOrder}
use Rattle.std.specs.Ordering.{is_le, is_lt, nat_cmp}
use Rattle.std.specs.declared.cmp.Ordering.{Ordering}
use Rattle.std.specs.declared.cmp.Ordering.TheVariants.{Less}
use Rattle.std.proofs.lemmas.Cmp.{on_total}
use Rattle.std.proofs.lemmas.List.Sorted.{ranks_by, sorted_far}
use Rattle.edit.specs.Key.{user_of}
use Rattle.edit.specs.Order.{internal_cmp}
use Rattle.edit.specs.VersionOrder.{file_cmp}
use Rattle.edit.specs.declared.meta.FileMeta.{FileMeta}
use Rattle.pick.specs.FileRanges.{AreByStart, AreRising, ending_from}
use Rattle.pick.specs.Ranges.{is_at_most}
use Rattle.pick.specs.Spans.{is_overlapping}
use Rattle.pick.specs.declared.range.UserRange.{UserRange}
use Rattle.pick.proofs.ApartChoices.{le_by, refuted, then_le, user_le}
use Rattle.pick.proofs.Lists.{IsIn, all_from, all_in, and_first, and_second, cond_false, false_true, filter_nothing, lent}
use Rattle.pick.proofs.UserOrders.{le_refl, le_trans, not_lt_le}

module _ (cmp : List ℕ → List ℕ → Ordering) (total : IsTotalOrder cmp) where
  -- the order of files by their smallest user keys
  abbrev pub start_cmp : FileMeta → FileMeta → Ordering
  start_cmp f g = cmp (user_of f.smallest) (user_of g.smallest)

  pub start_total : IsTotalOrder start_cmp
  start_total = on_total (λ (f : FileMeta). user_of f.smallest) total

  -- ---- what is in this order

  pub by_version : (files : List FileMeta) → IsStrictlySortedBy (file_cmp cmp) files → AreByStart cmp files
  unfolding IsStrictlySortedBy
  by_version [] h = tt
  by_version (f ∷ files) h = (
    all_from (λ (g : FileMeta). is_at_most cmp (user_of f.smallest) (user_of g.smallest) ≡ true) files
        (λ g i. user_le cmp total f.smallest g.smallest (then_le (internal_cmp cmp f.smallest g.smallest) (nat_cmp f.number g.number) (ap is_le (all_in (λ (q : FileMeta). file_cmp cmp f q ≡ Less) files h.0 g i)))),
    by_version files h.1,
  )

  abbrev begins_before : FileMeta → FileMeta → Bool
  begins_before f g = is_lt (cmp (user_of f.smallest) (user_of g.smallest))

  none_before : (f : FileMeta) (files : List FileMeta) → ((k : ℕ) (d : FileMeta) → k < length files → begins_before (get_or files k d) f ≡ false) → AllByRecursion (λ (g : FileMeta). is_at_most cmp (user_of f.smallest) (user_of g.smallest) ≡ true) files
  none_before f [] h = tt
  none_before f (g ∷ files) h = (not_lt_le cmp total (user_of f.smallest) (user_of g.smallest) (h zero g (omega arith)), none_before f files (λ k d lt. h (suc k) d (omega arith)))

  up_tail : (f : FileMeta) (files : List FileMeta) → IsSortedBy begins_before (f ∷ files) → IsSortedBy begins_before files
  up_tail f files h k d le below =
      let next : suc k + 1 ≡ suc (k + 1) = omega arith in
      subst (λ (n : ℕ). begins_before (get_or (f ∷ files) n d) (get_or files k d) ≡ false) next (h (suc k) d (omega arith) (omega arith))

  pub by_sort : (files : List FileMeta) → IsSortedBy (λ (f g : FileMeta). is_lt (cmp (user_of f.smallest) (user_of g.smallest))) files → AreByStart cmp files
  by_sort [] h = tt
  by_sort (f ∷ files) h =
      (none_before f files (λ k d below. sorted_far begins_before (ranks_by start_total (λ (g : FileMeta). g)) (f ∷ files) h zero (suc k) d (omega arith) (omega arith)), by_sort files (up_tail f files h))

  pub later_too : (files : List (Bor FileMeta)) (k : ℕ) → AreByStart cmp (lent files) → AreByStart cmp (lent (drop k files))
  later_too files zero h = h
  later_too [] (suc k) h = tt
  later_too (f ∷ files) (suc k) h = later_too files k h.1

  -- the first one begins at or before each
  pub first_begins : (f : FileMeta) (files : List FileMeta) → AreByStart cmp (f ∷ files) → (g : FileMeta) → IsIn (f ∷ files) g → is_at_most cmp (user_of f.smallest) (user_of g.smallest) ≡ true
  first_begins f files h g (inl e) = subst (λ (q : FileMeta). is_at_most cmp (user_of f.smallest) (user_of q.smallest) ≡ true) (sym e) (le_refl cmp total (user_of f.smallest))
  first_begins f files h g (inr i) = all_in (λ (q : FileMeta). is_at_most cmp (user_of f.smallest) (user_of q.smallest) ≡ true) files h.0 g i

  pub head_begins : (files : List FileMeta) (f : FileMeta) → slice_get files 0 ≡ Some f → AreByStart cmp files → (g : FileMeta) → IsIn files g → is_at_most cmp (user_of f.smallest) (user_of g.smallest) ≡ true
  head_begins [] f e h g i = absurd i
  head_begins (x ∷ files) f e h g i =
      let same : x ≡ f = cc in subst (λ (y : FileMeta). is_at_most cmp (user_of y.smallest) (user_of g.smallest) ≡ true) same (first_begins x files h g i)

  -- if the first one begins behind a range, all do
  pub all_begin : (f : FileMeta) (files : List FileMeta) → AreByStart cmp (f ∷ files) → (l : List ℕ) → is_at_most cmp (user_of f.smallest) l ≡ false → (g : FileMeta) → IsIn (f ∷ files) g → is_at_most cmp (user_of g.smallest) l ≡ false
  all_begin f files h l behind g i =
      refuted (is_at_most cmp (user_of g.smallest) l) (λ k. false_true (is_at_most cmp (user_of f.smallest) l) (le_trans cmp total (user_of f.smallest) (user_of g.smallest) l (first_begins f files h g i) k) behind)

  pub none_in : (s l : List ℕ) (f : FileMeta) (files : List FileMeta) → AreByStart cmp (f ∷ files) → is_at_most cmp (user_of f.smallest) l ≡ false → filter (is_overlapping cmp s l) (f ∷ files) ≡ []
  none_in s l f files h behind =
      filter_nothing (is_overlapping cmp s l) (f ∷ files)
      (λ g i. refuted (is_overlapping cmp s l g) (λ k. false_true (is_at_most cmp (user_of g.smallest) l) (and_second (is_at_most cmp s (user_of g.largest)) (is_at_most cmp (user_of g.smallest) l) k) (all_begin f files h l behind g i)))

  -- ---- the files from the first one on that doesn't end before a user key

  pub ending_order : (user : List ℕ) (files : List FileMeta) → AreByStart cmp files → AreByStart cmp (ending_from cmp user files)
  ending_order user [] h = tt
  ending_order user (f ∷ files) h = by (is_at_most cmp user (user_of f.largest)) (ending_order user files h.1)
    where
      by : (b : Bool) → AreByStart cmp (ending_from cmp user files) → AreByStart cmp (cond b (f ∷ files) (ending_from cmp user files))
      by true rest = h
      by false rest = rest

  ending_filter : (user s l : List ℕ) → is_at_most cmp user s ≡ true → (files : List FileMeta) → filter (is_overlapping cmp s l) (ending_from cmp user files) ≡ filter (is_overlapping cmp s l) files
  ending_filter user s l up [] = refl
  ending_filter user s l up (f ∷ files) = by (is_at_most cmp user (user_of f.largest)) refl (ending_filter user s l up files)
    where
      by : (b : Bool) → is_at_most cmp user (user_of f.largest) ≡ b → filter (is_overlapping cmp s l) (ending_from cmp user files) ≡ filter (is_overlapping cmp s l) files → filter (is_overlapping cmp s l) (cond b (f ∷ files) (ending_from cmp user files)) ≡ filter (is_overlapping cmp s l) (f ∷ files)
      by true e rest = refl
      by false e rest =
          let out : is_overlapping cmp s l f ≡ false =
          refuted (is_overlapping cmp s l f) (λ h. false_true (is_at_most cmp user (user_of f.largest)) (le_trans cmp total user s (user_of f.largest) up (and_first (is_at_most cmp s (user_of f.largest)) (is_at_most cmp (user_of f.smallest) l) h)) e) in
          rest ∙ sym (cond_false (is_overlapping cmp s l f) (f ∷ filter (is_overlapping cmp s l) files) (filter (is_overlapping cmp s l) files) out)

  -- What is left of files for ranges ahead: those that a range overlaps are all left.
  pub record AreLeft (ranges : List UserRange) (files left : List FileMeta) : Type 0 where
    pub order : AreByStart cmp left
    pub same : (r : UserRange) → IsIn ranges r → filter (λ (f : FileMeta). is_overlapping cmp r.smallest.now r.largest.now f) left ≡ filter (λ (f : FileMeta). is_overlapping cmp r.smallest.now r.largest.now f) files

  pub left_all : (ranges : List UserRange) (files : List FileMeta) → AreByStart cmp files → AreLeft ranges files files
  left_all ranges files order = record { order = order; same = λ r i. refl }

  pub left_from : (r : UserRange) (ranges : List UserRange) (files left : List FileMeta) → AreRising cmp (r ∷ ranges) → AreLeft (r ∷ ranges) files left → AreLeft (r ∷ ranges) files (ending_from cmp r.smallest.now left)
  left_from r ranges files left rising h = record {
    order = ending_order r.smallest.now left h.order;
    same = λ q i. ending_filter r.smallest.now q.smallest.now q.largest.now (begins_later q i) left ∙ h.same q i;
  }
    where
      begins_later : (q : UserRange) → IsIn (r ∷ ranges) q → is_at_most cmp r.smallest.now q.smallest.now ≡ true
      begins_later q (inl e) = subst (λ (x : UserRange). is_at_most cmp r.smallest.now x.smallest.now ≡ true) (sym e) (le_refl cmp total r.smallest.now)
      begins_later q (inr i) =
          le_trans cmp total r.smallest.now r.largest.now q.smallest.now rising.0
          (le_by cmp total q.smallest.now r.largest.now (all_in (λ (x : UserRange). is_at_most cmp x.smallest.now r.largest.now ≡ false) ranges rising.1 q i))

  pub left_next : (r : UserRange) (ranges : List UserRange) (files left : List FileMeta) → AreLeft (r ∷ ranges) files left → AreLeft ranges files left
  left_next r ranges files left h = record { order = h.order; same = λ q i. h.same q (inr i) }

  pub rising_from : (ranges : List UserRange) (k : ℕ) → AreRising cmp ranges → AreRising cmp (drop k ranges)
  rising_from ranges zero h = h
  rising_from [] (suc k) h = tt
  rising_from (r ∷ ranges) (suc k) h = rising_from ranges k h.2

  -- a step to the next range
  pub left_on : (r : UserRange) (ranges ahead : List UserRange) (files left now : List FileMeta) → ahead ≡ r ∷ ranges → AreRising cmp ahead → now ≡ ending_from cmp r.smallest.now left → AreLeft ahead files left → AreLeft (r ∷ ranges) files now
  left_on r ranges ahead files left now are rising now_is h =
      subst (AreLeft (r ∷ ranges) files) (sym now_is) (left_from r ranges files left (subst (AreRising cmp) are rising) (subst (λ (rs : List UserRange). AreLeft rs files left) are h))
