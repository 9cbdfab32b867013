-- The ranges that files fill together, found in one walk over files in the order of their smallest user keys.
use Rattle.std.proofs.Common.{◌≡◌, ℕ, zero, suc, Bool, true, false, cond, ◌⊎◌, List, [], ◌∷◌, ◌++◌, Some, refl, sym, ap, subst, ◌∙◌, inl, inr, arith}
use Rattle.std.specs.Prelude.{Contains}
use Rattle.std.specs.List.{AllByRecursion, filter, list_any, slice_get}
use Rattle.std.specs.List.Sorted.{IsPermutation}
use Rattle.std.specs.Cmp.{IsTotalOrder}
use Rattle.std.specs.Ordering.{is_lt}
use Rattle.std.specs.declared.cmp.Ordering.{Ordering}
use Rattle.std.proofs.lemmas.List.Folds.{list_any-append}
use Rattle.std.proofs.lemmas.List.Sorted.{Contains-permutation}
use Rattle.edit.specs.Key.{user_of}
use Rattle.edit.specs.declared.meta.FileMeta.{FileMeta}
use Rattle.pick.specs.ChosenFiles.{IsOverlapClosed}
use Rattle.pick.specs.Choices.{IsGrown, Reaches}
use Rattle.pick.specs.FileRanges.{AreByStart, AreFileRanges, AreRising}
use Rattle.pick.specs.Parts.{have_ranges}
use Rattle.pick.specs.Ranges.{is_at_most, overlaps}
use Rattle.pick.specs.Spans.{greater_user, is_covering, is_overlapping, lesser_user}
use Rattle.pick.specs.declared.range.UserRange.{UserRange}
use Rattle.pick.proofs.ApartChoices.{is_there, more_overlap, refuted}
use Rattle.pick.proofs.FileSpans.{head_in}
use Rattle.pick.proofs.Grown.{IsGrowing, covers_own, growing_more, growing_none, overlaps_reaching, reaches_own, reaches_with}
use Rattle.pick.proofs.Lists.{IsIn, all_from, all_in, and_both, and_first, and_second, any_from, any_gives, false_true, filter_in, in_filter, or_left, or_right}
use Rattle.pick.proofs.Starts.{all_begin, first_begins, head_begins}
use Rattle.pick.proofs.UserOrders.{at_most_greater, le_refl, le_trans, lesser_same}

-- ---- lists

all_more : {A : Type 0} (P : A → Type 0) (xs : List A) (x : A) → AllByRecursion P xs → P x → AllByRecursion P (xs ++ x ∷ [])
all_more P [] x h own = (own, tt)
all_more P (y ∷ xs) x h own = (h.0, all_more P xs x h.1 own)

in_contains : {A : Type 0} (xs : List A) (q : A) → IsIn xs q → Contains xs q
in_contains [] q i = absurd i
in_contains (x ∷ xs) q (inl e) = (zero, omega arith, sym e)
in_contains (x ∷ xs) q (inr i) = let rest = in_contains xs q i in (suc rest.0, omega (arith, rest.1), rest.2)

pub permuted_in : {A : Type 0} (xs ys : List A) → IsPermutation xs ys → (q : A) → IsIn xs q → IsIn ys q
permuted_in xs ys p q i = is_there ys q (Contains-permutation xs ys q p (in_contains xs q i))

module _ (cmp : List ℕ → List ℕ → Ordering) (total : IsTotalOrder cmp) where
  pub all_ranges : (files : List FileMeta) → have_ranges cmp files ≡ true → AllByRecursion (λ (f : FileMeta). is_at_most cmp (user_of f.smallest) (user_of f.largest) ≡ true) files
  all_ranges [] h = tt
  all_ranges (f ∷ files) h = (and_first (is_at_most cmp (user_of f.smallest) (user_of f.largest)) (have_ranges cmp files) h, all_ranges files (and_second (is_at_most cmp (user_of f.smallest) (user_of f.largest)) (have_ranges cmp files) h))

  pub have_same : (xs ys : List FileMeta) → ((q : FileMeta) → IsIn ys q → IsIn xs q) → have_ranges cmp xs ≡ true → have_ranges cmp ys ≡ true
  have_same xs [] from h = refl
  have_same xs (y ∷ ys) from h =
      and_both (is_at_most cmp (user_of y.smallest) (user_of y.largest)) (have_ranges cmp ys)
      (all_in (λ (f : FileMeta). is_at_most cmp (user_of f.smallest) (user_of f.largest) ≡ true) xs (all_ranges xs h) y (from y (inl refl)))
      (have_same xs ys (λ q i. from q (inr i)) h)

  -- ---- the same of lists with the same files

  reaches_more : (xs ys : List FileMeta) (s l : List ℕ) → ((q : FileMeta) → IsIn xs q → IsIn ys q) → Reaches cmp xs s l → Reaches cmp ys s l
  reaches_more xs ys s l to r =
      let x = any_gives (λ (f : FileMeta). is_at_most cmp (user_of f.smallest) s) xs r.begins in
      let y = any_gives (λ (f : FileMeta). is_at_most cmp l (user_of f.largest)) xs r.ends in
      record {
        begins = any_from (λ (f : FileMeta). is_at_most cmp (user_of f.smallest) s) ys x.item (to x.item x.inside) x.passes;
        ends = any_from (λ (f : FileMeta). is_at_most cmp l (user_of f.largest)) ys y.item (to y.item y.inside) y.passes;
      }

  module _ (xs ys : List FileMeta) (to : (q : FileMeta) → IsIn xs q → IsIn ys q) (from : (q : FileMeta) → IsIn ys q → IsIn xs q) where
    filter_to : (other : FileMeta → Bool) (q : FileMeta) → IsIn (filter other xs) q → IsIn (filter other ys) q
    filter_to other q i = let k = filter_in other xs q i in in_filter other ys q (to q k.0) k.1

    filter_from : (other : FileMeta → Bool) (q : FileMeta) → IsIn (filter other ys) q → IsIn (filter other xs) q
    filter_from other q i = let k = filter_in other ys q i in in_filter other xs q (from q k.0) k.1

    grown_same : (first : FileMeta) (s l : List ℕ) → IsGrown cmp xs first s l → IsGrown cmp ys first s l
    grown_same first s l g = record {
      with_first = g.with_first;
      rests = all_from (λ (f : FileMeta). is_overlapping cmp s l f ≡ true → is_covering cmp s l f ≡ true) ys
          (λ q i. all_in (λ (f : FileMeta). is_overlapping cmp s l f ≡ true → is_covering cmp s l f ≡ true) xs g.rests q (from q i));
      least = λ other closed r.
          reaches_more (filter other xs) (filter other ys) s l (filter_to other)
          (g.least other (closed_in other closed) (reaches_more (filter other ys) (filter other xs) (user_of first.smallest) (user_of first.largest) (filter_from other) r));
    }
      where
        closed_in : (other : FileMeta → Bool) → IsOverlapClosed cmp ys other → IsOverlapClosed cmp xs other
        closed_in other closed =
            all_from (λ (f : FileMeta). overlaps cmp (filter other xs) f ≡ true → other f ≡ true) xs
            (λ f i h. all_in (λ (q : FileMeta). overlaps cmp (filter other ys) q ≡ true → other q ≡ true) ys closed f (to f i) (more_overlap cmp total (filter other xs) (filter other ys) f (filter_to other) h))

    pub ranges_same : (ranges : List UserRange) → AreFileRanges cmp xs ranges → AreFileRanges cmp ys ranges
    ranges_same ranges h = record {
      rising = h.rising;
      grown = all_from (λ (r : UserRange). AllByRecursion (λ (f : FileMeta). is_overlapping cmp r.smallest.now r.largest.now f ≡ true → IsGrown cmp ys f r.smallest.now r.largest.now) ys) ranges
          (λ r i. all_from (λ (f : FileMeta). is_overlapping cmp r.smallest.now r.largest.now f ≡ true → IsGrown cmp ys f r.smallest.now r.largest.now) ys
          (λ f j k. grown_same f r.smallest.now r.largest.now
          (all_in (λ (q : FileMeta). is_overlapping cmp r.smallest.now r.largest.now q ≡ true → IsGrown cmp xs q r.smallest.now r.largest.now) xs
          (all_in (λ (x : UserRange). AllByRecursion (λ (q : FileMeta). is_overlapping cmp x.smallest.now x.largest.now q ≡ true → IsGrown cmp xs q x.smallest.now x.largest.now) xs) ranges h.grown r i) f (from f j) k)));
      all = all_from (λ (f : FileMeta). list_any (λ (r : UserRange). is_overlapping cmp r.smallest.now r.largest.now f) ranges ≡ true) ys
          (λ f i. all_in (λ (q : FileMeta). list_any (λ (r : UserRange). is_overlapping cmp r.smallest.now r.largest.now q) ranges ≡ true) xs h.all f (from f i));
    }

  rising_more : (ranges : List UserRange) (r : UserRange) → AreRising cmp ranges → is_at_most cmp r.smallest.now r.largest.now ≡ true → AllByRecursion (λ (q : UserRange). is_at_most cmp r.smallest.now q.largest.now ≡ false) ranges → AreRising cmp (ranges ++ r ∷ [])
  rising_more [] r h own past = (own, tt, tt)
  rising_more (q ∷ ranges) r h own past = (h.0, all_more (λ (x : UserRange). is_at_most cmp x.smallest.now q.largest.now ≡ false) ranges r h.1 past.0, rising_more ranges r h.2 own past.1)

  -- ---- the walk

  module _ (files : List FileMeta) where
    -- a file with which the range so far ends, and which begins before all that are left
    pub record IsLast (s l : List ℕ) (rest : List FileMeta) : Type 0 where
      pub file : FileMeta
      pub inside : IsIn files file
      pub ends : is_at_most cmp l (user_of file.largest) ≡ true
      pub before : (g : FileMeta) → IsIn rest g → is_at_most cmp (user_of file.smallest) (user_of g.smallest) ≡ true
      pub grows : IsGrowing cmp files file s l

    -- a file is in a range before the one so far
    pub record IsPast (ranges : List UserRange) (s : List ℕ) (f : FileMeta) : Type 0 where
      pub ends : is_at_most cmp s (user_of f.largest) ≡ false
      pub held : list_any (λ (r : UserRange). is_overlapping cmp r.smallest.now r.largest.now f) ranges ≡ true

    -- The ranges that ended, the one so far, and the files that are left. Each other file is in one of these ranges.
    pub record IsWidened (ranges : List UserRange) (s l : List ℕ) (rest : List FileMeta) : Type 0 where
      pub have : have_ranges cmp files ≡ true
      pub inside : (f : FileMeta) → IsIn rest f → IsIn files f
      pub order : AreByStart cmp rest
      pub begins : (f : FileMeta) → IsIn rest f → is_at_most cmp s (user_of f.smallest) ≡ true
      pub rises : is_at_most cmp s l ≡ true
      pub last : IsLast s l rest
      pub each : (f : FileMeta) → IsIn files f → IsIn rest f ⊎ (IsPast ranges s f ⊎ IsGrowing cmp files f s l)
      pub past : AllByRecursion (λ (r : UserRange). is_at_most cmp s r.largest.now ≡ false) ranges
      pub rising : AreRising cmp ranges
      pub grown : AllByRecursion (λ (r : UserRange). AllByRecursion (λ (f : FileMeta). is_overlapping cmp r.smallest.now r.largest.now f ≡ true → IsGrown cmp files f r.smallest.now r.largest.now) files) ranges

    rises_by : have_ranges cmp files ≡ true → (f : FileMeta) → IsIn files f → is_at_most cmp (user_of f.smallest) (user_of f.largest) ≡ true
    rises_by have f i = all_in (λ (q : FileMeta). is_at_most cmp (user_of q.smallest) (user_of q.largest) ≡ true) files (all_ranges files have) f i

    pub first_widened : have_ranges cmp files ≡ true → (first : FileMeta) → slice_get files 0 ≡ Some first → AreByStart cmp files → IsWidened [] (user_of first.smallest) (user_of first.largest) files
    first_widened have first head order =
        let there = head_in files first head in
        record {
          have = have;
          inside = λ f i. i;
          order = order;
          begins = head_begins cmp total files first head order;
          rises = rises_by have first there;
          last = record {
            file = first;
            inside = there;
            ends = le_refl cmp total (user_of first.largest);
            before = head_begins cmp total files first head order;
            grows = growing_none cmp total files first;
          };
          each = λ f i. inl i;
          past = tt;
          rising = tt;
          grown = tt;
        }

    pub same_widened : (ranges all : List UserRange) (s t l m : List ℕ) (rest : List FileMeta) → all ≡ ranges → t ≡ s → m ≡ l → IsWidened ranges s l rest → IsWidened all t m rest
    same_widened ranges all s t l m rest same_ranges same_begin same_end w =
        subst (λ (rs : List UserRange). IsWidened rs t m rest) (sym same_ranges) (subst (λ (k : List ℕ). IsWidened ranges k m rest) (sym same_begin) (subst (λ (k : List ℕ). IsWidened ranges s k rest) (sym same_end) w))

    -- ---- a file that overlaps the range so far

    module _ (ranges : List UserRange) (s l : List ℕ) (g : FileMeta) (rest : List FileMeta) (w : IsWidened ranges s l (g ∷ rest)) (within : is_overlapping cmp s l g ≡ true) where
      there : IsIn files g
      there = w.inside g (inl refl)

      begins_first : is_at_most cmp s (user_of g.smallest) ≡ true
      begins_first = w.begins g (inl refl)

      same_begin : lesser_user cmp s (user_of g.smallest) ≡ s
      same_begin = lesser_same cmp total s (user_of g.smallest) begins_first

      wide : (f : FileMeta) → IsGrowing cmp files f s l → IsGrowing cmp files f s (greater_user cmp l (user_of g.largest))
      wide f h = subst (λ (k : List ℕ). IsGrowing cmp files f k (greater_user cmp l (user_of g.largest))) same_begin (growing_more cmp total files f s l g h there within)

      -- what reaches the file reaches the last one, and so the whole range
      last_chosen : (other : FileMeta → Bool) → IsOverlapClosed cmp files other → Reaches cmp (filter other files) (user_of g.smallest) (user_of g.largest) → other w.last.file ≡ true
      last_chosen other closed r =
          all_in (λ (f : FileMeta). overlaps cmp (filter other files) f ≡ true → other f ≡ true) files closed w.last.file w.last.inside
          (overlaps_reaching cmp total (filter other files) (user_of g.smallest) (user_of g.largest) w.last.file r
          (and_both (is_at_most cmp (user_of g.smallest) (user_of w.last.file.largest)) (is_at_most cmp (user_of w.last.file.smallest) (user_of g.largest))
          (le_trans cmp total (user_of g.smallest) l (user_of w.last.file.largest) (and_second (is_at_most cmp s (user_of g.largest)) (is_at_most cmp (user_of g.smallest) l) within) w.last.ends)
          (le_trans cmp total (user_of w.last.file.smallest) (user_of g.smallest) (user_of g.largest) (w.last.before g (inl refl)) (rises_by w.have g there))))

      reach : (other : FileMeta → Bool) → IsOverlapClosed cmp files other → Reaches cmp (filter other files) (user_of g.smallest) (user_of g.largest) → Reaches cmp (filter other files) s l
      reach other closed r = w.last.grows.least other closed (reaches_own cmp total (filter other files) w.last.file (in_filter other files w.last.file w.last.inside (last_chosen other closed r)))

      own : IsGrowing cmp files g s (greater_user cmp l (user_of g.largest))
      own = subst (λ (k : List ℕ). IsGrowing cmp files g k (greater_user cmp l (user_of g.largest))) same_begin grows
        where
          grows : IsGrowing cmp files g (lesser_user cmp s (user_of g.smallest)) (greater_user cmp l (user_of g.largest))
          grows = record {
            with_first = covers_own cmp total s l g;
            least = λ other closed r. reaches_with cmp total (filter other files) s l (user_of g.smallest) (user_of g.largest) (reach other closed r) r;
          }

      now_last : (t : Bool) → is_lt (cmp l (user_of g.largest)) ≡ t → IsLast s (greater_user cmp l (user_of g.largest)) rest
      now_last true e = record {
        file = g;
        inside = there;
        ends = ap (λ (b : Bool). is_at_most cmp (cond b (user_of g.largest) l) (user_of g.largest)) e ∙ le_refl cmp total (user_of g.largest);
        before = λ q i. first_begins cmp total g rest w.order q (inr i);
        grows = own;
      }
      now_last false e = record {
        file = w.last.file;
        inside = w.last.inside;
        ends = ap (λ (b : Bool). is_at_most cmp (cond b (user_of g.largest) l) (user_of w.last.file.largest)) e ∙ w.last.ends;
        before = λ q i. w.last.before q (inr i);
        grows = wide w.last.file w.last.grows;
      }

      now_each : (f : FileMeta) → IsIn (g ∷ rest) f ⊎ (IsPast ranges s f ⊎ IsGrowing cmp files f s l) → IsIn rest f ⊎ (IsPast ranges s f ⊎ IsGrowing cmp files f s (greater_user cmp l (user_of g.largest)))
      now_each f (inl (inl e)) = inr (inr (subst (λ (q : FileMeta). IsGrowing cmp files q s (greater_user cmp l (user_of g.largest))) (sym e) own))
      now_each f (inl (inr i)) = inl i
      now_each f (inr (inl p)) = inr (inl p)
      now_each f (inr (inr h)) = inr (inr (wide f h))

      pub more_widened : IsWidened ranges (lesser_user cmp s (user_of g.smallest)) (greater_user cmp l (user_of g.largest)) rest
      more_widened = subst (λ (k : List ℕ). IsWidened ranges k (greater_user cmp l (user_of g.largest)) rest) (sym same_begin) widened
        where
          widened : IsWidened ranges s (greater_user cmp l (user_of g.largest)) rest
          widened = record {
            have = w.have;
            inside = λ f i. w.inside f (inr i);
            order = w.order.1;
            begins = λ f i. w.begins f (inr i);
            rises = at_most_greater cmp total l (user_of g.largest) s ∙ or_left (is_at_most cmp s l) (is_at_most cmp s (user_of g.largest)) w.rises;
            last = now_last (is_lt (cmp l (user_of g.largest))) refl;
            each = λ f i. now_each f (w.each f i);
            past = w.past;
            rising = w.rising;
            grown = w.grown;
          }

    -- ---- a range that ended

    module _ (ranges : List UserRange) (r : UserRange) (rest : List FileMeta) (w : IsWidened ranges r.smallest.now r.largest.now rest) (behind : (f : FileMeta) → IsIn rest f → is_at_most cmp (user_of f.smallest) r.largest.now ≡ false) where
      in_it : (f : FileMeta) → is_overlapping cmp r.smallest.now r.largest.now f ≡ true → IsIn rest f ⊎ (IsPast ranges r.smallest.now f ⊎ IsGrowing cmp files f r.smallest.now r.largest.now) → IsGrowing cmp files f r.smallest.now r.largest.now
      in_it f h (inl i) = false_true (is_at_most cmp (user_of f.smallest) r.largest.now) (and_second (is_at_most cmp r.smallest.now (user_of f.largest)) (is_at_most cmp (user_of f.smallest) r.largest.now) h) (behind f i)
      in_it f h (inr (inl p)) = false_true (is_at_most cmp r.smallest.now (user_of f.largest)) (and_first (is_at_most cmp r.smallest.now (user_of f.largest)) (is_at_most cmp (user_of f.smallest) r.largest.now) h) p.ends
      in_it f h (inr (inr g)) = g

      ended : (f : FileMeta) → IsIn files f → is_overlapping cmp r.smallest.now r.largest.now f ≡ true → IsGrown cmp files f r.smallest.now r.largest.now
      ended f i h =
          let g = in_it f h (w.each f i) in
          record {
            with_first = g.with_first;
            rests = all_from (λ (q : FileMeta). is_overlapping cmp r.smallest.now r.largest.now q ≡ true → is_covering cmp r.smallest.now r.largest.now q ≡ true) files (λ q j k. (in_it q k (w.each q j)).with_first);
            least = g.least;
          }

      pub grown_more : AllByRecursion (λ (x : UserRange). AllByRecursion (λ (f : FileMeta). is_overlapping cmp x.smallest.now x.largest.now f ≡ true → IsGrown cmp files f x.smallest.now x.largest.now) files) (ranges ++ r ∷ [])
      grown_more =
          all_more (λ (x : UserRange). AllByRecursion (λ (f : FileMeta). is_overlapping cmp x.smallest.now x.largest.now f ≡ true → IsGrown cmp files f x.smallest.now x.largest.now) files) ranges r w.grown
          (all_from (λ (f : FileMeta). is_overlapping cmp r.smallest.now r.largest.now f ≡ true → IsGrown cmp files f r.smallest.now r.largest.now) files ended)

      pub rising_with : AreRising cmp (ranges ++ r ∷ [])
      rising_with = rising_more ranges r w.rising w.rises w.past

      -- each file that isn't left is in a range
      pub held_by : (f : FileMeta) → IsIn files f → IsPast ranges r.smallest.now f ⊎ IsGrowing cmp files f r.smallest.now r.largest.now → list_any (λ (x : UserRange). is_overlapping cmp x.smallest.now x.largest.now f) (ranges ++ r ∷ []) ≡ true
      held_by f i (inl p) =
          list_any-append (λ (x : UserRange). is_overlapping cmp x.smallest.now x.largest.now f) ranges (r ∷ [])
          ∙ or_left (list_any (λ (x : UserRange). is_overlapping cmp x.smallest.now x.largest.now f) ranges) (list_any (λ (x : UserRange). is_overlapping cmp x.smallest.now x.largest.now f) (r ∷ [])) p.held
      held_by f i (inr g) =
          let begins = and_first (is_at_most cmp r.smallest.now (user_of f.smallest)) (is_at_most cmp (user_of f.largest) r.largest.now) g.with_first in
          let ends = and_second (is_at_most cmp r.smallest.now (user_of f.smallest)) (is_at_most cmp (user_of f.largest) r.largest.now) g.with_first in
          let within : is_overlapping cmp r.smallest.now r.largest.now f ≡ true =
          and_both (is_at_most cmp r.smallest.now (user_of f.largest)) (is_at_most cmp (user_of f.smallest) r.largest.now)
          (le_trans cmp total r.smallest.now (user_of f.smallest) (user_of f.largest) begins (rises_by w.have f i))
          (le_trans cmp total (user_of f.smallest) (user_of f.largest) r.largest.now (rises_by w.have f i) ends) in
          list_any-append (λ (x : UserRange). is_overlapping cmp x.smallest.now x.largest.now f) ranges (r ∷ [])
          ∙ or_right (list_any (λ (x : UserRange). is_overlapping cmp x.smallest.now x.largest.now f) ranges) (list_any (λ (x : UserRange). is_overlapping cmp x.smallest.now x.largest.now f) (r ∷ []))
          (or_left (is_overlapping cmp r.smallest.now r.largest.now f) false within)

    -- all files are in ranges
    pub all_widened : (ranges : List UserRange) (r : UserRange) → IsWidened ranges r.smallest.now r.largest.now [] → AreFileRanges cmp files (ranges ++ r ∷ [])
    all_widened ranges r w = record {
      rising = rising_with ranges r [] w (λ f i. absurd i);
      grown = grown_more ranges r [] w (λ f i. absurd i);
      all = all_from (λ (f : FileMeta). list_any (λ (x : UserRange). is_overlapping cmp x.smallest.now x.largest.now f) (ranges ++ r ∷ []) ≡ true) files (λ f i. held f i (w.each f i));
    }
      where
        held : (f : FileMeta) → IsIn files f → ⊥ ⊎ (IsPast ranges r.smallest.now f ⊎ IsGrowing cmp files f r.smallest.now r.largest.now) → list_any (λ (x : UserRange). is_overlapping cmp x.smallest.now x.largest.now f) (ranges ++ r ∷ []) ≡ true
        held f i (inl j) = absurd j
        held f i (inr h) = held_by ranges r [] w (λ q j. absurd j) f i h

    -- ---- a file behind the range so far begins the next one

    module _ (ranges : List UserRange) (r : UserRange) (g : FileMeta) (rest : List FileMeta) (w : IsWidened ranges r.smallest.now r.largest.now (g ∷ rest)) (out : is_overlapping cmp r.smallest.now r.largest.now g ≡ false) where
      g_there : IsIn files g
      g_there = w.inside g (inl refl)

      g_behind : is_at_most cmp (user_of g.smallest) r.largest.now ≡ false
      g_behind =
          refuted (is_at_most cmp (user_of g.smallest) r.largest.now)
          (λ h. false_true (is_overlapping cmp r.smallest.now r.largest.now g)
          (and_both (is_at_most cmp r.smallest.now (user_of g.largest)) (is_at_most cmp (user_of g.smallest) r.largest.now)
          (le_trans cmp total r.smallest.now (user_of g.smallest) (user_of g.largest) (w.begins g (inl refl)) (rises_by w.have g g_there)) h) out)

      all_behind : (f : FileMeta) → IsIn (g ∷ rest) f → is_at_most cmp (user_of f.smallest) r.largest.now ≡ false
      all_behind = all_begin cmp total g rest w.order r.largest.now g_behind

      -- what ended before this range ended before the next one
      sooner : (k : List ℕ) → is_at_most cmp r.smallest.now k ≡ false → is_at_most cmp (user_of g.smallest) k ≡ false
      sooner k h = refuted (is_at_most cmp (user_of g.smallest) k) (λ e. false_true (is_at_most cmp r.smallest.now k) (le_trans cmp total r.smallest.now (user_of g.smallest) k (w.begins g (inl refl)) e) h)

      then_ends : (f : FileMeta) → IsPast ranges r.smallest.now f ⊎ IsGrowing cmp files f r.smallest.now r.largest.now → is_at_most cmp (user_of g.smallest) (user_of f.largest) ≡ false
      then_ends f (inl p) = sooner (user_of f.largest) p.ends
      then_ends f (inr h) =
          refuted (is_at_most cmp (user_of g.smallest) (user_of f.largest))
          (λ e. false_true (is_at_most cmp (user_of g.smallest) r.largest.now)
          (le_trans cmp total (user_of g.smallest) (user_of f.largest) r.largest.now e (and_second (is_at_most cmp r.smallest.now (user_of f.smallest)) (is_at_most cmp (user_of f.largest) r.largest.now) h.with_first)) g_behind)

      then_each : (f : FileMeta) → IsIn files f → IsIn (g ∷ rest) f ⊎ (IsPast ranges r.smallest.now f ⊎ IsGrowing cmp files f r.smallest.now r.largest.now)
          → IsIn rest f ⊎ (IsPast (ranges ++ r ∷ []) (user_of g.smallest) f ⊎ IsGrowing cmp files f (user_of g.smallest) (user_of g.largest))
      then_each f i (inl (inl e)) = inr (inr (subst (λ (q : FileMeta). IsGrowing cmp files q (user_of g.smallest) (user_of g.largest)) (sym e) (growing_none cmp total files g)))
      then_each f i (inl (inr j)) = inl j
      then_each f i (inr h) = inr (inl (record { ends = then_ends f h; held = held_by ranges r (g ∷ rest) w all_behind f i h }))

      pub next_widened : IsWidened (ranges ++ r ∷ []) (user_of g.smallest) (user_of g.largest) rest
      next_widened = record {
        have = w.have;
        inside = λ f i. w.inside f (inr i);
        order = w.order.1;
        begins = λ f i. first_begins cmp total g rest w.order f (inr i);
        rises = rises_by w.have g g_there;
        last = record {
          file = g;
          inside = g_there;
          ends = le_refl cmp total (user_of g.largest);
          before = λ f i. first_begins cmp total g rest w.order f (inr i);
          grows = growing_none cmp total files g;
        };
        each = λ f i. then_each f i (w.each f i);
        past = all_more (λ (q : UserRange). is_at_most cmp (user_of g.smallest) q.largest.now ≡ false) ranges r
            (all_from (λ (q : UserRange). is_at_most cmp (user_of g.smallest) q.largest.now ≡ false) ranges (λ q i. sooner q.largest.now (all_in (λ (x : UserRange). is_at_most cmp r.smallest.now x.largest.now ≡ false) ranges w.past q i))) g_behind;
        rising = rising_with ranges r (g ∷ rest) w all_behind;
        grown = grown_more ranges r (g ∷ rest) w all_behind;
      }
