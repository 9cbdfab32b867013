-- Parts of a level by the ranges that its files and those of the next level fill together.
use Rattle.std.proofs.Common.{◌≡◌, ℕ, zero, suc, ◌+◌, ◌-◌, ◌<◌, nat_lt, Bool, true, false, not, cond, ◌||◌, List, [], ◌∷◌, ◌++◌, map, length, drop, drop-cons, add-one, get_or, refl, sym, ap, subst, ◌∙◌, inl, inr, arith, append_assoc}
use Rattle.std.specs.List.{AllByRecursion, filter, list_any}
use Rattle.std.specs.Cmp.{IsTotalOrder}
use Rattle.std.specs.declared.cmp.Ordering.{Ordering}
use Rattle.std.proofs.lemmas.List.{map-append}
use Rattle.std.proofs.lemmas.List.Folds.{list_any-append}
use Rattle.edit.specs.Key.{user_of}
use Rattle.edit.specs.Version.{State}
use Rattle.edit.specs.VersionOrder.{level_files}
use Rattle.edit.specs.declared.meta.FileMeta.{FileMeta}
use Rattle.pick.specs.ApartChoice.{HaveRanges, IsApartChoice, both_chosen, both_files}
use Rattle.pick.specs.ChosenFiles.{IsOverlapClosed}
use Rattle.pick.specs.Choices.{IsGrown, Reaches}
use Rattle.pick.specs.FileRanges.{AreByStart, AreFileRanges, AreRising}
use Rattle.pick.specs.Parts.{AreParts, ArePartsFrom, IsPartAround, is_in_part, part_inputs}
use Rattle.pick.specs.PickedInputs.{PickedInputs, files_from, grandparents_of, input_at}
use Rattle.pick.specs.declared.picked_inputs.InputFile.{InputFile}
use Rattle.pick.specs.Ranges.{begins_by, ends_at_or_after, is_at_most, overlaps}
use Rattle.pick.specs.Spans.{is_covering, is_overlapping}
use Rattle.pick.specs.declared.range.UserRange.{UserRange}
use Rattle.pick.proofs.ApartChoices.{chosen_there, reached, refuted}
use Rattle.pick.proofs.FileSpans.{IsSpan, overlapping_is}
use Rattle.pick.proofs.Grown.{begins_on, ends_on, overlaps_reaching, reaches_own}
use Rattle.pick.proofs.Lists.{IsIn, Passing, all_from, all_in, and_both, and_first, and_second, any_from, any_gives, cond_false, cond_true, false_true, filter_nothing, filter_same, in_filter, in_front, none_any, or_left, same_test}
use Rattle.pick.proofs.Starts.{first_begins}
use Rattle.pick.proofs.UserOrders.{le_trans}

filter_both : (test : FileMeta → Bool) (xs ys : List FileMeta) → filter test (xs ++ ys) ≡ filter test xs ++ filter test ys
filter_both test [] ys = refl
filter_both test (x ∷ xs) ys = by (test x) (filter_both test xs ys)
  where
    by : (b : Bool) → filter test (xs ++ ys) ≡ filter test xs ++ filter test ys → cond b (x ∷ filter test (xs ++ ys)) (filter test (xs ++ ys)) ≡ cond b (x ∷ filter test xs) (filter test xs) ++ filter test ys
    by true rest = ap (λ (l : List FileMeta). x ∷ l) rest
    by false rest = rest

pub step_at : {A : Type 0} (xs : List A) (k : ℕ) (d : A) → k < length xs → drop k xs ≡ get_or xs k d ∷ drop (k + 1) xs
step_at xs k d lt = drop-cons xs k d lt ∙ ap (λ (n : ℕ). get_or xs k d ∷ drop n xs) (sym (add-one k))

pub step_rest : {A : Type 0} (xs : List A) (k : ℕ) (x : A) → k < length xs → x ≡ get_or xs k x → drop k xs ≡ x ∷ drop (k + 1) xs
step_rest xs k x lt is = step_at xs k x lt ∙ ap (λ (y : _). y ∷ drop (k + 1) xs) (sym is)

pub in_at : {A : Type 0} (xs : List A) (k : ℕ) (d : A) → k < length xs → IsIn xs (get_or xs k d)
in_at [] k d lt = absurd (omega (arith, lt))
in_at (x ∷ xs) zero d lt = inl refl
in_at (x ∷ xs) (suc k) d lt = inr (in_at xs k d (omega (arith, lt)))

-- whether one passes, by how many do
pub some_pass : {A : Type 0} (p : A → Bool) (xs : List A) → 0 < length (filter p xs) → list_any p xs ≡ true
some_pass p [] h = absurd (omega (arith, h))
some_pass p (x ∷ xs) h = by (p x) (some_pass p xs) h
  where
    by : (b : Bool) → (0 < length (filter p xs) → list_any p xs ≡ true) → 0 < length (cond b (x ∷ filter p xs) (filter p xs)) → (b || list_any p xs) ≡ true
    by true rest h = refl
    by false rest h = rest h

pub none_pass : {A : Type 0} (p : A → Bool) (xs : List A) → length (filter p xs) ≡ 0 → list_any p xs ≡ false
none_pass p [] h = refl
none_pass p (x ∷ xs) h = by (p x) (none_pass p xs) h
  where
    by : (b : Bool) → (length (filter p xs) ≡ 0 → list_any p xs ≡ false) → length (cond b (x ∷ filter p xs) (filter p xs)) ≡ 0 → (b || list_any p xs) ≡ false
    by true rest h = absurd (omega (arith, h))
    by false rest h = rest h

-- what is made of parts
abbrev pub made_of : ℕ → List InputFile → List FileMeta → List FileMeta → List ℕ → PickedInputs
made_of level files grandparents deeper key = record { level = level; files = files; grandparents = grandparents; deeper = deeper; pointer = record { level = level; key = key } }

-- ---- the part around a file

module _ (cmp : List ℕ → List ℕ → Ordering) (total : IsTotalOrder cmp) (v : State) (level : ℕ) where
  module _ (ranges : HaveRanges cmp v level) (first : FileMeta) (there : IsIn (level_files cmp v level) first) (s l : List ℕ) (grown : IsGrown cmp (both_files cmp v level) first s l) where
    abbrev test : FileMeta → Bool
    test f = is_overlapping cmp s l f

    first_there : IsIn (both_files cmp v level) first
    first_there = in_front (level_files cmp v level) (level_files cmp v (level + 1)) first there

    covered : (f : FileMeta) → IsIn (both_files cmp v level) f → test f ≡ true → is_covering cmp s l f ≡ true
    covered f i h = all_in (λ (g : FileMeta). is_overlapping cmp s l g ≡ true → is_covering cmp s l g ≡ true) (both_files cmp v level) grown.rests f i h

    from_start : (f : FileMeta) → is_covering cmp s l f ≡ true → is_at_most cmp s (user_of f.smallest) ≡ true
    from_start f h = and_first (is_at_most cmp s (user_of f.smallest)) (is_at_most cmp (user_of f.largest) l) h

    to_end : (f : FileMeta) → is_covering cmp s l f ≡ true → is_at_most cmp (user_of f.largest) l ≡ true
    to_end f h = and_second (is_at_most cmp s (user_of f.smallest)) (is_at_most cmp (user_of f.largest) l) h

    holds_first : test first ≡ true
    holds_first =
        let rises = all_in (λ (f : FileMeta). is_at_most cmp (user_of f.smallest) (user_of f.largest) ≡ true) (both_files cmp v level) ranges first first_there in
        and_both (is_at_most cmp s (user_of first.largest)) (is_at_most cmp (user_of first.smallest) l)
        (le_trans cmp total s (user_of first.smallest) (user_of first.largest) (from_start first grown.with_first) rises)
        (le_trans cmp total (user_of first.smallest) (user_of first.largest) l rises (to_end first grown.with_first))

    is_apart : IsApartChoice cmp v level test
    is_apart =
        all_from (λ (f : FileMeta). overlaps cmp (both_chosen cmp v level test) f ≡ true → test f ≡ true) (both_files cmp v level)
        (λ f i h.
        let r = reached cmp total (both_chosen cmp v level test) f h in
        let a = chosen_there cmp total v level test r.first r.first_in in
        let b = chosen_there cmp total v level test r.last r.last_in in
        and_both (is_at_most cmp s (user_of f.largest)) (is_at_most cmp (user_of f.smallest) l)
        (le_trans cmp total s (user_of r.first.smallest) (user_of f.largest) (from_start r.first (covered r.first a.0 a.1)) r.begins)
        (le_trans cmp total (user_of f.smallest) (user_of r.last.largest) l r.ends (to_end r.last (covered r.last b.0 b.1))))

    is_least : (other : FileMeta → Bool) → other first ≡ true → IsApartChoice cmp v level other → AllByRecursion (λ (f : FileMeta). test f ≡ true → other f ≡ true) (both_files cmp v level)
    is_least other with_first apart =
        let same = filter_both other (level_files cmp v level) (level_files cmp v (level + 1)) in
        let closed : IsOverlapClosed cmp (both_files cmp v level) other =
        subst (λ (fs : List FileMeta). AllByRecursion (λ (f : FileMeta). overlaps cmp fs f ≡ true → other f ≡ true) (both_files cmp v level)) (sym same) apart in
        let reach = grown.least other closed (reaches_own cmp total (filter other (both_files cmp v level)) first (in_filter other (both_files cmp v level) first first_there with_first)) in
        all_from (λ (f : FileMeta). test f ≡ true → other f ≡ true) (both_files cmp v level)
        (λ f i h. all_in (λ (g : FileMeta). overlaps cmp (filter other (both_files cmp v level)) g ≡ true → other g ≡ true) (both_files cmp v level) closed f i (overlaps_reaching cmp total (filter other (both_files cmp v level)) s l f reach h))

    pub around : IsPartAround cmp v level first (λ (f : FileMeta). is_overlapping cmp s l f)
    around = record { holds = holds_first; apart = is_apart; least = is_least }

    -- what its files reach is its range
    all_reached : Reaches cmp (both_chosen cmp v level test) s l
    all_reached =
        let same = filter_both test (level_files cmp v level) (level_files cmp v (level + 1)) in
        let closed : IsOverlapClosed cmp (both_files cmp v level) test =
        subst (λ (fs : List FileMeta). AllByRecursion (λ (f : FileMeta). overlaps cmp fs f ≡ true → test f ≡ true) (both_files cmp v level)) (sym same) is_apart in
        subst (λ (fs : List FileMeta). Reaches cmp fs s l) same (grown.least test closed (reaches_own cmp total (filter test (both_files cmp v level)) first (in_filter test (both_files cmp v level) first first_there holds_first)))

    span : IsSpan cmp total (both_chosen cmp v level test) s l
    span = record {
      begins = λ k. same_test (is_at_most cmp s k) (begins_by cmp (both_chosen cmp v level test) k) (begins_on cmp total (both_chosen cmp v level test) s k all_reached.begins)
          (λ h.
          let x = any_gives (λ (f : FileMeta). is_at_most cmp (user_of f.smallest) k) (both_chosen cmp v level test) h in
          let there = chosen_there cmp total v level test x.item x.inside in
          le_trans cmp total s (user_of x.item.smallest) k (from_start x.item (covered x.item there.0 there.1)) x.passes);
      ends = λ k. same_test (is_at_most cmp k l) (ends_at_or_after cmp (both_chosen cmp v level test) k) (ends_on cmp total (both_chosen cmp v level test) k l all_reached.ends)
          (λ h.
          let x = any_gives (λ (f : FileMeta). is_at_most cmp k (user_of f.largest)) (both_chosen cmp v level test) h in
          let there = chosen_there cmp total v level test x.item x.inside in
          le_trans cmp total k (user_of x.item.largest) l x.passes (to_end x.item (covered x.item there.0 there.1)));
    }

    none_of : (b : Bool) (files : List FileMeta) → filter test (cond b [] files) ≡ cond b [] (filter test files)
    none_of true files = refl
    none_of false files = refl

    -- its inputs
    pub given_part : (key : List ℕ) (files : List InputFile) (grandparents deeper : List FileMeta) → files ≡ map (input_at level) (filter test (level_files cmp v level)) ++ map (input_at (level + 1)) (filter test (level_files cmp v (level + 1)))
        → grandparents ≡ filter test (cond (nat_lt 6 (level + 2)) [] (level_files cmp v (level + 2))) → deeper ≡ files_from cmp v (level + 2) (7 - (level + 2))
        → made_of level files grandparents deeper key ≡ part_inputs cmp v level key (λ (f : FileMeta). is_overlapping cmp s l f)
    given_part key files grandparents deeper files_are grandparents_are deeper_are =
        let left : 7 - (level + 2) ≡ 5 - level = omega arith in
        ap (λ (fs : List InputFile). made_of level fs grandparents deeper key) files_are
        ∙ ap (λ (gs : List FileMeta). made_of level (map (input_at level) (filter test (level_files cmp v level)) ++ map (input_at (level + 1)) (filter test (level_files cmp v (level + 1)))) gs deeper key)
        (grandparents_are
        ∙ none_of (nat_lt 6 (level + 2)) (level_files cmp v (level + 2))
        ∙ ap (λ (gs : List FileMeta). cond (nat_lt 6 (level + 2)) [] gs) (overlapping_is cmp total (both_chosen cmp v level test) s l span (level_files cmp v (level + 2))))
        ∙ ap (λ (ds : List FileMeta). made_of level (map (input_at level) (filter test (level_files cmp v level)) ++ map (input_at (level + 1)) (filter test (level_files cmp v (level + 1)))) (grandparents_of cmp v level (both_chosen cmp v level test)) ds key) (deeper_are ∙ ap (files_from cmp v (level + 2)) left)

  -- ---- the parts of the ranges that the files fill together

  abbrev pub tests_of : List UserRange → List (FileMeta → Bool)
  tests_of ranges = map (λ (r : UserRange) (f : FileMeta). is_overlapping cmp r.smallest.now r.largest.now f) ranges

  -- whether a range overlaps one of the files
  abbrev pub has_file : List FileMeta → UserRange → Bool
  has_file files r = list_any (λ (f : FileMeta). is_overlapping cmp r.smallest.now r.largest.now f) files

  -- the parts of the ranges that overlap one of the files
  abbrev pub parts_of_ranges : List ℕ → List FileMeta → List UserRange → List PickedInputs
  parts_of_ranges key files rs = map (part_inputs cmp v level key) (tests_of (filter (has_file files) rs))

  pub with_part : (key : List ℕ) (files : List FileMeta) (r : UserRange) (rest : List UserRange) (so_far new whole : List PickedInputs) (p : PickedInputs) → has_file files r ≡ true → new ≡ so_far ++ p ∷ [] → p ≡ part_inputs cmp v level key (λ (f : FileMeta). is_overlapping cmp r.smallest.now r.largest.now f)
      → so_far ++ parts_of_ranges key files (r ∷ rest) ≡ whole → new ++ parts_of_ranges key files rest ≡ whole
  with_part key files r rest so_far new whole p has new_is p_is h =
      ap (λ (ps : List PickedInputs). ps ++ parts_of_ranges key files rest) new_is
      ∙ append_assoc so_far (p ∷ []) (parts_of_ranges key files rest)
      ∙ ap (λ (q : PickedInputs). so_far ++ (q ∷ parts_of_ranges key files rest)) p_is
      ∙ ap (λ (rs : List UserRange). so_far ++ map (part_inputs cmp v level key) (tests_of rs)) (sym (cond_true (has_file files r) (r ∷ filter (has_file files) rest) (filter (has_file files) rest) has))
      ∙ h

  pub with_none : (key : List ℕ) (files : List FileMeta) (r : UserRange) (rest : List UserRange) (so_far whole : List PickedInputs) → has_file files r ≡ false → so_far ++ parts_of_ranges key files (r ∷ rest) ≡ whole → so_far ++ parts_of_ranges key files rest ≡ whole
  with_none key files r rest so_far whole has h =
      ap (λ (rs : List UserRange). so_far ++ map (part_inputs cmp v level key) (tests_of rs)) (sym (cond_false (has_file files r) (r ∷ filter (has_file files) rest) (filter (has_file files) rest) has)) ∙ h

  -- whether a file is in one of the ranges
  abbrev is_held : List UserRange → FileMeta → Bool
  is_held ranges f = list_any (λ (r : UserRange). is_overlapping cmp r.smallest.now r.largest.now f) ranges

  module _ (ranges : HaveRanges cmp v level) where
    -- ranges ahead of files of the level: each file is in one of these, or else in a part before them
    record AreAhead (before ahead : List UserRange) (files : List FileMeta) : Type 0 where
      inside : (f : FileMeta) → IsIn files f → IsIn (level_files cmp v level) f
      order : AreByStart cmp files
      rising : AreRising cmp ahead
      grown : (r : UserRange) → IsIn ahead r → (f : FileMeta) → IsIn (level_files cmp v level) f → is_overlapping cmp r.smallest.now r.largest.now f ≡ true → IsGrown cmp (both_files cmp v level) f r.smallest.now r.largest.now
      one : (f : FileMeta) → IsIn files f → is_in_part (tests_of before) f ≡ not (is_held ahead f)

    past_file : (before ahead : List UserRange) (f : FileMeta) (files : List FileMeta) → AreAhead before ahead (f ∷ files) → AreAhead before ahead files
    past_file before ahead f files h = record { inside = λ g i. h.inside g (inr i); order = h.order.1; rising = h.rising; grown = h.grown; one = λ g i. h.one g (inr i) }

    past_range : (before : List UserRange) (r : UserRange) (ahead : List UserRange) (files : List FileMeta) → AreAhead before (r ∷ ahead) files → ((f : FileMeta) → IsIn files f → is_overlapping cmp r.smallest.now r.largest.now f ≡ false) → AreAhead before ahead files
    past_range before r ahead files h none = record {
      inside = h.inside;
      order = h.order;
      rising = h.rising.2;
      grown = λ q i. h.grown q (inr i);
      one = λ f i. h.one f i ∙ ap (λ (b : Bool). not (b || is_held ahead f)) (none f i);
    }

    begins_in : (r : UserRange) (f : FileMeta) → IsGrown cmp (both_files cmp v level) f r.smallest.now r.largest.now → is_at_most cmp r.smallest.now (user_of f.smallest) ≡ true
    begins_in r f g = and_first (is_at_most cmp r.smallest.now (user_of f.smallest)) (is_at_most cmp (user_of f.largest) r.largest.now) g.with_first

    ends_in : (r : UserRange) (f : FileMeta) → IsGrown cmp (both_files cmp v level) f r.smallest.now r.largest.now → is_at_most cmp (user_of f.largest) r.largest.now ≡ true
    ends_in r f g = and_second (is_at_most cmp r.smallest.now (user_of f.smallest)) (is_at_most cmp (user_of f.largest) r.largest.now) g.with_first

    -- a file in a range is in none after it
    in_one : (before : List UserRange) (r : UserRange) (ahead : List UserRange) (files : List FileMeta) → AreAhead before (r ∷ ahead) files → (f : FileMeta) → IsIn (level_files cmp v level) f → is_overlapping cmp r.smallest.now r.largest.now f ≡ true → (q : UserRange) → IsIn ahead q → is_overlapping cmp q.smallest.now q.largest.now f ≡ false
    in_one before r ahead files h f i is q j =
        refuted (is_overlapping cmp q.smallest.now q.largest.now f)
        (λ k. false_true (is_at_most cmp q.smallest.now r.largest.now)
        (le_trans cmp total q.smallest.now (user_of f.largest) r.largest.now (and_first (is_at_most cmp q.smallest.now (user_of f.largest)) (is_at_most cmp (user_of f.smallest) q.largest.now) k) (ends_in r f (h.grown r (inl refl) f i is)))
        (all_in (λ (x : UserRange). is_at_most cmp x.smallest.now r.largest.now ≡ false) ahead h.rising.1 q j))

    not_held : (ahead : List UserRange) (f : FileMeta) → ((q : UserRange) → IsIn ahead q → is_overlapping cmp q.smallest.now q.largest.now f ≡ false) → is_held ahead f ≡ false
    not_held ahead f none = none_any (λ (r : UserRange). is_overlapping cmp r.smallest.now r.largest.now f) ahead none

    -- the files of a range are in its part
    past_part : (before : List UserRange) (r : UserRange) (ahead : List UserRange) (f : FileMeta) (files : List FileMeta) → AreAhead before (r ∷ ahead) (f ∷ files) → AreAhead (before ++ r ∷ []) ahead files
    past_part before r ahead f files h = record {
      inside = λ g i. h.inside g (inr i);
      order = h.order.1;
      rising = h.rising.2;
      grown = λ q i. h.grown q (inr i);
      one = λ g i. in_parts g ∙ by g (inr i) (is_overlapping cmp r.smallest.now r.largest.now g) refl;
    }
      where
        in_parts : (g : FileMeta) → is_in_part (tests_of (before ++ r ∷ [])) g ≡ (is_in_part (tests_of before) g || (is_overlapping cmp r.smallest.now r.largest.now g || false))
        in_parts g =
            ap (λ (ts : List (FileMeta → Bool)). is_in_part ts g) (map-append {B = FileMeta → Bool} (λ (x : UserRange) (q : FileMeta). is_overlapping cmp x.smallest.now x.largest.now q) before (r ∷ []))
            ∙ list_any-append (λ (test : FileMeta → Bool). test g) (tests_of before) ((λ (q : FileMeta). is_overlapping cmp r.smallest.now r.largest.now q) ∷ [])

        or_is : (a : Bool) → (a || true) ≡ true
        or_is true = refl
        or_is false = refl

        or_not : (a : Bool) → (a || false) ≡ a
        or_not true = refl
        or_not false = refl

        by : (g : FileMeta) → IsIn (f ∷ files) g → (b : Bool) → is_overlapping cmp r.smallest.now r.largest.now g ≡ b → (is_in_part (tests_of before) g || (b || false)) ≡ not (is_held ahead g)
        by g i true e = or_is (is_in_part (tests_of before) g) ∙ sym (ap not (not_held ahead g (in_one before r ahead (f ∷ files) h g (h.inside g i) e)))
        by g i false e = or_not (is_in_part (tests_of before) g) ∙ h.one g i ∙ ap (λ (b : Bool). not (b || is_held ahead g)) e

    -- if the first file is neither in a part nor in the next range, none is in that
    none_there : (before : List UserRange) (r : UserRange) (ahead : List UserRange) (f : FileMeta) (files : List FileMeta) → AreAhead before (r ∷ ahead) (f ∷ files) → is_in_part (tests_of before) f ≡ false → is_overlapping cmp r.smallest.now r.largest.now f ≡ false → (g : FileMeta) → IsIn (f ∷ files) g → is_overlapping cmp r.smallest.now r.largest.now g ≡ false
    none_there before r ahead f files h out not_in g i =
        refuted (is_overlapping cmp r.smallest.now r.largest.now g)
        (λ k. false_true (is_at_most cmp x.item.smallest.now r.largest.now)
        (le_trans cmp total x.item.smallest.now (user_of f.smallest) r.largest.now (begins_in x.item f (h.grown x.item (inr x.inside) f (h.inside f (inl refl)) x.passes))
        (le_trans cmp total (user_of f.smallest) (user_of g.smallest) r.largest.now (first_begins cmp total f files h.order g i) (and_second (is_at_most cmp r.smallest.now (user_of g.largest)) (is_at_most cmp (user_of g.smallest) r.largest.now) k)))
        (all_in (λ (q : UserRange). is_at_most cmp q.smallest.now r.largest.now ≡ false) ahead h.rising.1 x.item x.inside))
      where
        held : (a b c : Bool) → a ≡ not (b || c) → a ≡ false → b ≡ false → c ≡ true
        held a true c e f k = false_true true refl k
        held a false true e f k = refl
        held a false false e f k = false_true a e f

        x : Passing (λ (q : UserRange). is_overlapping cmp q.smallest.now q.largest.now f) ahead
        x = any_gives (λ (q : UserRange). is_overlapping cmp q.smallest.now q.largest.now f) ahead (held (is_in_part (tests_of before) f) (is_overlapping cmp r.smallest.now r.largest.now f) (is_held ahead f) (h.one f (inl refl)) out not_in)

    past_taken : (before : List UserRange) (f : FileMeta) (files : List FileMeta) (parts : List (FileMeta → Bool)) → is_in_part (tests_of before) f ≡ true → ArePartsFrom cmp v level (tests_of before) files parts → ArePartsFrom cmp v level (tests_of before) (f ∷ files) parts
    past_taken before f files [] is h = (is, h)
    past_taken before f files (p ∷ ps) is h = inl (is, h)

    -- without a range ahead all files are in parts
    all_taken : (before : List UserRange) (files : List FileMeta) → AreAhead before [] files → ArePartsFrom cmp v level (tests_of before) files []
    all_taken before [] h = refl
    all_taken before (f ∷ files) h = (h.one f (inl refl), all_taken before files (past_file before [] f files h))

    with_range : (before : List UserRange) (r : UserRange) (ahead : List UserRange) → ((so_far : List UserRange) (files : List FileMeta) → AreAhead so_far ahead files → ArePartsFrom cmp v level (tests_of so_far) files (tests_of (filter (has_file files) ahead)))
        → (files : List FileMeta) → AreAhead before (r ∷ ahead) files → ArePartsFrom cmp v level (tests_of before) files (tests_of (filter (has_file files) (r ∷ ahead)))
    with_range before r ahead rest [] h = ap tests_of (filter_nothing (has_file []) (r ∷ ahead) (λ q i. refl))
    with_range before r ahead rest (f ∷ files) h =
        by (with_range before r ahead rest files (past_file before (r ∷ ahead) f files h)) (is_in_part (tests_of before) f) refl (is_overlapping cmp r.smallest.now r.largest.now f) refl
      where
        from_tests : (some all : List UserRange) → all ≡ some → ArePartsFrom cmp v level (tests_of before) (f ∷ files) (tests_of some) → ArePartsFrom cmp v level (tests_of before) (f ∷ files) (tests_of all)
        from_tests some all same = subst (λ (rs : List UserRange). ArePartsFrom cmp v level (tests_of before) (f ∷ files) (tests_of rs)) (sym same)

        -- ranges that the first file isn't in
        fewer : (some : List UserRange) → ((q : UserRange) → IsIn some q → is_overlapping cmp q.smallest.now q.largest.now f ≡ false) → filter (has_file (f ∷ files)) some ≡ filter (has_file files) some
        fewer some none = filter_same (has_file (f ∷ files)) (has_file files) some (λ q i. ap (λ (b : Bool). b || has_file files q) (none q i))

        not_true : (a : Bool) → true ≡ not a → a ≡ false
        not_true true e = absurd cc
        not_true false e = refl

        out_of : is_in_part (tests_of before) f ≡ true → (q : UserRange) → IsIn (r ∷ ahead) q → is_overlapping cmp q.smallest.now q.largest.now f ≡ false
        out_of is q i =
            refuted (is_overlapping cmp q.smallest.now q.largest.now f)
            (λ k. false_true (is_held (r ∷ ahead) f) (any_from (λ (x : UserRange). is_overlapping cmp x.smallest.now x.largest.now f) (r ∷ ahead) q i k) (not_true (is_held (r ∷ ahead) f) (sym is ∙ h.one f (inl refl))))

        by : ArePartsFrom cmp v level (tests_of before) files (tests_of (filter (has_file files) (r ∷ ahead))) → (a : Bool) → is_in_part (tests_of before) f ≡ a → (b : Bool) → is_overlapping cmp r.smallest.now r.largest.now f ≡ b → ArePartsFrom cmp v level (tests_of before) (f ∷ files) (tests_of (filter (has_file (f ∷ files)) (r ∷ ahead)))
        by after true is b e =
            from_tests (filter (has_file files) (r ∷ ahead)) (filter (has_file (f ∷ files)) (r ∷ ahead)) (fewer (r ∷ ahead) (out_of is))
            (past_taken before f files (tests_of (filter (has_file files) (r ∷ ahead))) is after)
        by after false out true e =
            from_tests (r ∷ filter (has_file files) ahead) (filter (has_file (f ∷ files)) (r ∷ ahead))
            (cond_true (has_file (f ∷ files) r) (r ∷ filter (has_file (f ∷ files)) ahead) (filter (has_file (f ∷ files)) ahead) (or_left (is_overlapping cmp r.smallest.now r.largest.now f) (has_file files r) e)
            ∙ ap (λ (rs : List UserRange). r ∷ rs) (fewer ahead (in_one before r ahead (f ∷ files) h f there e)))
            (inr (out, around ranges f there r.smallest.now r.largest.now (h.grown r (inl refl) f there e), subst (λ (ts : List (FileMeta → Bool)). ArePartsFrom cmp v level ts files (tests_of (filter (has_file files) ahead))) tests (rest (before ++ r ∷ []) files (past_part before r ahead f files h))))
          where
            there : IsIn (level_files cmp v level) f
            there = h.inside f (inl refl)

            tests : tests_of (before ++ r ∷ []) ≡ tests_of before ++ (λ (q : FileMeta). is_overlapping cmp r.smallest.now r.largest.now q) ∷ []
            tests = map-append {B = FileMeta → Bool} (λ (x : UserRange) (q : FileMeta). is_overlapping cmp x.smallest.now x.largest.now q) before (r ∷ [])
        by after false out false e =
            let none = none_there before r ahead f files h out e in
            from_tests (filter (has_file (f ∷ files)) ahead) (filter (has_file (f ∷ files)) (r ∷ ahead))
            (cond_false (has_file (f ∷ files) r) (r ∷ filter (has_file (f ∷ files)) ahead) (filter (has_file (f ∷ files)) ahead) (none_any (λ (q : FileMeta). is_overlapping cmp r.smallest.now r.largest.now q) (f ∷ files) none))
            (rest before (f ∷ files) (past_range before r ahead (f ∷ files) h none))

    parts_from : (ahead before : List UserRange) (files : List FileMeta) → AreAhead before ahead files → ArePartsFrom cmp v level (tests_of before) files (tests_of (filter (has_file files) ahead))
    parts_from [] before files h = all_taken before files h
    parts_from (r ∷ ahead) before files h = with_range before r ahead (parts_from ahead) files h

    grown_in : (rs : List UserRange) → AreFileRanges cmp (both_files cmp v level) rs → (r : UserRange) → IsIn rs r → (f : FileMeta) → IsIn (level_files cmp v level) f → is_overlapping cmp r.smallest.now r.largest.now f ≡ true → IsGrown cmp (both_files cmp v level) f r.smallest.now r.largest.now
    grown_in rs filled r i f j =
        all_in (λ (q : FileMeta). is_overlapping cmp r.smallest.now r.largest.now q ≡ true → IsGrown cmp (both_files cmp v level) q r.smallest.now r.largest.now) (both_files cmp v level)
        (all_in (λ (x : UserRange). AllByRecursion (λ (q : FileMeta). is_overlapping cmp x.smallest.now x.largest.now q ≡ true → IsGrown cmp (both_files cmp v level) q x.smallest.now x.largest.now) (both_files cmp v level)) rs filled.grown r i)
        f (in_front (level_files cmp v level) (level_files cmp v (level + 1)) f j)

    -- the part of a range that overlaps a file of the level
    pub range_part : (key : List ℕ) (rs : List UserRange) → AreFileRanges cmp (both_files cmp v level) rs → (r : UserRange) → IsIn rs r → has_file (level_files cmp v level) r ≡ true → (files : List InputFile) (grandparents deeper : List FileMeta)
        → files ≡ map (input_at level) (filter (λ (f : FileMeta). is_overlapping cmp r.smallest.now r.largest.now f) (level_files cmp v level)) ++ map (input_at (level + 1)) (filter (λ (f : FileMeta). is_overlapping cmp r.smallest.now r.largest.now f) (level_files cmp v (level + 1)))
        → grandparents ≡ filter (λ (f : FileMeta). is_overlapping cmp r.smallest.now r.largest.now f) (cond (nat_lt 6 (level + 2)) [] (level_files cmp v (level + 2))) → deeper ≡ files_from cmp v (level + 2) (7 - (level + 2))
        → made_of level files grandparents deeper key ≡ part_inputs cmp v level key (λ (f : FileMeta). is_overlapping cmp r.smallest.now r.largest.now f)
    range_part key rs filled r i has files grandparents deeper =
        let x = any_gives (λ (f : FileMeta). is_overlapping cmp r.smallest.now r.largest.now f) (level_files cmp v level) has in
        given_part ranges x.item x.inside r.smallest.now r.largest.now (grown_in rs filled r i x.item x.inside x.passes) key files grandparents deeper

    -- the parts of all ranges that overlap a file of the level
    pub made_all : (key : List ℕ) (rs : List UserRange) (parts : List PickedInputs) → AreByStart cmp (level_files cmp v level) → AreFileRanges cmp (both_files cmp v level) rs
        → parts ≡ parts_of_ranges key (level_files cmp v level) rs → AreParts cmp v level key parts
    made_all key rs parts order filled are = record {
      parts = tests_of (filter (has_file (level_files cmp v level)) rs);
      are_parts = parts_from rs [] (level_files cmp v level) (record {
        inside = λ f i. i;
        order = order;
        rising = filled.rising;
        grown = grown_in rs filled;
        one = λ f i. sym (ap not (all_in (λ (q : FileMeta). is_held rs q ≡ true) (both_files cmp v level) filled.all f (in_front (level_files cmp v level) (level_files cmp v (level + 1)) f i)));
      });
      these = are;
    }
