-- The inputs of a level are what the pass over its files gives.
use Rattle.std.proofs.Common.{◌≡◌, ℕ, zero, suc, ◌<◌, nat_lt, Bool, true, false, cond, eqb, ◌||◌, List, [], ◌∷◌, length, Option, Some, None, Result, Ok, Err, inl, inr, refl, sym, ap, subst, ◌∙◌, arith}
use Rattle.std.specs.Prelude.{MatchBool, IsOkAnd}
use Rattle.std.specs.List.{filter, find, slice_get, IsDistinct}
use Rattle.std.specs.Option.{option_or}
use Rattle.std.specs.Cmp.{IsTotalOrder}
use Rattle.std.specs.Ordering.{is_lt}
use Rattle.std.specs.declared.cmp.Ordering.{Ordering}
use Rattle.edit.specs.Answers.{EqualOrMemory, HoldsOrMemory}
use Rattle.edit.specs.fault.Fault.{Fault}
use Rattle.edit.proofs.Refusals.{unless_from}
use Rattle.std.proofs.lemmas.Bool.Decides.{nat_tests}
use Rattle.edit.specs.Key.{user_of}
use Rattle.edit.specs.Order.{internal_cmp}
use Rattle.edit.specs.Version.{State, are_apart, pointer_of}
use Rattle.edit.specs.VersionOrder.{level_files}
use Rattle.edit.specs.declared.meta.FileMeta.{FileMeta}
use Rattle.edit.proofs.Tested.{eqb-sym}
use Rattle.edit.proofs.SortedFiles.{same_number}
use Rattle.pick.specs.Ranges.{is_at_most, begins_by, ends_at_or_after, overlaps}
use Rattle.pick.specs.ChosenFiles.{first_file, IsLeastClosed, AreChosen}
use Rattle.pick.specs.Spans.{is_overlapping, is_covering}
use Rattle.pick.specs.Boundaries.{with_largest, largest_key, goes_on, AreWithBoundaries}
use Rattle.pick.specs.Choices.{IsGrown, boundary_pass, IsUpperAnswer}
use Rattle.pick.specs.PickedInputs.{AreUpper}
use Rattle.pick.proofs.Lists.{IsIn, all_in, all_from, any_gives, filter_in, in_filter, filter_nothing, find_some, or_left, or_right, or_either, and_both, and_first, and_second, cond_true, cond_false, one_alone}
use Rattle.pick.proofs.UserOrders.{le_trans}
use Rattle.pick.proofs.Grown.{overlaps_reaching, reaches_own}
use Rattle.pick.proofs.FileSpans.{head_in}
use Rattle.pick.proofs.VersionFiles.{AreLevelFiles, are_level_files}
use Rattle.pick.proofs.Chains.{pass_is}

abbrev oks : List FileMeta → Result (List FileMeta) Fault
oks files = Ok files

-- ---- the first file

or_head : (o : Option FileMeta) (files : List FileMeta) (first : FileMeta) → (o ≡ Some first → IsIn files first) → option_or o (slice_get files 0) ≡ Some first → IsIn files first
or_head None files first h e = head_in files first e
or_head (Some f) files first h e = h e

pub first_in : (cmp : List ℕ → List ℕ → Ordering) (o : Option (List ℕ)) (files : List FileMeta) (first : FileMeta) → first_file cmp o files ≡ Some first → IsIn files first
first_in cmp None files first e = head_in files first e
first_in cmp (Some pointer) files first e =
    or_head (find (λ (f : FileMeta). is_lt (internal_cmp cmp pointer f.largest)) files) files first (λ found. (find_some (λ (f : FileMeta). is_lt (internal_cmp cmp pointer f.largest)) files first found).0) e

no_head : {A : Type 0} (xs : List A) → slice_get xs 0 ≡ None → length xs ≡ 0
no_head [] e = refl
no_head (x ∷ xs) e = absurd cc

or_none : (o p : Option FileMeta) → option_or o p ≡ None → p ≡ None
or_none None p e = e
or_none (Some f) p e = absurd cc

pub no_first : (cmp : List ℕ → List ℕ → Ordering) (o : Option (List ℕ)) (files : List FileMeta) → first_file cmp o files ≡ None → length files ≡ 0
no_first cmp None files e = no_head files e
no_first cmp (Some pointer) files e = no_head files (or_none (find (λ (f : FileMeta). is_lt (internal_cmp cmp pointer f.largest)) files) (slice_get files 0) e)

pub some_in : {A : Type 0} (xs : List A) (q : A) → IsIn xs q → 0 < length xs
some_in [] q i = absurd i
some_in (x ∷ xs) q i = omega arith

-- ---- what is chosen first

eqb_itself : (n : ℕ) → eqb n n ≡ true
eqb_itself n = grind arith

-- the files of the number of one of them are that one
one_number : (files : List FileMeta) (first : FileMeta) → IsDistinct same_number files → IsIn files first → filter (λ (f : FileMeta). eqb f.number first.number) files ≡ first ∷ []
unfolding IsDistinct
one_number [] first differ i = absurd i
one_number (f ∷ files) first differ (inl e) =
    cond_true (eqb f.number first.number) (f ∷ filter (λ (g : FileMeta). eqb g.number first.number) files) (filter (λ (g : FileMeta). eqb g.number first.number) files) (ap (λ (g : FileMeta). eqb f.number g.number) e ∙ eqb_itself f.number)
    ∙ ap (λ (l : List FileMeta). f ∷ l) (filter_nothing (λ (g : FileMeta). eqb g.number first.number) files (λ q j. ap (λ (g : FileMeta). eqb q.number g.number) e ∙ eqb-sym q.number f.number ∙ all_in (λ (g : FileMeta). same_number f g ≡ false) files differ.0 q j))
    ∙ ap (λ (g : FileMeta). g ∷ []) (sym e)
one_number (f ∷ files) first differ (inr i) =
    cond_false (eqb f.number first.number) (f ∷ filter (λ (g : FileMeta). eqb g.number first.number) files) (filter (λ (g : FileMeta). eqb g.number first.number) files) (all_in (λ (g : FileMeta). same_number f g ≡ false) files differ.0 first i)
    ∙ one_number files first differ.1 i

module _ (cmp : List ℕ → List ℕ → Ordering) (total : IsTotalOrder cmp) where
  abbrev is_around : FileMeta → List ℕ → List ℕ → FileMeta → Bool
  is_around first s l f = eqb f.number first.number || is_overlapping cmp s l f

  -- each file around the first one lies in the grown range
  covered : (files : List FileMeta) (first : FileMeta) (s l : List ℕ) → IsDistinct same_number files → IsIn files first → IsGrown cmp files first s l → (f : FileMeta) → IsIn files f → is_around first s l f ≡ true → is_covering cmp s l f ≡ true
  covered files first s l differ i grown f j h =
      elim (or_either (eqb f.number first.number) (is_overlapping cmp s l f) h) [
        | inl e ↦ ap (is_covering cmp s l) (one_alone same_number (λ x y. eqb-sym x.number y.number) files differ f first j i e) ∙ grown.with_first
        | inr e ↦ all_in (λ (q : FileMeta). is_overlapping cmp s l q ≡ true → is_covering cmp s l q ≡ true) files grown.rests f j e
      ]

  -- what overlaps the files around the first one overlaps the grown range
  overlaps_grown : (files : List FileMeta) (first : FileMeta) (s l : List ℕ) → IsDistinct same_number files → IsIn files first → IsGrown cmp files first s l → (f : FileMeta) → overlaps cmp (filter (is_around first s l) files) f ≡ true → is_overlapping cmp s l f ≡ true
  overlaps_grown files first s l differ i grown f h =
      let chosen = filter (is_around first s l) files in
      let x = any_gives (λ (g : FileMeta). is_at_most cmp (user_of g.smallest) (user_of f.largest)) chosen (and_first (begins_by cmp chosen (user_of f.largest)) (ends_at_or_after cmp chosen (user_of f.smallest)) h) in
      let y = any_gives (λ (g : FileMeta). is_at_most cmp (user_of f.smallest) (user_of g.largest)) chosen (and_second (begins_by cmp chosen (user_of f.largest)) (ends_at_or_after cmp chosen (user_of f.smallest)) h) in
      let x_in = filter_in (is_around first s l) files x.item x.inside in
      let y_in = filter_in (is_around first s l) files y.item y.inside in
      let x_lies = covered files first s l differ i grown x.item x_in.0 x_in.1 in
      let y_lies = covered files first s l differ i grown y.item y_in.0 y_in.1 in
      and_both (is_at_most cmp s (user_of f.largest)) (is_at_most cmp (user_of f.smallest) l)
      (le_trans cmp total s (user_of x.item.smallest) (user_of f.largest) (and_first (is_at_most cmp s (user_of x.item.smallest)) (is_at_most cmp (user_of x.item.largest) l) x_lies) x.passes)
      (le_trans cmp total (user_of f.smallest) (user_of y.item.largest) l y.passes (and_second (is_at_most cmp s (user_of y.item.smallest)) (is_at_most cmp (user_of y.item.largest) l) y_lies))

  -- the files around the first one are the least closed set that holds it
  pub least_closed : (files : List FileMeta) (first : FileMeta) (s l : List ℕ) → IsDistinct same_number files → IsIn files first → IsGrown cmp files first s l → IsLeastClosed cmp files first (filter (λ (f : FileMeta). eqb f.number first.number || is_overlapping cmp s l f) files)
  least_closed files first s l differ i grown = record {
    test = is_around first s l;
    passed = refl;
    holds_first = or_left (eqb first.number first.number) (is_overlapping cmp s l first) (eqb_itself first.number);
    closed = all_from (λ (f : FileMeta). overlaps cmp (filter (is_around first s l) files) f ≡ true → is_around first s l f ≡ true) files
        (λ f j h. or_right (eqb f.number first.number) (is_overlapping cmp s l f) (overlaps_grown files first s l differ i grown f h));
    least = λ other with_first closed.
        all_from (λ (f : FileMeta). is_around first s l f ≡ true → other f ≡ true) files
        (λ f j h.
        elim (or_either (eqb f.number first.number) (is_overlapping cmp s l f) h) [
          | inl e ↦ ap other (one_alone same_number (λ x y. eqb-sym x.number y.number) files differ f first j i e) ∙ with_first
          | inr e ↦ all_in (λ (q : FileMeta). overlaps cmp (filter other files) q ≡ true → other q ≡ true) files closed f j
              (overlaps_reaching cmp total (filter other files) s l f (grown.least other closed (reaches_own cmp total (filter other files) first (in_filter other files first i with_first))) e)
        ]);
  }

  -- ---- the answer

  in_passed : (f q : FileMeta) (xs ys : List FileMeta) → IsIn xs q → IsIn ys q → (b c : Bool) → IsIn (cond b (f ∷ xs) (cond c (f ∷ ys) xs)) q
  in_passed f q xs ys i j true c = inr i
  in_passed f q xs ys i j false true = inr j
  in_passed f q xs ys i j false false = i

  -- a file that passes the test is one of those that the pass gives
  in_joined : (p : FileMeta → Bool) (key : Option (List ℕ)) (files : List FileMeta) (q : FileMeta) → IsIn files q → p q ≡ true → IsIn (boundary_pass cmp p key files) q
  in_joined p key [] q i h = absurd i
  in_joined p key (f ∷ files) q (inl e) h =
      subst (λ (l : List FileMeta). IsIn l q) (sym (cond_true (p f) (f ∷ boundary_pass cmp p key files) (cond (goes_on cmp key f) (f ∷ boundary_pass cmp p (with_largest cmp key f) files) (boundary_pass cmp p key files)) (ap p (sym e) ∙ h))) (inl e)
  in_joined p key (f ∷ files) q (inr i) h =
      in_passed f q (boundary_pass cmp p key files) (boundary_pass cmp p (with_largest cmp key f) files) (in_joined p key files q i h) (in_joined p (with_largest cmp key f) files q i h) (p f) (goes_on cmp key f)

  -- a call that gives what the fact holds of answers it
  pub answers_from : {X Y : Type 0} (view : X → Y) (r : Result X Fault) (y : Y) (P : Y → Type 0) → EqualOrMemory view r (Ok y) → P y → HoldsOrMemory view r (λ answer. IsOkAnd answer P)
  answers_from view (Ok x) y P e h = subst P (let same : y ≡ view x = cc in same) h
  answers_from {X} {Y} view (Err f) y P e h = unless_from f (Ok y ≡ Err f) ⊥ (λ same. absurd cc) e

  chosen_at : (level : ℕ) (files : List FileMeta) (first : FileMeta) (chosen : List FileMeta) → (level ≡ 0 → ⊥) → chosen ≡ first ∷ [] → AreChosen cmp level files first chosen
  chosen_at zero files first chosen some e = absurd (some refl)
  chosen_at (suc n) files first chosen some e = e

  with_files : (b : Bool) → b ≡ true → (P Q : Type 0) → P → MatchBool b P Q
  with_files true e P Q h = h
  with_files false e P Q h = absurd cc

  without_files : (b : Bool) → b ≡ false → (P Q : Type 0) → Q → MatchBool b P Q
  without_files true e P Q h = absurd cc
  without_files false e P Q h = h

  some_test : (n : ℕ) → 0 < n → nat_lt 0 n ≡ true
  some_test n h = grind (arith, nat_tests)

  no_test : (n : ℕ) → n ≡ 0 → nat_lt 0 n ≡ false
  no_test n h = grind (arith, nat_tests)

  module _ (v : State) (level : ℕ) (apart : are_apart v.files ≡ true) where
    abbrev of_level : AreLevelFiles cmp (level_files cmp v level)
    of_level = are_level_files total v level apart

    -- the inputs of the level below
    pub lower_is : {X : Type 0} (view : X → List FileMeta) (r : Result X Fault) (p : FileMeta → Bool) (files : List FileMeta) → files ≡ level_files cmp v level → EqualOrMemory view r (Ok (boundary_pass cmp p (largest_key cmp (filter p files)) files))
        → HoldsOrMemory view r (λ answer. IsOkAnd answer (AreWithBoundaries cmp (level_files cmp v level) (filter p (level_files cmp v level))))
    lower_is view r p files same gives =
        answers_from view r (boundary_pass cmp p (largest_key cmp (filter p (level_files cmp v level))) (level_files cmp v level)) (AreWithBoundaries cmp (level_files cmp v level) (filter p (level_files cmp v level)))
        (subst (λ (fs : List FileMeta). EqualOrMemory view r (Ok (boundary_pass cmp p (largest_key cmp (filter p fs)) fs))) same gives) (pass_is cmp total p (level_files cmp v level) of_level)

    upper_from : {X : Type 0} (view : X → List FileMeta) (r : Result X Fault) → 0 < length (level_files cmp v level) → HoldsOrMemory view r (λ answer. IsOkAnd answer (λ upper. AreUpper cmp v level upper × (0 < length upper))) → HoldsOrMemory view r (IsUpperAnswer cmp v level)
    upper_from view (Ok x) some h = with_files (nat_lt 0 (length (level_files cmp v level))) (some_test (length (level_files cmp v level)) some) (AreUpper cmp v level (view x) × (0 < length (view x))) (Ok (view x) ≡ Ok []) h
    upper_from view (Err e) some h = unless_from e ⊥ (IsUpperAnswer cmp v level (Err e)) (λ none. absurd none) h

    -- the inputs of the level itself
    upper_is : {X : Type 0} (view : X → List FileMeta) (r : Result X Fault) (p : FileMeta → Bool) (files : List FileMeta) (first : FileMeta) → files ≡ level_files cmp v level → first_file cmp (pointer_of v level) (level_files cmp v level) ≡ Some first
        → AreChosen cmp level (level_files cmp v level) first (filter p (level_files cmp v level)) → p first ≡ true → EqualOrMemory view r (Ok (boundary_pass cmp p (largest_key cmp (filter p files)) files)) → HoldsOrMemory view r (IsUpperAnswer cmp v level)
    upper_is view r p files first same is_first chosen holds gives =
        let all = level_files cmp v level in
        let i = first_in cmp (pointer_of v level) all first is_first in
        let upper = boundary_pass cmp p (largest_key cmp (filter p all)) all in
        upper_from view r (some_in all first i)
        (answers_from view r upper (λ upper. AreUpper cmp v level upper × (0 < length upper)) (subst (λ (fs : List FileMeta). EqualOrMemory view r (Ok (boundary_pass cmp p (largest_key cmp (filter p fs)) fs))) same gives)
        (record { first = first; is_first = is_first; chosen = filter p all; are_chosen = chosen; with_boundaries = pass_is cmp total p all of_level }, some_in upper first (in_joined p (largest_key cmp (filter p all)) all first i holds)))

    -- the first file alone
    pub upper_one : {X : Type 0} (view : X → List FileMeta) (r : Result X Fault) (files : List FileMeta) (first : FileMeta) → files ≡ level_files cmp v level → first_file cmp (pointer_of v level) files ≡ Some first → (level ≡ 0 → ⊥)
        → EqualOrMemory view r (Ok (boundary_pass cmp (λ (f : FileMeta). eqb f.number first.number) (largest_key cmp (filter (λ (f : FileMeta). eqb f.number first.number) files)) files)) → HoldsOrMemory view r (IsUpperAnswer cmp v level)
    upper_one view r files first same is_first some gives =
        let first_is = subst (λ (fs : List FileMeta). first_file cmp (pointer_of v level) fs ≡ Some first) same is_first in
        let i = first_in cmp (pointer_of v level) (level_files cmp v level) first first_is in
        upper_is view r (λ (f : FileMeta). eqb f.number first.number) files first same first_is
        (chosen_at level (level_files cmp v level) first (filter (λ (f : FileMeta). eqb f.number first.number) (level_files cmp v level)) some (one_number (level_files cmp v level) first of_level.differ i)) (eqb_itself first.number) gives

    -- at level 0, the first file and those around it
    pub upper_around : {X : Type 0} (view : X → List FileMeta) (r : Result X Fault) (files : List FileMeta) (first : FileMeta) (s l : List ℕ) → files ≡ level_files cmp v level → first_file cmp (pointer_of v level) files ≡ Some first → level ≡ 0
        → IsGrown cmp files first s l → EqualOrMemory view r (Ok (boundary_pass cmp (is_around first s l) (largest_key cmp (filter (is_around first s l) files)) files)) → HoldsOrMemory view r (IsUpperAnswer cmp v level)
    upper_around view r files first s l same is_first zeroth grown gives =
        let first_is = subst (λ (fs : List FileMeta). first_file cmp (pointer_of v level) fs ≡ Some first) same is_first in
        let all_grown = subst (λ (fs : List FileMeta). IsGrown cmp fs first s l) same grown in
        let i = first_in cmp (pointer_of v level) (level_files cmp v level) first first_is in
        upper_is view r (is_around first s l) files first same first_is
        (subst (λ (n : ℕ). AreChosen cmp n (level_files cmp v level) first (filter (is_around first s l) (level_files cmp v level))) (sym zeroth) (least_closed (level_files cmp v level) first s l of_level.differ i all_grown))
        (or_left (eqb first.number first.number) (is_overlapping cmp s l first) (eqb_itself first.number)) gives

    -- if there is no first file the level has no file
    pub upper_none : (files : List FileMeta) → files ≡ level_files cmp v level → first_file cmp (pointer_of v level) files ≡ None → IsUpperAnswer cmp v level (Ok files)
    upper_none files same none =
        let short = no_first cmp (pointer_of v level) files none in
        without_files (nat_lt 0 (length (level_files cmp v level))) (no_test (length (level_files cmp v level)) (ap length (sym same) ∙ short)) (AreUpper cmp v level files × (0 < length files)) (Ok files ≡ Ok []) (empty files short)
      where
        empty : (xs : List FileMeta) → length xs ≡ 0 → oks xs ≡ oks []
        empty [] e = refl
        empty (x ∷ xs) e = absurd (omega arith)
