-- The inputs of a level, put together.
use Rattle.std.proofs.Common.{Bor, ◌≡◌, ℕ, ◌+◌, ◌-◌, ◌<◌, ◌≤◌, nat_lt, Bool, true, false, cond, List, [], ◌∷◌, ◌++◌, length, map, Some, None, Result, Ok, Err, refl, sym, ap, subst, ◌∙◌, arith}
use Rattle.std.specs.Prelude.{MatchBool, IsOkAnd, OnOk}
use Rattle.std.specs.List.{filter, fold, slice_get}
use Rattle.std.specs.Cmp.{IsTotalOrder}
use Rattle.std.specs.declared.cmp.Ordering.{Ordering}
use Rattle.std.proofs.lemmas.Bool.Decides.{nat_tests}
use Rattle.edit.specs.Answers.{fault, EqualOrMemory, HoldsOrMemory}
use Rattle.edit.specs.fault.Fault.{Fault}
use Rattle.edit.specs.fault.FaultName.TheVariants.{NoInput}
use Rattle.edit.proofs.Binds.{done, failed, ok_is}
use Rattle.edit.proofs.Refusals.{unless_from}
use Rattle.edit.specs.Key.{user_of}
use Rattle.edit.specs.Version.{State}
use Rattle.edit.specs.VersionOrder.{level_files}
use Rattle.edit.specs.declared.meta.FileMeta.{FileMeta}
use Rattle.pick.specs.Spans.{least_user, greatest_user, is_overlapping}
use Rattle.pick.specs.Boundaries.{greater_key, with_largest, largest_key, AreWithBoundaries}
use Rattle.pick.specs.Choices.{IsUpperAnswer}
use Rattle.pick.specs.PickedInputs.{PickedInputs, AreUpper, IsPicked, IsInputsAnswer, files_from, input_at}
use Rattle.pick.specs.declared.picked_inputs.InputFile.{InputFile}
use Rattle.pick.proofs.Lists.{lent}
use Rattle.pick.proofs.FileSpans.{head_in, IsSpan, span_all, span_more, overlapping_is}
use Rattle.pick.proofs.ChosenInputs.{some_in, first_in}

pub inputs_lent : (level : ℕ) (files : List (Bor FileMeta)) → map (λ (f : Bor FileMeta). input_at level f.now) files ≡ map (input_at level) (lent files)
inputs_lent level [] = refl
inputs_lent level (f ∷ files) = ap (λ (l : List InputFile). input_at level f.now ∷ l) (inputs_lent level files)

abbrev inputs_at : ℕ → List (Bor FileMeta) → List InputFile
inputs_at level files = map (λ (f : Bor FileMeta). input_at level f.now) files

abbrev all_inputs : List InputFile → Result (List InputFile) Fault
all_inputs files = Ok files

-- the files of two levels, appended one after the other
pub both_pushed : (level : ℕ) (us ls : List (Bor FileMeta)) (none one two : List InputFile) → none ≡ [] → one ≡ none ++ inputs_at level us → two ≡ one ++ inputs_at (level + 1) ls → all_inputs (inputs_at level us ++ inputs_at (level + 1) ls) ≡ all_inputs two
both_pushed level us ls none one two empty first second =
    let one_is : one ≡ inputs_at level us = first ∙ ap (λ (l : List InputFile). l ++ inputs_at level us) empty in
    ap all_inputs (sym (second ∙ ap (λ (l : List InputFile). l ++ inputs_at (level + 1) ls) one_is))

pub both_are : (level : ℕ) (upper lower us ls : List (Bor FileMeta)) (all : List InputFile) → us ≡ upper → ls ≡ lower → all_inputs (inputs_at level us ++ inputs_at (level + 1) ls) ≡ all_inputs all → all ≡ map (input_at level) (lent upper) ++ map (input_at (level + 1)) (lent lower)
both_are level upper lower us ls all same_us same_ls e =
    sym (ok_is (inputs_at level us ++ inputs_at (level + 1) ls) all e)
    ∙ ap (λ (fs : List (Bor FileMeta)). inputs_at level fs ++ inputs_at (level + 1) ls) same_us ∙ ap (λ (fs : List (Bor FileMeta)). inputs_at level upper ++ inputs_at (level + 1) fs) same_ls
    ∙ ap (λ (l : List InputFile). l ++ inputs_at (level + 1) lower) (inputs_lent level upper) ∙ ap (λ (l : List InputFile). map (input_at level) (lent upper) ++ l) (inputs_lent (level + 1) lower)

abbrev pub picked_as : ℕ → List InputFile → List FileMeta → List FileMeta → List ℕ → Result PickedInputs Fault
picked_as level files grandparents deeper key = Ok (record { level = level; files = files; grandparents = grandparents; deeper = deeper; pointer = record { level = level; key = key } })

-- what is picked by equal parts
pub same_picked : (level : ℕ) (files : List InputFile) (gs hs ds es : List FileMeta) (key own : List ℕ) → gs ≡ hs → ds ≡ es → key ≡ own → picked_as level files gs ds key ≡ picked_as level files hs es own
same_picked level files gs hs ds es key own a b c =
    ap (λ (l : List FileMeta). picked_as level files l ds key) a ∙ ap (λ (l : List FileMeta). picked_as level files hs l key) b ∙ ap (λ (k : List ℕ). picked_as level files hs es k) c

-- what holds of what a call gives holds of its answer
pub holds_from : {X Y : Type 0} (view : X → Y) (r : Result X Fault) (y : Y) (IsAnswer : Result Y Fault → Type 0) → EqualOrMemory view r (Ok y) → IsAnswer (Ok y) → HoldsOrMemory view r IsAnswer
holds_from view (Ok x) y IsAnswer e h = subst IsAnswer e h
holds_from view (Err f) y IsAnswer e h = unless_from f (done y ≡ failed f) (IsAnswer (Err f)) (λ same. absurd cc) e

pub on_ok : {X : Type 0} (r : Result X Fault) (P : Type 0) → P → OnOk r P
on_ok (Ok x) P p = p
on_ok (Err f) P p = tt

pub head_lent : (files : List (Bor FileMeta)) (first : Bor FileMeta) → slice_get files 0 ≡ Some first → slice_get (lent files) 0 ≡ Some first.now
head_lent [] first e = absurd cc
head_lent (f ∷ files) first e = let same : f ≡ first = cc in ap (λ (x : Bor FileMeta). Some x.now) same

pub no_head_lent : (files : List (Bor FileMeta)) → slice_get files 0 ≡ None → length (lent files) ≡ 0
no_head_lent [] e = refl
no_head_lent (f ∷ files) e = absurd cc

some_largest : (cmp : List ℕ → List ℕ → Ordering) (key : List ℕ) (files : List FileMeta) → fold (with_largest cmp) (Some key) files ≡ None → ⊥
some_largest cmp key [] e = absurd cc
some_largest cmp key (f ∷ files) e = some_largest cmp (greater_key cmp key f.largest) files e

-- if there is no largest key there is no file
pub no_largest : (cmp : List ℕ → List ℕ → Ordering) (files : List FileMeta) → largest_key cmp files ≡ None → length files ≡ 0
no_largest cmp [] e = refl
no_largest cmp (f ∷ files) e = absurd (some_largest cmp f.largest files e)

pub low : (level : ℕ) → level ≤ 5 → nat_lt 5 level ≡ false
low level h = grind (arith, nat_tests)

some_test : (n : ℕ) → 0 < n → nat_lt 0 n ≡ true
some_test n h = grind (arith, nat_tests)

within : (b : Bool) → b ≡ false → (P Q : Type 0) → Q → MatchBool b P Q
within true e P Q h = absurd cc
within false e P Q h = h

passing : (b : Bool) → b ≡ true → (P Q : Type 0) → P → MatchBool b P Q
passing true e P Q h = h
passing false e P Q h = absurd cc

abbrev oks : List FileMeta → Result (List FileMeta) Fault
oks files = Ok files

module _ (cmp : List ℕ → List ℕ → Ordering) (v : State) (level : ℕ) where
  refused : (upper : List FileMeta) → length upper ≡ 0 → (b : Bool) → MatchBool b (AreUpper cmp v level upper × (0 < length upper)) (oks upper ≡ oks []) → (P Q : Type 0) → Q → MatchBool b P Q
  refused upper short true h P Q q = absurd (omega (arith, h.1))
  refused upper short false h P Q q = q

  -- if the level has no input, it has no file
  pub is_no_input : (upper : List FileMeta) → level ≤ 5 → IsUpperAnswer cmp v level (Ok upper) → length upper ≡ 0 → IsInputsAnswer cmp v level (Err (fault NoInput))
  is_no_input upper fits answer short =
      within (nat_lt 5 level) (low level fits) _ _ (refused upper short (nat_lt 0 (length (level_files cmp v level))) answer (IsOkAnd {T = PickedInputs} (Err (fault NoInput)) (IsPicked cmp v level)) _ refl)

  chosen_of : (upper : List FileMeta) → 0 < length upper → (b : Bool) → MatchBool b (AreUpper cmp v level upper × (0 < length upper)) (oks upper ≡ oks []) → AreUpper cmp v level upper
  chosen_of upper some true h = h.0
  chosen_of upper some false h = let none : upper ≡ [] = cc in absurd (omega (arith, some, ap length none))

  pub are_inputs : IsTotalOrder cmp → (upper lower : List FileMeta) (first : FileMeta) (s l key : List ℕ) (files : List InputFile) (grandparents deeper : List FileMeta) → level ≤ 5 → IsUpperAnswer cmp v level (Ok upper) → slice_get upper 0 ≡ Some first
      → s ≡ least_user cmp (user_of first.smallest) upper → l ≡ greatest_user cmp (user_of first.largest) upper
      → AreWithBoundaries cmp (level_files cmp v (level + 1)) (filter (is_overlapping cmp s l) (level_files cmp v (level + 1))) lower → files ≡ map (input_at level) upper ++ map (input_at (level + 1)) lower
      → grandparents ≡ cond (nat_lt 6 (level + 2)) [] (filter (is_overlapping cmp (least_user cmp s lower) (greatest_user cmp l lower)) (level_files cmp v (level + 2))) → deeper ≡ files_from cmp v (level + 2) (7 - (level + 2))
      → largest_key cmp upper ≡ Some key → IsInputsAnswer cmp v level (Ok (record { level = level; files = files; grandparents = grandparents; deeper = deeper; pointer = record { level = level; key = key } }))
  are_inputs total upper lower first s l key files grandparents deeper fits answer head s_is l_is are_lower files_are grandparents_are deeper_are key_is =
      let inside = head_in upper first head in
      let are_upper = chosen_of upper (some_in upper first inside) (nat_lt 0 (length (level_files cmp v level))) answer in
      let span = subst (λ (k : List ℕ). IsSpan cmp total upper s k) (sym l_is) (subst (λ (k : List ℕ). IsSpan cmp total upper k (greatest_user cmp (user_of first.largest) upper)) (sym s_is) (span_all cmp total upper first inside)) in
      let left : 7 - (level + 2) ≡ 5 - level = omega arith in
      within (nat_lt 5 level) (low level fits) _ _
      (passing (nat_lt 0 (length (level_files cmp v level))) (some_test (length (level_files cmp v level)) (some_in (level_files cmp v level) are_upper.first (first_in cmp _ (level_files cmp v level) are_upper.first are_upper.is_first))) _ _
      (record {
        upper = upper;
        are_upper = are_upper;
        lower = lower;
        are_lower = subst (λ (fs : List FileMeta). AreWithBoundaries cmp (level_files cmp v (level + 1)) fs lower) (overlapping_is cmp total upper s l span (level_files cmp v (level + 1))) are_lower;
        level_is = refl;
        files_are = files_are;
        grandparents_are = grandparents_are ∙ ap (λ (fs : List FileMeta). cond (nat_lt 6 (level + 2)) [] fs) (overlapping_is cmp total (upper ++ lower) (least_user cmp s lower) (greatest_user cmp l lower) (span_more cmp total upper lower s l span) (level_files cmp v (level + 2)));
        deeper_are = deeper_are ∙ ap (files_from cmp v (level + 2)) left;
        pointer_level = refl;
        pointer_key = key_is;
      }))
