-- One pass over a level's files gives those chosen with their boundary files.
use Rattle.std.proofs.Common.{◌≡◌, ℕ, Bool, true, false, not, cond, eqb, ◌||◌, ◌&&◌, List, [], ◌∷◌, ◌++◌, Option, Some, None, inl, inr, refl, sym, ap, subst, ◌∙◌, append_assoc, append-nil, arith}
use Rattle.std.specs.List.{filter, find, IsDistinct}
use Rattle.std.specs.List.Sorted.{IsStrictlySortedBy}
use Rattle.std.specs.Cmp.{IsTotalOrder}
use Rattle.std.specs.Ordering.{is_lt, is_eq, is_gt, ordering_then, ordering_reverse, nat_cmp}
use Rattle.std.specs.declared.cmp.Ordering.{Ordering}
use Rattle.std.specs.declared.cmp.Ordering.TheVariants.{Less, Equal, Greater}
use Rattle.std.proofs.lemmas.Cmp.{tied_itself}
use Rattle.std.proofs.lemmas.List.Sums.{fold-append}
use Rattle.std.proofs.lemmas.List.Folds.{list_any-append}
use Rattle.edit.specs.Key.{user_of, sequence_of, kind_of, kind_number}
use Rattle.edit.specs.Order.{internal_cmp}
use Rattle.edit.proofs.Ordered.{internal_cmp-total}
use Rattle.edit.specs.VersionOrder.{file_cmp}
use Rattle.edit.specs.declared.meta.FileMeta.{FileMeta}
use Rattle.edit.proofs.Tested.{eqb-sym}
use Rattle.edit.proofs.SortedFiles.{same_number}
use Rattle.pick.specs.Boundaries.{greater_key, with_largest, largest_key, goes_on, is_among, next_boundary, IsChain, AreWithBoundaries}
use Rattle.pick.specs.Choices.{boundary_pass}
use Rattle.pick.proofs.Lists.{IsIn, in_back, in_either, any_from, any_gives, none_any, or_left, cond_true, cond_false, false_true, cases, filter_in, in_filter, find_past, none_find, one_alone, apart_behind, before, and_both, and_first, and_second, same_test}
use Rattle.pick.proofs.VersionFiles.{AreLevelFiles}

-- ---- orders

less_lt : (o : Ordering) → o ≡ Less → is_lt o ≡ true
less_lt o e = ap is_lt e

lt_less : (o : Ordering) → is_lt o ≡ true → o ≡ Less
lt_less Less e = refl
lt_less Equal e = absurd cc
lt_less Greater e = absurd cc

eq_equal : (o : Ordering) → is_eq o ≡ true → o ≡ Equal
eq_equal Less e = absurd cc
eq_equal Equal e = refl
eq_equal Greater e = absurd cc

-- the first of two comparisons that aren't below decides
first_less : (o p : Ordering) → ordering_then o p ≡ Less → is_eq o ≡ false → o ≡ Less
first_less Less p e f = refl
first_less Equal p e f = absurd cc
first_less Greater p e f = absurd cc

then_less : (o p : Ordering) → o ≡ Less → ordering_then o p ≡ Less
then_less o p e = ap (λ (x : Ordering). ordering_then x p) e

not_above : (o p : Ordering) → ordering_then o p ≡ Less → is_gt o ≡ false
not_above Less p e = refl
not_above Equal p e = refl
not_above Greater p e = absurd cc

module _ (cmp : List ℕ → List ℕ → Ordering) (total : IsTotalOrder cmp) where
  abbrev keys_total : IsTotalOrder (internal_cmp cmp)
  keys_total = internal_cmp-total total

  -- a key below another has its user key or one below
  user_less : (a b : List ℕ) → internal_cmp cmp a b ≡ Less → is_eq (cmp (user_of a) (user_of b)) ≡ false → cmp (user_of a) (user_of b) ≡ Less
  unfolding internal_cmp
  user_less a b e f = first_less (cmp (user_of a) (user_of b)) (ordering_then (nat_cmp (sequence_of b) (sequence_of a)) (nat_cmp (kind_number (kind_of b)) (kind_number (kind_of a)))) e f

  below_user : (a b : List ℕ) → cmp (user_of a) (user_of b) ≡ Less → internal_cmp cmp a b ≡ Less
  unfolding internal_cmp
  below_user a b e = then_less (cmp (user_of a) (user_of b)) (ordering_then (nat_cmp (sequence_of b) (sequence_of a)) (nat_cmp (kind_number (kind_of b)) (kind_number (kind_of a)))) e

  -- a key at most another that is below a third is below it
  below_on : (a b c : List ℕ) → (o : Ordering) → internal_cmp cmp a b ≡ o → is_gt o ≡ false → internal_cmp cmp b c ≡ Less → internal_cmp cmp a c ≡ Less
  below_on a b c Less e h f = keys_total.trans a b c e f
  below_on a b c Equal e h f = keys_total.congr a b c e ∙ f
  below_on a b c Greater e h f = absurd cc

  -- the greater of two keys isn't below the first
  greater_from : (a b : List ℕ) (t : Bool) → is_lt (internal_cmp cmp a b) ≡ t → is_gt (internal_cmp cmp a (cond t b a)) ≡ false
  greater_from a b true e = ap is_gt (lt_less (internal_cmp cmp a b) e)
  greater_from a b false e = ap is_gt (tied_itself keys_total a)

  -- a file that goes on within the user key of a key, and stands before another that goes on within a smaller one's, went on there too
  went_on : (key late q f : List ℕ) → is_gt (internal_cmp cmp key late) ≡ false → is_lt (internal_cmp cmp late q) ≡ true → is_eq (cmp (user_of key) (user_of f)) ≡ true → is_gt (internal_cmp cmp q f) ≡ false → is_eq (cmp (user_of key) (user_of q)) ≡ true
  went_on key late q f later above within first = by (is_eq (cmp (user_of key) (user_of q))) refl
    where
      by : (t : Bool) → is_eq (cmp (user_of key) (user_of q)) ≡ t → t ≡ true
      by true e = refl
      by false e =
          let below = below_on key late q (internal_cmp cmp key late) refl later (lt_less (internal_cmp cmp late q) above) in
          let user_below = user_less key q below e in
          let tied = eq_equal (cmp (user_of key) (user_of f)) within in
          let users : cmp (user_of f) (user_of q) ≡ Less = sym (total.congr (user_of key) (user_of f) (user_of q) tied) ∙ user_below in
          let back : internal_cmp cmp q f ≡ Greater = keys_total.antisymm q f ∙ ap ordering_reverse (below_user f q users) in
          let both : true ≡ false = sym (ap is_gt back) ∙ first in absurd cc

  -- a file that doesn't go on within the user key, and stands before one that does, doesn't go on after that one either
  no_more : (o : Option (List ℕ)) (f q : FileMeta) → goes_on cmp o f ≡ true → goes_on cmp o q ≡ false → is_gt (internal_cmp cmp q.smallest f.smallest) ≡ false → goes_on cmp (with_largest cmp o f) q ≡ false
  no_more None f q within stands first = absurd cc
  no_more (Some key) f q within stands first =
      elim (cases (goes_on cmp (Some late) q)) [
        | inl e ↦ false_true (goes_on cmp (Some key) q) (goes_too e) stands
        | inr e ↦ e
      ]
    where
      late : List ℕ
      late = greater_key cmp key f.largest

      later : is_gt (internal_cmp cmp key (greater_key cmp key f.largest)) ≡ false
      later = greater_from key f.largest (is_lt (internal_cmp cmp key f.largest)) refl

      goes_too : goes_on cmp (Some (greater_key cmp key f.largest)) q ≡ true → goes_on cmp (Some key) q ≡ true
      goes_too e =
          let above = and_first (is_lt (internal_cmp cmp (greater_key cmp key f.largest) q.smallest)) (is_eq (cmp (user_of (greater_key cmp key f.largest)) (user_of q.smallest))) e in
          let below = below_on key (greater_key cmp key f.largest) q.smallest (internal_cmp cmp key (greater_key cmp key f.largest)) refl later (lt_less (internal_cmp cmp (greater_key cmp key f.largest) q.smallest) above) in
          and_both (is_lt (internal_cmp cmp key q.smallest)) (is_eq (cmp (user_of key) (user_of q.smallest))) (less_lt (internal_cmp cmp key q.smallest) below)
          (went_on key (greater_key cmp key f.largest) q.smallest f.smallest later above (and_second (is_lt (internal_cmp cmp key f.smallest)) (is_eq (cmp (user_of key) (user_of f.smallest))) within) first)

  -- ---- the next boundary file

  abbrev pub is_next : List FileMeta → FileMeta → Bool
  is_next chosen f = not (is_among chosen f) && goes_on cmp (largest_key cmp chosen) f

  pub largest-push : (chosen : List FileMeta) (f : FileMeta) → largest_key cmp (chosen ++ f ∷ []) ≡ with_largest cmp (largest_key cmp chosen) f
  largest-push chosen f = fold-append (with_largest cmp) None chosen (f ∷ [])

  among-append : (xs ys : List FileMeta) (q : FileMeta) → is_among (xs ++ ys) q ≡ (is_among xs q || is_among ys q)
  among-append xs ys q = list_any-append (λ (g : FileMeta). eqb g.number q.number) xs ys

  not_next : (a b : Bool) → a ≡ true → (not a && b) ≡ false
  not_next a b e = ap (λ (x : Bool). not x && b) e

  not_on : (a b : Bool) → b ≡ false → (not a && b) ≡ false
  not_on true b e = refl
  not_on false b e = e

  is_on : (a b : Bool) → a ≡ false → (not a && b) ≡ false → b ≡ false
  is_on true b e h = absurd cc
  is_on false b e h = h

  is_the_next : (a b : Bool) → a ≡ false → b ≡ true → (not a && b) ≡ true
  is_the_next a b e f = rw (e, f) refl

  stays_done : (chosen : List FileMeta) (f q : FileMeta) → goes_on cmp (largest_key cmp chosen) f ≡ true → is_next chosen q ≡ false → is_gt (internal_cmp cmp q.smallest f.smallest) ≡ false → is_next (chosen ++ f ∷ []) q ≡ false
  stays_done chosen f q within stands first =
      elim (cases (is_among chosen q)) [
        | inl e ↦ not_next (is_among (chosen ++ f ∷ []) q) (goes_on cmp (largest_key cmp (chosen ++ f ∷ [])) q) (among-append chosen (f ∷ []) q ∙ or_left (is_among chosen q) (is_among (f ∷ []) q) e)
        | inr e ↦ not_on (is_among (chosen ++ f ∷ []) q) (goes_on cmp (largest_key cmp (chosen ++ f ∷ [])) q)
            (ap (λ o. goes_on cmp o q) (largest-push chosen f) ∙ no_more (largest_key cmp chosen) f q within (is_on (is_among chosen q) (goes_on cmp (largest_key cmp chosen) q) e stands) first)
      ]

  among_in : (xs : List FileMeta) (q : FileMeta) → IsIn xs q → is_among xs q ≡ true
  among_in xs q i = any_from (λ (g : FileMeta). eqb g.number q.number) xs q i (own q.number)
    where
      own : (n : ℕ) → eqb n n ≡ true
      own n = grind arith

  -- ---- the pass

  module _ (p : FileMeta → Bool) (files : List FileMeta) (level : AreLevelFiles cmp files) where
    -- what the pass over the files that are left adds to those chosen
    record Run (chosen left : List FileMeta) : Type 0 where
      added : List FileMeta
      chain : IsChain cmp files chosen added
      these : boundary_pass cmp p (largest_key cmp chosen) left ≡ filter (is_among (chosen ++ added)) left
      of_left : (q : FileMeta) → IsIn added q → IsIn left q

    -- if the pass is: no file that is passed is a next one, and those ahead are chosen exactly if
    -- they pass the test
    record At (passed chosen left : List FileMeta) : Type 0 where
      parts : files ≡ passed ++ left
      done : (q : FileMeta) → IsIn passed q → is_next chosen q ≡ false
      tells : (q : FileMeta) → IsIn left q → is_among chosen q ≡ p q

    first_behind : (passed : List FileMeta) (f : FileMeta) (rest : List FileMeta) → files ≡ passed ++ f ∷ rest → (q : FileMeta) → IsIn passed q → is_gt (internal_cmp cmp q.smallest f.smallest) ≡ false
    first_behind passed f rest parts q i =
        not_above (internal_cmp cmp q.smallest f.smallest) (nat_cmp q.number f.number) (before (file_cmp cmp) passed f rest (subst (IsStrictlySortedBy (file_cmp cmp)) parts level.rise) q i)

    other_number : (passed : List FileMeta) (f : FileMeta) (rest : List FileMeta) → files ≡ passed ++ f ∷ rest → (q : FileMeta) → IsIn rest q → eqb f.number q.number ≡ false
    other_number passed f rest parts q i = apart_behind same_number passed f rest (subst (IsDistinct same_number) parts level.differ) q i

    parts_on : (passed : List FileMeta) (f : FileMeta) (rest : List FileMeta) → files ≡ passed ++ f ∷ rest → files ≡ (passed ++ f ∷ []) ++ rest
    parts_on passed f rest parts = parts ∙ sym (append_assoc passed (f ∷ []) rest)

    -- a file that isn't a next one is passed
    at_on : (passed chosen : List FileMeta) (f : FileMeta) (rest : List FileMeta) → At passed chosen (f ∷ rest) → is_next chosen f ≡ false → At (passed ++ f ∷ []) chosen rest
    at_on passed chosen f rest h stands = record {
      parts = parts_on passed f rest h.parts;
      done = λ q i. elim (in_either passed (f ∷ []) q i) [ inl j ↦ h.done q j | inr j ↦ elim j [ inl e ↦ ap (is_next chosen) e ∙ stands | inr k ↦ absurd k ] ];
      tells = λ q i. h.tells q (inr i);
    }

    -- a next one is added
    at_added : (passed chosen : List FileMeta) (f : FileMeta) (rest : List FileMeta) → At passed chosen (f ∷ rest) → goes_on cmp (largest_key cmp chosen) f ≡ true → At (passed ++ f ∷ []) (chosen ++ f ∷ []) rest
    at_added passed chosen f rest h within = record {
      parts = parts_on passed f rest h.parts;
      done = λ q i.
          elim (in_either passed (f ∷ []) q i) [
            | inl j ↦ stays_done chosen f q within (h.done q j) (first_behind passed f rest h.parts q j)
            | inr j ↦ not_next (is_among (chosen ++ f ∷ []) q) (goes_on cmp (largest_key cmp (chosen ++ f ∷ [])) q) (among_in (chosen ++ f ∷ []) q (in_back chosen (f ∷ []) q j))
          ];
      tells = λ q i. among-append chosen (f ∷ []) q ∙ or_nothing (is_among chosen q) (eqb f.number q.number) (other_number passed f rest h.parts q i) ∙ h.tells q (inr i);
    }
      where
        or_nothing : (a b : Bool) → b ≡ false → (a || (b || false)) ≡ a
        or_nothing true b e = refl
        or_nothing false b e = rw e refl

    head_kept : (test : FileMeta → Bool) (f : FileMeta) (rest : List FileMeta) → test f ≡ true → f ∷ filter test rest ≡ filter test (f ∷ rest)
    head_kept test f rest e = sym (cond_true (test f) (f ∷ filter test rest) (filter test rest) e)

    head_left : (test : FileMeta → Bool) (f : FileMeta) (rest : List FileMeta) → test f ≡ false → filter test rest ≡ filter test (f ∷ rest)
    head_left test f rest e = sym (cond_false (test f) (f ∷ filter test rest) (filter test rest) e)

    step : (passed chosen : List FileMeta) (f : FileMeta) (rest : List FileMeta) → At passed chosen (f ∷ rest) → ((chosen' : List FileMeta) → At (passed ++ f ∷ []) chosen' rest → Run chosen' rest)
        → (b c : Bool) → p f ≡ b → goes_on cmp (largest_key cmp chosen) f ≡ c → Run chosen (f ∷ rest)
    step passed chosen f rest h again true c e g =
        let among = h.tells f (inl refl) ∙ e in
        let run = again chosen (at_on passed chosen f rest h (not_next (is_among chosen f) (goes_on cmp (largest_key cmp chosen) f) among)) in
        let kept : is_among (chosen ++ run.added) f ≡ true = among-append chosen run.added f ∙ or_left (is_among chosen f) (is_among run.added f) among in
        record {
          added = run.added;
          chain = run.chain;
          these = cond_true (p f) (f ∷ boundary_pass cmp p (largest_key cmp chosen) rest) (cond (goes_on cmp (largest_key cmp chosen) f) (f ∷ boundary_pass cmp p (with_largest cmp (largest_key cmp chosen) f) rest) (boundary_pass cmp p (largest_key cmp chosen) rest)) e
              ∙ ap (λ (l : List FileMeta). f ∷ l) run.these
              ∙ head_kept (is_among (chosen ++ run.added)) f rest kept;
          of_left = λ q i. inr (run.of_left q i);
        }
    step passed chosen f rest h again false true e g =
        let run = again (chosen ++ f ∷ []) (at_added passed chosen f rest h g) in
        let next = is_the_next (is_among chosen f) (goes_on cmp (largest_key cmp chosen) f) (h.tells f (inl refl) ∙ e) g in
        let found : next_boundary cmp files chosen ≡ Some f = ap (find (is_next chosen)) h.parts ∙ find_past (is_next chosen) passed f rest h.done next in
        let kept : is_among (chosen ++ f ∷ run.added) f ≡ true = among_in (chosen ++ f ∷ run.added) f (in_back chosen (f ∷ run.added) f (inl refl)) in
        record {
          added = f ∷ run.added;
          chain = (found, run.chain);
          these = cond_false (p f) (f ∷ boundary_pass cmp p (largest_key cmp chosen) rest) (cond (goes_on cmp (largest_key cmp chosen) f) (f ∷ boundary_pass cmp p (with_largest cmp (largest_key cmp chosen) f) rest) (boundary_pass cmp p (largest_key cmp chosen) rest)) e
              ∙ cond_true (goes_on cmp (largest_key cmp chosen) f) (f ∷ boundary_pass cmp p (with_largest cmp (largest_key cmp chosen) f) rest) (boundary_pass cmp p (largest_key cmp chosen) rest) g
              ∙ ap (λ o. f ∷ boundary_pass cmp p o rest) (sym (largest-push chosen f))
              ∙ ap (λ (l : List FileMeta). f ∷ l) (run.these ∙ ap (λ (l : List FileMeta). filter (is_among l) rest) (append_assoc chosen (f ∷ []) run.added))
              ∙ head_kept (is_among (chosen ++ f ∷ run.added)) f rest kept;
          of_left = λ q i. elim i [ inl same ↦ inl same | inr j ↦ inr (run.of_left q j) ];
        }
    step passed chosen f rest h again false false e g =
        let run = again chosen (at_on passed chosen f rest h (not_on (is_among chosen f) (goes_on cmp (largest_key cmp chosen) f) g)) in
        let none_added : is_among run.added f ≡ false = none_any (λ (x : FileMeta). eqb x.number f.number) run.added (λ q i. eqb-sym q.number f.number ∙ other_number passed f rest h.parts q (run.of_left q i)) in
        let left_out : is_among (chosen ++ run.added) f ≡ false = among-append chosen run.added f ∙ neither (is_among chosen f) (is_among run.added f) (h.tells f (inl refl) ∙ e) none_added in
        record {
          added = run.added;
          chain = run.chain;
          these = cond_false (p f) (f ∷ boundary_pass cmp p (largest_key cmp chosen) rest) (cond (goes_on cmp (largest_key cmp chosen) f) (f ∷ boundary_pass cmp p (with_largest cmp (largest_key cmp chosen) f) rest) (boundary_pass cmp p (largest_key cmp chosen) rest)) e
              ∙ cond_false (goes_on cmp (largest_key cmp chosen) f) (f ∷ boundary_pass cmp p (with_largest cmp (largest_key cmp chosen) f) rest) (boundary_pass cmp p (largest_key cmp chosen) rest) g
              ∙ run.these
              ∙ head_left (is_among (chosen ++ run.added)) f rest left_out;
          of_left = λ q i. inr (run.of_left q i);
        }
      where
        neither : (a b : Bool) → a ≡ false → b ≡ false → (a || b) ≡ false
        neither a b e f = rw (e, f) refl

    all_run : (passed chosen left : List FileMeta) → At passed chosen left → Run chosen left
    all_run passed chosen [] h = record {
      added = [];
      chain = none_find (is_next chosen) files (λ q i. h.done q (subst (λ (l : List FileMeta). IsIn l q) (h.parts ∙ append-nil passed) i));
      these = refl;
      of_left = λ q i. i;
    }
    all_run passed chosen (f ∷ rest) h =
        step passed chosen f rest h (λ chosen' h'. all_run (passed ++ f ∷ []) chosen' rest h') (p f) (goes_on cmp (largest_key cmp chosen) f) refl refl

    -- whether a file of the level is among those that pass the test
    among_filter : (q : FileMeta) → IsIn files q → is_among (filter p files) q ≡ p q
    among_filter q i = same_test (is_among (filter p files) q) (p q) there (λ e. among_in (filter p files) q (in_filter p files q i e))
      where
        there : is_among (filter p files) q ≡ true → p q ≡ true
        there h =
            let x = any_gives (λ (g : FileMeta). eqb g.number q.number) (filter p files) h in
            let inside = filter_in p files x.item x.inside in
            ap p (sym (one_alone same_number (λ f g. eqb-sym f.number g.number) files level.differ x.item q inside.0 i x.passes)) ∙ inside.1

    pub pass_is : AreWithBoundaries cmp files (filter p files) (boundary_pass cmp p (largest_key cmp (filter p files)) files)
    pass_is =
        let run = all_run [] (filter p files) files (record { parts = refl; done = λ q i. absurd i; tells = among_filter }) in
        record { added = run.added; chain = run.chain; these = run.these }
