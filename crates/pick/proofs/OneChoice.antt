-- A level of a version has one choice of inputs at most.
use Rattle.std.proofs.Common.{◌≡◌, ℕ, zero, suc, ◌+◌, true, List, [], ◌∷◌, ◌++◌, map, Some, None, refl, sym, ap, subst, ◌∙◌}
use Rattle.std.specs.List.{filter}
use Rattle.std.specs.declared.cmp.Ordering.{Ordering}
use Rattle.edit.specs.Version.{State}
use Rattle.edit.specs.VersionOrder.{level_files}
use Rattle.edit.specs.declared.meta.FileMeta.{FileMeta}
use Rattle.pick.specs.Ranges.{overlaps}
use Rattle.pick.specs.ChosenFiles.{IsLeastClosed, AreChosen}
use Rattle.pick.specs.Boundaries.{largest_key, is_among, IsChain, AreWithBoundaries}
use Rattle.pick.specs.PickedInputs.{PickedInputs, AreUpper, AreLower, input_at, grandparents_of, HasOneChoice}
use Rattle.pick.specs.declared.picked_inputs.InputFile.{InputFile}
use Rattle.pick.proofs.Lists.{all_in, filter_same, same_test}

inside : {A : Type 0} (x y : A) → Some x ≡ Some y → x ≡ y
inside x y e = cc

module _ (cmp : List ℕ → List ℕ → Ordering) where
  least_one : (files : List FileMeta) (first : FileMeta) (a b : List FileMeta) → IsLeastClosed cmp files first a → IsLeastClosed cmp files first b → a ≡ b
  least_one files first a b h k =
      h.passed
      ∙ filter_same h.test k.test files
      (λ q i. same_test (h.test q) (k.test q) (all_in (λ (f : FileMeta). h.test f ≡ true → k.test f ≡ true) files (h.least k.test k.holds_first k.closed) q i) (all_in (λ (f : FileMeta). k.test f ≡ true → h.test f ≡ true) files (k.least h.test h.holds_first h.closed) q i))
      ∙ sym k.passed

  chosen_one : (level : ℕ) (files : List FileMeta) (first : FileMeta) (a b : List FileMeta) → AreChosen cmp level files first a → AreChosen cmp level files first b → a ≡ b
  chosen_one zero files first a b h k = least_one files first a b h k
  chosen_one (suc n) files first a b h k = h ∙ sym k

  chain_one : (files chosen xs ys : List FileMeta) → IsChain cmp files chosen xs → IsChain cmp files chosen ys → xs ≡ ys
  chain_one files chosen [] [] h k = refl
  chain_one files chosen [] (y ∷ ys) h k = let both : None ≡ Some y = sym h ∙ k.0 in absurd cc
  chain_one files chosen (x ∷ xs) [] h k = let both : None ≡ Some x = sym k ∙ h.0 in absurd cc
  chain_one files chosen (x ∷ xs) (y ∷ ys) h k =
      let same = inside x y (sym h.0 ∙ k.0) in
      ap (λ (z : FileMeta). z ∷ xs) same
      ∙ ap (λ (zs : List FileMeta). y ∷ zs) (chain_one files (chosen ++ y ∷ []) xs ys (subst (λ (z : FileMeta). IsChain cmp files (chosen ++ z ∷ []) xs) same h.1) k.1)

  bounded_one : (files chosen a b : List FileMeta) → AreWithBoundaries cmp files chosen a → AreWithBoundaries cmp files chosen b → a ≡ b
  bounded_one files chosen a b h k = h.these ∙ ap (λ (added : List FileMeta). filter (is_among (chosen ++ added)) files) (chain_one files chosen h.added k.added h.chain k.chain) ∙ sym k.these

  upper_one : (v : State) (level : ℕ) (a b : List FileMeta) → AreUpper cmp v level a → AreUpper cmp v level b → a ≡ b
  upper_one v level a b h k =
      let files = level_files cmp v level in
      let first = inside h.first k.first (sym h.is_first ∙ k.is_first) in
      let chosen = chosen_one level files k.first h.chosen k.chosen (subst (λ (f : FileMeta). AreChosen cmp level files f h.chosen) first h.are_chosen) k.are_chosen in
      bounded_one files k.chosen a b (subst (λ (fs : List FileMeta). AreWithBoundaries cmp files fs a) chosen h.with_boundaries) k.with_boundaries

  abbrev picked : ℕ → List InputFile → List FileMeta → List FileMeta → ℕ → List ℕ → PickedInputs
  picked level files grandparents deeper at key = record {
    level = level;
    files = files;
    grandparents = grandparents;
    deeper = deeper;
    pointer = record { level = at; key = key };
  }

  same_picked : (n m : ℕ) (fs hs : List InputFile) (gs is ds es : List FileMeta) (a b : ℕ) (k l : List ℕ) → n ≡ m → fs ≡ hs → gs ≡ is → ds ≡ es → a ≡ b → k ≡ l → picked n fs gs ds a k ≡ picked m hs is es b l
  same_picked n m fs hs gs is ds es a b k l e1 e2 e3 e4 e5 e6 =
      ap (λ (x : ℕ). picked x fs gs ds a k) e1
      ∙ ap (λ (x : List InputFile). picked m x gs ds a k) e2
      ∙ ap (λ (x : List FileMeta). picked m hs x ds a k) e3
      ∙ ap (λ (x : List FileMeta). picked m hs is x a k) e4
      ∙ ap (λ (x : ℕ). picked m hs is es x k) e5
      ∙ ap (λ (x : List ℕ). picked m hs is es b x) e6

  pub one_choice : HasOneChoice cmp
  one_choice v level p q h k =
      let upper = upper_one v level h.upper k.upper h.are_upper k.are_upper in
      let lower = bounded_one (level_files cmp v (level + 1)) (filter (overlaps cmp k.upper) (level_files cmp v (level + 1))) h.lower k.lower (subst (λ (fs : List FileMeta). AreLower cmp v (level + 1) fs h.lower) upper h.are_lower) k.are_lower in
      let key = inside p.pointer.key q.pointer.key (sym h.pointer_key ∙ ap (λ (fs : List FileMeta). largest_key cmp fs) upper ∙ k.pointer_key) in
      same_picked p.level q.level p.files q.files p.grandparents q.grandparents p.deeper q.deeper p.pointer.level q.pointer.level p.pointer.key q.pointer.key
      (h.level_is ∙ sym k.level_is)
      (h.files_are ∙ ap (λ (fs : List FileMeta). map (input_at level) fs ++ map (input_at (level + 1)) h.lower) upper ∙ ap (λ (fs : List FileMeta). map (input_at level) k.upper ++ map (input_at (level + 1)) fs) lower ∙ sym k.files_are)
      (h.grandparents_are ∙ ap (λ (fs : List FileMeta). grandparents_of cmp v level (fs ++ h.lower)) upper ∙ ap (λ (fs : List FileMeta). grandparents_of cmp v level (k.upper ++ fs)) lower ∙ sym k.grandparents_are)
      (h.deeper_are ∙ sym k.deeper_are)
      (h.pointer_level ∙ sym k.pointer_level)
      key
