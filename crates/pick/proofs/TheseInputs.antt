-- Inputs that are given as files.
use Rattle.std.proofs.Common.{◌≡◌, ℕ, ◌+◌, ◌-◌, ◌≤◌, nat_lt, cond, List, [], ◌∷◌, ◌++◌, map, Some, refl, ap, ◌∙◌, arith}
use Rattle.std.specs.List.{filter, slice_get}
use Rattle.std.specs.Cmp.{IsTotalOrder}
use Rattle.std.specs.declared.cmp.Ordering.{Ordering}
use Rattle.edit.specs.Key.{user_of}
use Rattle.edit.specs.Version.{State}
use Rattle.edit.specs.VersionOrder.{level_files}
use Rattle.edit.specs.declared.meta.FileMeta.{FileMeta}
use Rattle.pick.specs.NumberedInputs.{these_answer}
use Rattle.pick.specs.PickedInputs.{files_from, input_at}
use Rattle.pick.specs.Ranges.{overlaps}
use Rattle.pick.specs.Spans.{least_user, greatest_user, is_overlapping}
use Rattle.pick.specs.declared.picked_inputs.InputFile.{InputFile}
use Rattle.pick.proofs.FileSpans.{head_in, overlapping_is, span_all, span_more}
use Rattle.pick.proofs.LevelInputs.{picked_as, same_picked}

module _ (cmp : List ℕ → List ℕ → Ordering) (v : State) (level : ℕ) where
  abbrev near : List FileMeta → List FileMeta
  near files = cond (nat_lt 6 (level + 2)) [] files

  -- what is made of files whose range is this one
  pub these_are : IsTotalOrder cmp → (upper lower : List FileMeta) (first : FileMeta) (s l key : List ℕ) (files : List InputFile) (grandparents deeper : List FileMeta) → level ≤ 5 → slice_get upper 0 ≡ Some first
      → s ≡ least_user cmp (least_user cmp (user_of first.smallest) upper) lower → l ≡ greatest_user cmp (greatest_user cmp (user_of first.largest) upper) lower → files ≡ map (input_at level) upper ++ map (input_at (level + 1)) lower
      → grandparents ≡ near (filter (is_overlapping cmp s l) (level_files cmp v (level + 2))) → deeper ≡ files_from cmp v (level + 2) (7 - (level + 2)) → picked_as level files grandparents deeper key ≡ these_answer cmp v level upper lower key
  these_are total [] lower first s l key files grandparents deeper low head s_is l_is files_are grandparents_are deeper_are = absurd cc
  these_are total (f ∷ upper) lower first s l key files grandparents deeper low head s_is l_is files_are grandparents_are deeper_are =
      let own = f ∷ upper in
      let span = span_more cmp total own lower (least_user cmp (user_of first.smallest) own) (greatest_user cmp (user_of first.largest) own) (span_all cmp total own first (head_in own first head)) in
      let left : 7 - (level + 2) ≡ 5 - level = omega arith in
      ap (λ (fs : List InputFile). picked_as level fs grandparents deeper key) files_are
      ∙ same_picked level (map (input_at level) own ++ map (input_at (level + 1)) lower) grandparents (near (filter (overlaps cmp (own ++ lower)) (level_files cmp v (level + 2)))) deeper (files_from cmp v (level + 2) (5 - level)) key key
      (grandparents_are
      ∙ ap (λ (x : List ℕ). near (filter (is_overlapping cmp x l) (level_files cmp v (level + 2)))) s_is
      ∙ ap (λ (x : List ℕ). near (filter (is_overlapping cmp (least_user cmp (least_user cmp (user_of first.smallest) own) lower) x) (level_files cmp v (level + 2)))) l_is
      ∙ ap near (overlapping_is cmp total (own ++ lower) (least_user cmp (least_user cmp (user_of first.smallest) own) lower) (greatest_user cmp (greatest_user cmp (user_of first.largest) own) lower) span (level_files cmp v (level + 2))))
      (deeper_are ∙ ap (files_from cmp v (level + 2)) left) refl
