-- Which files of a level are picked.
use Rattle.std.proofs.Common.{◌≡◌, ℕ, zero, suc, ◌+◌, ◌-◌, ◌<◌, ◌≤◌, Bool, true, false, eqb, List, [], ◌∷◌, ◌++◌, sym, ap, subst, ◌∙◌, inl, inr, refl, arith, eq-or-lt_of_le}
use Rattle.std.specs.Prelude.{Contains}
use Rattle.std.specs.List.{filter, list_any}
use Rattle.std.specs.Cmp.{IsTotalOrder}
use Rattle.std.specs.declared.cmp.Ordering.{Ordering}
use Rattle.edit.specs.Version.{State}
use Rattle.edit.specs.VersionOrder.{level_files}
use Rattle.edit.specs.declared.meta.FileMeta.{FileMeta}
use Rattle.pick.specs.Ranges.{overlaps}
use Rattle.pick.specs.Boundaries.{is_among, IsChain, AreWithBoundaries}
use Rattle.pick.specs.PickedInputs.{PickedInputs, IsPicked, input_at, files_from}
use Rattle.compact.specs.ClosedInputs.{is_input}
use Rattle.pick.specs.declared.picked_inputs.InputFile.{InputFile}
use Rattle.pick.proofs.Lists.{IsIn, or_left, or_right, false_true, filter_in, in_filter, in_front, in_back, in_either, find_some}
use Rattle.reads.proofs.Members.{first_or_later, none_in}
use Rattle.reads.proofs.Levels.{is_in, contains_in}
use Rattle.pick.proofs.Chains.{is_next}
use Rattle.compact.proofs.ClosedLevels.{upper_input, lower_input}

pub any_at : {X : Type 0} (p : X → Bool) (xs : List X) (x : X) → Contains xs x → p x ≡ true → list_any p xs ≡ true
any_at p [] x at h = absurd (none_in x at)
any_at p (y ∷ xs) x at h = elim (first_or_later y xs x at) [ inl same ↦ or_left (p y) (list_any p xs) (ap p (sym same) ∙ h) | inr later ↦ or_right (p y) (list_any p xs) (any_at p xs x later h) ]

pub refuted : (b : Bool) → (b ≡ true → ⊥) → b ≡ false
refuted true h = absurd (h refl)
refuted false h = refl

pub same_itself : (n : ℕ) → eqb n n ≡ true
same_itself n = grind arith

module _ (cmp : List ℕ → List ℕ → Ordering) (total : IsTotalOrder cmp) where
  -- ---- files with their boundary files

  chain_inside : (files chosen added : List FileMeta) → IsChain cmp files chosen added → (q : FileMeta) → IsIn added q → IsIn files q
  chain_inside files chosen [] chain q i = absurd i
  chain_inside files chosen (g ∷ added) chain q (inl same) = subst (IsIn files) (sym same) (find_some (is_next cmp total chosen) files g chain.0).0
  chain_inside files chosen (g ∷ added) chain q (inr i) = chain_inside files (chosen ++ g ∷ []) added chain.1 q i

  pub final_inside : (files chosen added : List FileMeta) → ((q : FileMeta) → IsIn chosen q → IsIn files q) → IsChain cmp files chosen added → (q : FileMeta) → IsIn (chosen ++ added) q → IsIn files q
  final_inside files chosen added inside chain q i = elim (in_either chosen added q i) [ inl j ↦ inside q j | inr j ↦ chain_inside files chosen added chain q j ]

  pub bounded_in : (files chosen all : List FileMeta) (with : AreWithBoundaries cmp files chosen all) (m : FileMeta) → Contains all m → IsIn files m × (is_among (chosen ++ with.added) m ≡ true)
  bounded_in files chosen all with m at = filter_in (is_among (chosen ++ with.added)) files m (subst (λ (l : List FileMeta). IsIn l m) with.these (is_in all m at))

  pub in_bounded : (files chosen all : List FileMeta) (with : AreWithBoundaries cmp files chosen all) (m : FileMeta) → IsIn files m → is_among (chosen ++ with.added) m ≡ true → Contains all m
  in_bounded files chosen all with m i among = contains_in all m (subst (λ (l : List FileMeta). IsIn l m) (sym with.these) (in_filter (is_among (chosen ++ with.added)) files m i among))

  -- ---- the files of all levels from one on

  pub in_files_from : (v : State) (n from level : ℕ) → from ≤ level → level < from + n → (m : FileMeta) → IsIn (level_files cmp v level) m → IsIn (files_from cmp v from n) m
  unfolding files_from
  in_files_from v zero from level le lt m i = absurd (omega arith)
  in_files_from v (suc n) from level le lt m i =
      elim (eq-or-lt_of_le le) [
        | inl own ↦ in_front (level_files cmp v from) (files_from cmp v (from + 1) n) m (subst (λ (k : ℕ). IsIn (level_files cmp v k) m) (sym own) i)
        | inr less ↦ in_back (level_files cmp v from) (files_from cmp v (from + 1) n) m (in_files_from v n (from + 1) level (omega arith) (omega arith) m i)
      ]

  module _ (v : State) (level : ℕ) (p : PickedInputs) (picked : IsPicked cmp v level p) where
    abbrev above : List FileMeta
    above = picked.are_upper.chosen ++ picked.are_upper.with_boundaries.added

    abbrev overlapping : List FileMeta
    overlapping = filter (overlaps cmp picked.upper) (level_files cmp v (level + 1))

    abbrev below : List FileMeta
    below = filter (overlaps cmp picked.upper) (level_files cmp v (level + 1)) ++ picked.are_lower.added

    -- a file that is no input isn't among those that are
    pub out_above : (f : FileMeta) → IsIn (level_files cmp v level) f → is_input p f.number ≡ false → is_among above f ≡ false
    out_above f i out =
        refuted (is_among above f)
        (λ among. false_true (is_input p f.number)
        (any_at (λ (x : InputFile). eqb x.meta.number f.number) p.files (input_at level f) (upper_input level picked.upper picked.lower p.files picked.files_are f (in_bounded (level_files cmp v level) picked.are_upper.chosen picked.upper picked.are_upper.with_boundaries f i among)) (same_itself f.number))
        out)

    pub out_below : (f : FileMeta) → IsIn (level_files cmp v (level + 1)) f → is_input p f.number ≡ false → is_among below f ≡ false
    out_below f i out =
        refuted (is_among below f)
        (λ among. false_true (is_input p f.number)
        (any_at (λ (x : InputFile). eqb x.meta.number f.number) p.files (input_at (level + 1) f) (lower_input level picked.upper picked.lower p.files picked.files_are f (in_bounded (level_files cmp v (level + 1)) overlapping picked.lower picked.are_lower f i among)) (same_itself f.number))
        out)
