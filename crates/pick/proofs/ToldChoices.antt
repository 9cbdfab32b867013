-- No file is missing exactly if the choice is closed.
use Rattle.std.proofs.Common.{◌≡◌, ℕ, ◌+◌, Bool, true, false, not, cond, ◌&&◌, List, Option, Some, None, Result, Ok, Err, refl, sym, ap, subst, ◌∙◌}
use Rattle.std.specs.Prelude.{nat_lt, IfOk}
use Rattle.std.specs.List.{filter, find}
use Rattle.std.specs.Option.{option_map, option_or}
use Rattle.std.specs.declared.cmp.Ordering.{Ordering}
use Rattle.edit.specs.Answers.{EqualOrMemory, fault}
use Rattle.edit.specs.fault.Fault.{Fault}
use Rattle.edit.specs.fault.FaultName.TheVariants.{Level}
use Rattle.edit.proofs.Binds.{ok_is}
use Rattle.edit.specs.Version.{State}
use Rattle.edit.specs.VersionOrder.{level_files}
use Rattle.edit.specs.declared.meta.FileMeta.{FileMeta}
use Rattle.pick.specs.ClosedChoice.{IsClosedChoice, IsToldClosed, first_missing, has_number_of, is_needed_above, is_needed_below, missing_among, missing_answer}
use Rattle.pick.specs.PickedInputs.{input_at}
use Rattle.pick.specs.declared.picked_inputs.InputFile.{InputFile}
use Rattle.pick.proofs.Lists.{IsIn, all_in, all_from, and_both, and_first, and_second, false_true, find_none, none_find}

refuted : (b : Bool) → (b ≡ true → ⊥) → b ≡ false
refuted true h = absurd (h refl)
refuted false h = refl

-- of two that may be there neither is
none_first : (level : ℕ) (o : Option FileMeta) (p : Option InputFile) → option_or (option_map (input_at level) o) p ≡ None → o ≡ None
none_first level None p h = refl
none_first level (Some f) p h = absurd cc

none_second : (o : Option InputFile) (level : ℕ) (p : Option FileMeta) → option_or o (option_map (input_at level) p) ≡ None → p ≡ None
none_second None level None h = refl
none_second None level (Some f) h = absurd cc
none_second (Some i) level p h = absurd cc

module _ (chosen needed : FileMeta → Bool) (files : List FileMeta) where
  abbrev is_missing : FileMeta → Bool
  is_missing f = not (chosen f) && needed f

  all_chosen : find is_missing files ≡ None → (f : FileMeta) → IsIn files f → needed f ≡ true → chosen f ≡ true
  all_chosen none f there need = by (chosen f) refl
    where
      by : (b : Bool) → chosen f ≡ b → chosen f ≡ true
      by true e = e
      by false e = false_true (is_missing f) (and_both (not (chosen f)) (needed f) (ap not e) need) (find_none is_missing files none f there)

  none_missing : ((f : FileMeta) → IsIn files f → needed f ≡ true → chosen f ≡ true) → find is_missing files ≡ None
  none_missing all =
      none_find is_missing files
      (λ f there.
      refuted (is_missing f)
      (λ missing. false_true (not (chosen f)) (and_first (not (chosen f)) (needed f) missing) (ap not (all f there (and_second (not (chosen f)) (needed f) missing)))))

module _ (cmp : List ℕ → List ℕ → Ordering) (v : State) (level : ℕ) (chosen : FileMeta → Bool) where
  abbrev upper : List FileMeta
  upper = level_files cmp v level

  abbrev lower : List FileMeta
  lower = level_files cmp v (level + 1)

  abbrev needed_above : FileMeta → Bool
  needed_above f = is_needed_above cmp level (filter chosen (level_files cmp v level)) f

  abbrev needed_below : FileMeta → Bool
  needed_below f = is_needed_below cmp (filter chosen (level_files cmp v level)) (filter chosen (level_files cmp v (level + 1))) f

  pub told : IsToldClosed cmp v level chosen (first_missing cmp v level chosen)
  told = (closed, none)
    where
      closed : first_missing cmp v level chosen ≡ None → IsClosedChoice cmp v level chosen
      closed h =
          let above = none_first level (find (λ (f : FileMeta). not (chosen f) && needed_above f) upper) _ h in
          let below = none_second _ (level + 1) (find (λ (f : FileMeta). not (chosen f) && needed_below f) lower) h in
          record {
            above = all_from (λ (f : FileMeta). needed_above f ≡ true → chosen f ≡ true) upper (all_chosen chosen needed_above upper above);
            below = all_from (λ (f : FileMeta). needed_below f ≡ true → chosen f ≡ true) lower (all_chosen chosen needed_below lower below);
          }

      none : IsClosedChoice cmp v level chosen → first_missing cmp v level chosen ≡ None
      none h =
          let above = none_missing chosen needed_above upper (all_in (λ (f : FileMeta). needed_above f ≡ true → chosen f ≡ true) upper h.above) in
          let below = none_missing chosen needed_below lower (all_in (λ (f : FileMeta). needed_below f ≡ true → chosen f ≡ true) lower h.below) in
          ap (λ (o : Option FileMeta). option_or (option_map (input_at level) o) (option_map (input_at (level + 1)) (find (λ (f : FileMeta). not (chosen f) && needed_below f) lower))) above
          ∙ ap (λ (o : Option FileMeta). option_map (input_at (level + 1)) o) below

-- so what a call answers tells it
pub answer_told : (cmp : List ℕ → List ℕ → Ordering) (v : State) (level : ℕ) (numbers : List ℕ) (result : Result (Option InputFile) Fault) → EqualOrMemory (λ (o : Option InputFile). o) result (missing_answer cmp v level numbers)
    → IfOk result (IsToldClosed cmp v level (has_number_of numbers))
answer_told cmp v level numbers (Err e) h = tt
answer_told cmp v level numbers (Ok o) h = by (nat_lt 5 level) h
  where
    by : (b : Bool) → cond b (Err (fault Level)) (Ok (first_missing cmp v level (has_number_of numbers))) ≡ Ok o → IsToldClosed cmp v level (has_number_of numbers) o
    by true e = absurd cc
    by false e = subst (IsToldClosed cmp v level (has_number_of numbers)) (ok_is (first_missing cmp v level (has_number_of numbers)) o e) (told cmp v level (has_number_of numbers))

-- ---- the file that is found

module _ (cmp : List ℕ → List ℕ → Ordering) (level : ℕ) (files next : List FileMeta) (chosen : FileMeta → Bool) (upper lower : List FileMeta) (is_upper : filter chosen files ≡ upper) (is_lower : filter chosen next ≡ lower)
    (first second : Option FileMeta) (of_first : first ≡ find (λ (f : FileMeta). not (chosen f) && is_needed_above cmp level upper f) files) (of_second : second ≡ find (λ (f : FileMeta). not (chosen f) && is_needed_below cmp upper lower f) next) where
  abbrev above_in : List FileMeta → Option InputFile
  above_in us = option_map (input_at level) (find (λ (f : FileMeta). not (chosen f) && is_needed_above cmp level us f) files)

  abbrev below_in : List FileMeta → List FileMeta → Option InputFile
  below_in us ls = option_map (input_at (level + 1)) (find (λ (f : FileMeta). not (chosen f) && is_needed_below cmp us ls f) next)

  pub missing_is : missing_among cmp level files next chosen ≡ option_or (option_map (input_at level) first) (option_map (input_at (level + 1)) second)
  missing_is =
      ap (λ (us : List FileMeta). option_or (above_in us) (below_in us (filter chosen next))) is_upper
      ∙ (ap (λ (ls : List FileMeta). option_or (above_in upper) (below_in upper ls)) is_lower
      ∙ (ap (λ (o : Option FileMeta). option_or (option_map (input_at level) o) (below_in upper lower)) (sym of_first)
      ∙ ap (λ (o : Option FileMeta). option_or (option_map (input_at level) first) (option_map (input_at (level + 1)) o)) (sym of_second)))
