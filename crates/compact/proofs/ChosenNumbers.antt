-- Which files are chosen by number.
use Rattle.std.proofs.Common.{◌≡◌, ℕ, ◌+◌, Bool, true, eqb, ◌||◌, List, [], ◌∷◌, map, sym, ap, subst, ◌∙◌, refl}
use Rattle.std.specs.List.{filter, list_any}
use Rattle.std.specs.declared.cmp.Ordering.{Ordering}
use Rattle.edit.specs.Version.{State}
use Rattle.edit.specs.VersionOrder.{level_files}
use Rattle.edit.specs.declared.meta.FileMeta.{FileMeta}
use Rattle.pick.specs.ClosedChoice.{IsClosedChoice, has_number_of, is_needed_above, is_needed_below}
use Rattle.pick.specs.PickedInputs.{PickedInputs}
use Rattle.pick.specs.declared.picked_inputs.InputFile.{InputFile}
use Rattle.pick.proofs.Lists.{all_in, all_from, filter_same}
use Rattle.compact.specs.ClosedInputs.{is_input}
use Rattle.compact.specs.InputsOver.{input_numbers}

any_mapped : (number : ℕ) (files : List InputFile) → list_any (λ (n : ℕ). eqb n number) (map (λ (i : InputFile). i.meta.number) files) ≡ list_any (λ (i : InputFile). eqb i.meta.number number) files
any_mapped number [] = refl
any_mapped number (i ∷ files) = ap (λ (b : Bool). eqb i.meta.number number || b) (any_mapped number files)

-- a file has the number of an input exactly if it is one
pub chosen_is : (p : PickedInputs) (f : FileMeta) → has_number_of (input_numbers p) f ≡ is_input p f.number
chosen_is p f = any_mapped f.number p.files

-- a choice that chooses the same files is closed, too
pub closed_as : (cmp : List ℕ → List ℕ → Ordering) (v : State) (level : ℕ) (a b : FileMeta → Bool) → ((f : FileMeta) → a f ≡ b f) → IsClosedChoice cmp v level a → IsClosedChoice cmp v level b
closed_as cmp v level a b same closed = record {
  above = all_from (λ (f : FileMeta). is_needed_above cmp level (filter b (level_files cmp v level)) f ≡ true → b f ≡ true) (level_files cmp v level)
      (λ f there needed.
      sym (same f)
      ∙ all_in (λ (g : FileMeta). is_needed_above cmp level (filter a (level_files cmp v level)) g ≡ true → a g ≡ true) (level_files cmp v level) closed.above f there
      (subst (λ (l : List FileMeta). is_needed_above cmp level l f ≡ true) (sym (at_level level)) needed));
  below = all_from (λ (f : FileMeta). is_needed_below cmp (filter b (level_files cmp v level)) (filter b (level_files cmp v (level + 1))) f ≡ true → b f ≡ true) (level_files cmp v (level + 1))
      (λ f there needed.
      sym (same f)
      ∙ all_in (λ (g : FileMeta). is_needed_below cmp (filter a (level_files cmp v level)) (filter a (level_files cmp v (level + 1))) g ≡ true → a g ≡ true) (level_files cmp v (level + 1)) closed.below f there
      (subst (λ (l : List FileMeta). is_needed_below cmp l (filter a (level_files cmp v (level + 1))) f ≡ true) (sym (at_level level))
      (subst (λ (l : List FileMeta). is_needed_below cmp (filter b (level_files cmp v level)) l f ≡ true) (sym (at_level (level + 1))) needed)));
}
  where
    at_level : (n : ℕ) → filter a (level_files cmp v n) ≡ filter b (level_files cmp v n)
    at_level n = filter_same a b (level_files cmp v n) (λ f there. same f)
