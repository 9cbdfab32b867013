-- No refusal of a choice of inputs is Device.
use Rattle.std.proofs.Common.{◌≡◌, ◌≢◌, ℕ, zero, suc, Bool, true, false, nat_lt, List, [], ◌∷◌, Some, None, Option, Ok, Err, refl, sym, ap, subst, ◌∙◌}
use Rattle.std.specs.Prelude.{MatchBool, slice_get}
use Rattle.std.specs.Option.{ok_or}
use Rattle.std.specs.declared.cmp.Ordering.{Ordering}
use Rattle.folder.specs.Answers.{fault}
use Rattle.folder.specs.fault.Fault.{Fault}
use Rattle.folder.specs.fault.FaultName.{FaultName}
use Rattle.folder.specs.fault.FaultName.TheVariants.{Device, Lawless, Level, NoInput}
use Rattle.folder.specs.Version.{State}
use Rattle.pick.specs.ApartChoice.{both_files}
use Rattle.pick.specs.Parts.{IsPartsAnswer, have_ranges}
use Rattle.pick.specs.PickedInputs.{PickedInputs}
use Rattle.store.specs.Choice.{IsChosen, part_of_number}
use Rattle.store.specs.InputsCompaction.{IsChoiceAnswer}
use Rattle.store.specs.declared.choice.Choice.{Choice}
use Rattle.store.specs.declared.choice.Choice.TheVariants.{Part, Picked}
use Rattle.store.proofs.NoDevice.{inputs_answer_other, orderly_other}
use Rattle.store.proofs.Flow.{same_refusal, refusal}

named : {Y : Type 0} (e : Fault) (n : FaultName) → n ≢ Device → refusal {Y = Y} e ≡ refusal (fault n) → e.name ≢ Device
named {Y = Y} e n other h = λ same. other (sym (ap (λ (f : Fault). f.name) (same_refusal {Y = Y} e (fault n) h)) ∙ same)

pub parts_other : (cmp : List ℕ → List ℕ → Ordering) (v : State) (level : ℕ) (e : Fault) → IsPartsAnswer cmp v level (Err e) → e.name ≢ Device
parts_other cmp v level e h = by (nat_lt 5 level) (have_ranges cmp (both_files cmp v level)) refl refl h
  where
    by : (a b : Bool) → nat_lt 5 level ≡ a → have_ranges cmp (both_files cmp v level) ≡ b
        → MatchBool a (refusal {Y = List PickedInputs} e ≡ refusal (fault Level)) (MatchBool b ⊥ (refusal {Y = List PickedInputs} e ≡ refusal (fault Lawless))) → e.name ≢ Device
    by true b i j is = named e Level (λ same. cc same) is
    by false true i j is = absurd is
    by false false i j is = named e Lawless (λ same. cc same) is

place_other : (o : Option PickedInputs) (e : Fault) → refusal {Y = PickedInputs} e ≡ ok_or o (fault NoInput) → e.name ≢ Device
place_other (Some p) e h = absurd (cc h)
place_other None e h = named {Y = PickedInputs} e NoInput (λ same. cc same) h

number_other : (number : ℕ) (parts : List PickedInputs) (e : Fault) → refusal e ≡ part_of_number number parts → e.name ≢ Device
number_other zero parts e h = named {Y = PickedInputs} e NoInput (λ same. cc same) h
number_other (suc place) parts e h = place_other (slice_get parts place) e h

chosen_other : (cmp : List ℕ → List ℕ → Ordering) (v : State) (choice : Choice) (e : Fault) → IsChosen cmp v choice (Err e) → e.name ≢ Device
chosen_other cmp v (Picked level) e h = inputs_answer_other cmp v level e h
chosen_other cmp v (Part level number) e (Err d, (h, is)) = subst (λ (f : Fault). f.name ≢ Device) (sym (same_refusal {Y = PickedInputs} e d is)) (parts_other cmp v level d h)
chosen_other cmp v (Part level number) e (Ok parts, (h, is)) = number_other number parts e is

pub choice_other : (cmp : List ℕ → List ℕ → Ordering) (v : State) (choice : Choice) (e : Fault) → IsChoiceAnswer cmp v choice (Err e) → e.name ≢ Device
choice_other cmp v choice e (Err d, (h, is)) = subst (λ (f : Fault). f.name ≢ Device) (sym (same_refusal {Y = PickedInputs} e d is)) (orderly_other cmp v d h)
choice_other cmp v choice e (Ok passed, (h, k)) = chosen_other cmp v choice e k
