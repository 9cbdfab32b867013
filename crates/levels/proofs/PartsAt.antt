-- The part at a place.
use Rattle.std.proofs.Common.{◌≡◌, ℕ, suc, ◌<◌, List, length, map, slice_get, get_or, Some, Option, Ok, refl, sym, ap, ◌∙◌}
use Rattle.std.specs.Option.{ok_or, option_map}
use Rattle.std.specs.declared.cmp.Ordering.{Ordering}
use Rattle.std.proofs.lemmas.Option.{slice_get-map, slice_get_read}
use Rattle.edit.specs.Version.{State}
use Rattle.pick.specs.PickedInputs.{PickedInputs, picked_in}
use Rattle.pick.specs.declared.picked_inputs.Inputs.{Inputs}
use Rattle.store.specs.Choice.{IsChosen, part_of_number}
use Rattle.store.specs.declared.choice.Choice.{Choice}
use Rattle.store.specs.declared.choice.Choice.TheVariants.{Part}
use Rattle.levels.specs.PartsEnd.{IsPartAt}
use Rattle.edit.specs.Answers.{fault}
use Rattle.edit.specs.fault.FaultName.TheVariants.{NoInput}
use Rattle.pick.proofs.ApartChoices.{is_there}
use Rattle.levels.proofs.PartsBase.{place_of, slice_in}
use Rattle.levels.proofs.SelectedParts.{among, in_all}

pub got : (parts : List Inputs) (place : ℕ) (part : Inputs) → place < length parts → part ≡ get_or parts place part → slice_get parts place ≡ Some part
got parts place part lt is = slice_get_read parts (length parts) place part refl lt is

pub part_at : (parts : List Inputs) (place : ℕ) (part : Inputs) → slice_get parts place ≡ Some part → slice_get (map picked_in parts) place ≡ Some (picked_in part)
part_at parts place part h = slice_get-map picked_in parts place ∙ ap (option_map picked_in) h

-- it is a part of a level
pub part_is : (cmp : List ℕ → List ℕ → Ordering) (v : State) (parts : List Inputs) (place : ℕ) (part : Inputs) → slice_get parts place ≡ Some part → IsPartAt cmp v parts place → (x : Choice) × IsChosen cmp v x (Ok (picked_in part))
part_is cmp v parts place part h at =
    let level = at.are_parts.1 in
    let are = among cmp v level at.are_parts.0 (map picked_in parts) at.are_parts.2 in
    let there = in_all cmp v level (map picked_in parts) are (picked_in part) (slice_in (map picked_in parts) place (picked_in part) (part_at parts place part h)) in
    let k = place_of are.all (picked_in part) (is_there are.all (picked_in part) there) in
    let found : part_of_number (suc k.0) are.all ≡ Ok (picked_in part) = ap (λ (o : Option PickedInputs). ok_or o (fault NoInput)) k.1 in
    (Part level (suc k.0), (Ok are.all, (are.are, sym found)))
