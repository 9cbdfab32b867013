-- The part of a number, as the code finds it.
use Rattle.std.proofs.Common.{◌≡◌, ℕ, zero, suc, ◌-◌, ◌<◌, ◌≤◌, List, [], map, length, get_or, Option, Ok, refl, ap, subst, ◌∙◌, arith}
use Rattle.std.specs.Option.{ok_or, option_map}
use Rattle.std.proofs.lemmas.Option.{slice_get-map, slice_get_read}
use Rattle.folder.specs.Answers.{fault}
use Rattle.folder.specs.fault.FaultName.TheVariants.{NoInput}
use Rattle.pick.specs.PickedInputs.{PickedInputs, picked_in}
use Rattle.pick.specs.declared.picked_inputs.Inputs.{Inputs}
use Rattle.store.specs.Choice.{part_of_number}

pub numbered_at : (parts : List Inputs) (number : ℕ) (x : Inputs) → 0 < number → number ≤ length parts → x ≡ get_or parts (number - 1) x → part_of_number number (map picked_in parts) ≡ Ok (picked_in x)
numbered_at parts zero x some le is = absurd (omega (arith, some))
numbered_at parts (suc k) x some le is =
    let one : suc k - 1 ≡ k = omega (arith) in
    let at = slice_get_read parts (length parts) k x refl (omega (arith, le)) (subst (λ (n : ℕ). x ≡ get_or parts n x) one is) in
    ap (λ (o : Option PickedInputs). ok_or o (fault NoInput)) (slice_get-map picked_in parts k ∙ ap (option_map picked_in) at)
