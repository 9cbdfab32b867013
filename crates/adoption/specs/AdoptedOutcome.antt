-- An outcome that was adopted.
use Rattle.std.specs.Prelude.{◌≡◌, ℕ, List, map}
use Rattle.std.specs.Prelude.{Ok}
use Rattle.edit.specs.Comparator.{KeyOrder}
use Rattle.edit.specs.Edit.{Edit, IsEdit}
use Rattle.edit.specs.Version.{IsState, State}
use Rattle.store.specs.InputsCompaction.{input_numbers}
use Rattle.adoption.specs.Adoption.{adopted, Adoption, IsAdoption}

-- An outcome was adopted: its edit is adopted for this version, its bytes read as that edit, and it
-- has a table for each output. The version's levels are from 0 to 6.
pub record IsAdopted (cmp : KeyOrder) (v : State) (given : Adoption × List (ℕ × List ℕ))
    : Type 0 where
  pub edit : Edit
  pub adoption : IsAdoption cmp v edit (Ok given.0)
  pub read : IsEdit given.0.edit (adopted v edit)
  pub numbers : map (λ (t : ℕ × List ℕ). t.0) given.1 ≡ input_numbers given.0.outputs
  pub state : IsState v.pointers v.files
