-- Outputs that are compared with inputs.
use Rattle.std.proofs.Common.{◌≡◌, ◌≢◌, ℕ, suc, List, [], ◌∷◌, length, map, Ok, Err, refl, sym, ap, subst, ◌∙◌}
use Rattle.std.specs.Global.{Vec}
use Rattle.edit.proofs.Binds.{failed}
use Rattle.edit.specs.fault.Fault.{Fault}
use Rattle.edit.specs.fault.FaultName.TheVariants.{Device, Lawless}
use Rattle.edit.specs.Comparator.{KeyOrder}
use Rattle.keep.specs.TableContents.{Contents}
use Rattle.install.specs.Install.{tables_in}
use Rattle.pick.specs.PickedInputs.{PickedInputs}
use Rattle.pick.specs.declared.picked_inputs.InputFile.{InputFile}
use Rattle.keep.specs.declared.snapshots.Snapshots.{Snapshots}
use Rattle.store.specs.InputsCompaction.{input_numbers, input_tables}
use Rattle.store.proofs.NoDevice.{tables_other, test_other}
use Rattle.adoption.specs.Adoption.{IsInputsCompared, compared_request}

rest_of : List ℕ → List ℕ
rest_of [] = []
rest_of (n ∷ numbers) = numbers

-- a table was read of each file
pub lengths_read : (tables : List (ℕ × Vec ℕ)) (inputs : List InputFile) → map (λ (t : ℕ × List ℕ). t.0) (tables_in tables) ≡ input_numbers inputs → length tables ≡ length inputs
unfolding rest_of
lengths_read [] [] h = refl
lengths_read [] (i ∷ inputs) h = absurd (cc h)
lengths_read (t ∷ tables) [] h = absurd (cc h)
lengths_read (t ∷ tables) (i ∷ inputs) h = ap suc (lengths_read tables inputs (ap rest_of h))

-- the same tables of the same files
pub same_tables : (cmp : KeyOrder) (files lent : List InputFile) (tables slice : List (ℕ × Vec ℕ)) → lent ≡ files → slice ≡ tables → input_tables cmp files (tables_in tables) ≡ input_tables cmp lent (tables_in slice)
same_tables cmp files lent tables slice is same =
    ap (λ (fs : List InputFile). input_tables cmp fs (tables_in tables)) (sym is) ∙ ap (λ (ts : List (ℕ × Vec ℕ)). input_tables cmp lent (tables_in ts)) (sym same)

same_fault : {Y : Type 0} (e d : Fault) → failed {A = Y} e ≡ failed d → e ≡ d
same_fault e d h = cc

-- no refusal of a comparison is Device
pub compared_other : (cmp : KeyOrder) (p : PickedInputs) (s : Snapshots) (last : ℕ) (outputs : List Contents) (loaded : List (ℕ × List ℕ)) (e : Fault) → IsInputsCompared cmp p s last outputs loaded (Err e) → e.name ≢ Device
compared_other cmp p s last outputs loaded e (Err d, (h, is)) = subst (λ (f : Fault). f.name ≢ Device) (sym (same_fault {Y = Unit {0}} e d is)) (tables_other cmp p.files loaded d h)
compared_other cmp p s last outputs loaded e (Ok inputs, (h, (Err d, (k, is)))) = subst (λ (f : Fault). f.name ≢ Device) (sym (same_fault {Y = Unit {0}} e d is)) (test_other cmp (compared_request p s last inputs) d k)
compared_other cmp p s last outputs loaded e (Ok inputs, (h, (Ok passed, (k, (is, not))))) = λ same. let both : Lawless ≡ Device = sym (ap (λ (f : Fault). f.name) is) ∙ same in cc both
