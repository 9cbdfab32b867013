use Rattle.std.proofs.Common.{ℕ, List, length, Ok, Err, sym, ap, subst, ◌∙◌, arith, refl}
use Rattle.std.specs.Global.{Vec}
use Rattle.folder.proofs.OpeningLemmas.{answers_alone, hands_on}
use Rattle.folder.proofs.ReportLemmas.{reports_after}
use Rattle.folder.specs.LoadedTables.{IsLoaded}
use Rattle.folder.specs.ReadsAs.{IsFileIn}
use Rattle.install.specs.Install.{tables_in}
use Rattle.pick.specs.PickedInputs.{picked_in}
use Rattle.pick.specs.declared.picked_inputs.InputFile.{InputFile}
use Rattle.store.specs.InputsCompaction.{input_numbers}
use Rattle.store.proofs.Flow.{loaded_in}
use Rattle.store.proofs.InputsApart.{numbers_loaded}
use Rattle.store.proofs.NoDevice.{never_failed}
use Rattle.adoption.specs.Adoption.{IsInputsCompared, IsOutputsCompared}
use Rattle.adoption.specs.AdoptionIn.{adoption_of}
use Rattle.adoption.proofs.ComparedOutputs.{compared_other, lengths_read}
use Rattle.adoption.proofs.kept_comparison.compare_outputs.Goals as goal

pub returns-in_err-loaded-clause-answer : goal.returns-in_err-loaded-clause-answer
returns-in_err-loaded-clause-answer g c files told =
    let failed = g.F.Folder.failed in
    let tells = g.F.Folder.tells c.args.folder.now in
    let e = c.in_err-loaded.field-0.0 in
    hands_on (λ u. u) (failed c.args.folder.now) (failed c.args.folder.now) (failed c.load_inputs.new.folder) c.from_residual.result e (IsLoaded tells (input_numbers c.deref.result.now))
    (IsOutputsCompared g.C.Comparator.cmp files (adoption_of c.args.given.now) c.args.snapshots c.args.outputs.now) c.from_residual.ensures.1 (omega arith) c.load_inputs.ensures.device.later c.in_err-loaded.ensures.answer
    (λ h. (Err e, (subst (λ (is : List InputFile). IsLoaded (IsFileIn files) (input_numbers is) (Err e)) c.deref.ensures.value (loaded_in tells files (input_numbers c.deref.result.now) (Err e) told h), refl)))

pub compare_loaded-requires-clause-lengths : goal.compare_loaded-requires-clause-lengths
compare_loaded-requires-clause-lengths g c κs within =
    let tells = g.F.Folder.tells c.args.folder.now in
    ap length c.deref-2.ensures.value
    ∙ (lengths_read c.in_ok-loaded.loaded.items c.deref.result.now (numbers_loaded tells (input_numbers c.deref.result.now) (tables_in c.in_ok-loaded.loaded.items) c.in_ok-loaded.ensures.answer)
    ∙ ap length c.deref.ensures.value)

pub returns-clause-answer : goal.returns-clause-answer
returns-clause-answer g c files told =
    let cmp = g.C.Comparator.cmp in
    let failed = g.F.Folder.failed in
    let tells = g.F.Folder.tells c.args.folder.now in
    let given = c.args.given.now in
    let tables = tables_in c.deref-2.result.now in
    let first = loaded_in tells files (input_numbers c.deref.result.now) (Ok (tables_in c.in_ok-loaded.loaded.items)) told c.in_ok-loaded.ensures.answer in
    let second = subst (λ (is : List InputFile). IsLoaded (IsFileIn files) (input_numbers is) (Ok (tables_in c.in_ok-loaded.loaded.items))) c.deref.ensures.value first in
    let held = subst (λ (ts : List (ℕ × Vec ℕ)). IsLoaded (IsFileIn files) (input_numbers given.picked.files.items) (Ok (tables_in ts))) (sym c.deref-2.ensures.value) second in
    answers_alone (λ u. u) (failed c.args.folder.now) (failed c.load_inputs.new.folder) c.compare_loaded.result (IsInputsCompared cmp (picked_in given.picked) c.args.snapshots given.last_sequence c.args.outputs.now tables)
    (IsOutputsCompared cmp files (adoption_of given) c.args.snapshots c.args.outputs.now) (λ a h. (Ok tables, (held, h))) c.compare_loaded.ensures

pub returns-clause-device : goal.returns-clause-device
returns-clause-device g c =
    let cmp = g.C.Comparator.cmp in
    let failed = g.F.Folder.failed in
    let given = c.args.given.now in
    let tables = tables_in c.deref-2.result.now in
    reports_after c.compare_loaded.result c.in_ok-loaded.was c.load_inputs.ensures.device
    (never_failed (λ u. u) (failed c.args.folder.now) (failed c.load_inputs.new.folder) c.compare_loaded.result (IsInputsCompared cmp (picked_in given.picked) c.args.snapshots given.last_sequence c.args.outputs.now tables)
    (compared_other cmp (picked_in given.picked) c.args.snapshots given.last_sequence c.args.outputs.now tables) c.compare_loaded.ensures)
