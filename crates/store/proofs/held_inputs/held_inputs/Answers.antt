use Rattle.std.proofs.Common.{◌≡◌, List, ℕ, map, Ok, Err, refl, sym, ap, subst, ◌∙◌}
use Rattle.std.proofs.lemmas.Result.{IfOk-weaker}
use Rattle.folder.proofs.Binds.{ok_is}
use Rattle.folder.specs.OpenAnswer.{FolderAnswers}
use Rattle.install.specs.Install.{table_bytes_of}
use Rattle.folder.proofs.OpeningLemmas.{refuses}
use Rattle.folder.proofs.ReportLemmas.{reports_steady}
use Rattle.pick.specs.PickedInputs.{picked_in}
use Rattle.pick.specs.declared.picked_inputs.InputFile.{InputFile}
use Rattle.checks.specs.HeldBytes.{held_bytes}
use Rattle.checks.specs.HeldTables.{IsCheckedAnswer, held_numbers}
use Rattle.reads.specs.Tables.{NumberedContents}
use Rattle.store.specs.InputsCompaction.{input_numbers}
use Rattle.store.proofs.Flow.{no_refusal}
use Rattle.store.proofs.HeldInputs.{numbers_held, told_bytes}
use Rattle.store.proofs.NoDevice.{handed_other}
use Rattle.store.proofs.held_inputs.held_inputs.Goals as goal

pub returns-in_err-numbers-clause-answer : goal.returns-in_err-numbers-clause-answer
returns-in_err-numbers-clause-answer g c files told are =
    let failed = g.F.Folder.failed in
    let e = c.in_err-numbers.field-0.0 in
    let numbers = input_numbers c.deref.result.now in
    refuses {Z = List ℕ} (λ tables. tables) (failed c.args.folder.now) (failed c.args.folder.now) c.from_residual.result e (λ a. Ok numbers ≡ a)
    (IsCheckedAnswer g.C.Comparator.cmp files (input_numbers c.args.picked.now.files.items))
    c.from_residual.ensures.1 c.in_err-numbers.ensures (λ h. absurd (no_refusal numbers e h))

pub returns-in_err-numbers-clause-device : goal.returns-in_err-numbers-clause-device
returns-in_err-numbers-clause-device g c =
    let e = c.in_err-numbers.field-0.0 in
    let numbers = input_numbers c.deref.result.now in
    reports_steady c.from_residual.result refl
    (handed_other c.from_residual.result e (Ok numbers ≡ Err e) c.from_residual.ensures.1 (λ h. absurd (no_refusal numbers e h)) c.in_err-numbers.ensures)

pub returns-clause-answer : goal.returns-clause-answer
returns-clause-answer g c files told are =
    let failed = g.F.Folder.failed in
    let numbers : c.deref-2.result.now ≡ input_numbers c.args.picked.now.files.items = c.deref-2.ensures.value ∙ sym (ok_is _ _ c.in_ok-numbers.ensures) ∙ ap input_numbers c.deref.ensures.value in
    subst (λ (ns : List ℕ). FolderAnswers (λ tables. tables) (failed c.args.folder.now) (failed c.checked_tables.new.folder) c.checked_tables.result (IsCheckedAnswer g.C.Comparator.cmp files ns)) numbers
    (c.checked_tables.ensures.answer files told are)

pub returns-clause-bytes : goal.returns-clause-bytes
returns-clause-bytes g c =
    let p = picked_in c.args.picked.now in
    let numbers : c.deref-2.result.now ≡ input_numbers p.files = c.deref-2.ensures.value ∙ sym (ok_is _ _ c.in_ok-numbers.ensures) ∙ ap input_numbers c.deref.ensures.value in
    IfOk-weaker c.checked_tables.result (λ (ts : List NumberedContents). held_numbers ts ≡ c.deref-2.result.now)
    (λ (ts : List NumberedContents). map (λ (t : ℕ × List ℕ). t.1) (held_bytes ts) ≡ map (λ (i : InputFile). table_bytes_of (held_bytes ts) i.meta.number) p.files)
    (λ ts h. c.chosen_in_order.ensures c.args.version.now c.requires.chosen.0 p (held_bytes ts) c.version_is_state.ensures.apart c.requires.chosen.1 (numbers_held ts ∙ h ∙ numbers)) c.checked_tables.ensures.numbers

pub returns-clause-read : goal.returns-clause-read
returns-clause-read g c are =
    let cmp = g.C.Comparator.cmp in
    let tells = g.F.Folder.tells c.args.folder.now in
    let p = picked_in c.args.picked.now in
    let numbers : c.deref-2.result.now ≡ input_numbers p.files = c.deref-2.ensures.value ∙ sym (ok_is _ _ c.in_ok-numbers.ensures) ∙ ap input_numbers c.deref.ensures.value in
    told_bytes cmp tells (input_numbers p.files) c.deref-2.result.now numbers c.checked_tables.result c.checked_tables.ensures.numbers (c.checked_tables.ensures.held are)
