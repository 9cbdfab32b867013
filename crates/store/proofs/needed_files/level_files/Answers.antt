use Rattle.std.proofs.Common.{◌≡◌, ◌++◌, ℕ, List, Result, Ok, Err, codes, refl, sym, ap, ◌∙◌, arith}
use Rattle.std.specs.Global.{Vec}
use Rattle.std.specs.Prelude.{string_bytes}
use Rattle.folder.proofs.Binds.{ok_is}
use Rattle.folder.specs.fault.Fault.{Fault}
use Rattle.folder.proofs.OpeningLemmas.{hands_on, refuses}
use Rattle.folder.proofs.ReportLemmas.{reports_after, reports_handed, reports_steady}
use Rattle.folder.specs.Names.{current_text}
use Rattle.pick.specs.PickedInputs.{PickedInputs, picked_in}
use Rattle.pick.specs.declared.picked_inputs.InputFile.{InputFile}
use Rattle.store.specs.FilesToCompact.{AreFilesToCompact, names_there}
use Rattle.store.specs.InputsCompaction.{IsChoiceAnswer, input_numbers}
use Rattle.store.specs.declared.choice.Choice.TheVariants.{Picked}
use Rattle.store.proofs.Flow.{first_passed, first_refused, no_refusal}
use Rattle.store.specs.NameLines.{lines_after}
use Rattle.store.proofs.NamesThere.{after_opened, all_lines}
use Rattle.store.proofs.NoDevice.{handed_other}
use Rattle.store.proofs.PartRefusals.{choice_other}
use Rattle.store.proofs.needed_files.level_files.Goals as goal

pub returns-in_err-picked-clause-answer : goal.returns-in_err-picked-clause-answer
returns-in_err-picked-clause-answer g c files told =
    let cmp = g.C.Comparator.cmp in
    let o = c.args.opened.now in
    let failed = g.F.Folder.failed in
    let e = c.in_err-picked.field-0.0 in
    let last = λ (p : PickedInputs) (a : Result (List ℕ) Fault). a ≡ all_lines files o.manifest (input_numbers p.files) in
    refuses (λ v. v.items) (failed c.args.folder.now) (failed c.args.folder.now) c.from_residual.result e (IsChoiceAnswer cmp o.version (Picked c.args.level)) (AreFilesToCompact cmp files o.version o.manifest c.args.level)
    c.from_residual.ensures.1 c.in_err-picked.ensures (λ h. first_refused (IsChoiceAnswer cmp o.version (Picked c.args.level)) last e h)

pub returns-in_err-picked-clause-device : goal.returns-in_err-picked-clause-device
returns-in_err-picked-clause-device g c =
    let cmp = g.C.Comparator.cmp in
    let e = c.in_err-picked.field-0.0 in
    let v = c.args.opened.now.version in
    let level = Picked c.args.level in
    let r = c.from_residual.result in
    reports_steady r refl (handed_other r e (IsChoiceAnswer cmp v level (Err e)) c.from_residual.ensures.1 (choice_other cmp v level e) c.in_err-picked.ensures)

pub returns-in_err-text-clause-answer : goal.returns-in_err-text-clause-answer
returns-in_err-text-clause-answer g c files told =
    let o = c.args.opened.now in
    let failed = g.F.Folder.failed in
    let e = c.in_err-text.field-0.0 in
    let front = codes "CURRENT\n" ++ current_text o.manifest in
    refuses {Z = List ℕ} (λ v. v.items) (failed c.args.folder.now) (failed c.args.folder.now) c.from_residual-in_err-text.result e (λ a. Ok front ≡ a) (AreFilesToCompact g.C.Comparator.cmp files o.version o.manifest c.args.level)
    c.from_residual-in_err-text.ensures.1 c.in_err-text.ensures (λ h. absurd (no_refusal front e h))

pub returns-in_err-text-clause-device : goal.returns-in_err-text-clause-device
returns-in_err-text-clause-device g c =
    let e = c.in_err-text.field-0.0 in
    let r = c.from_residual-in_err-text.result in
    let front = codes "CURRENT\n" ++ current_text c.args.opened.now.manifest in
    reports_steady r refl (handed_other r e (Ok front ≡ Err e) c.from_residual-in_err-text.ensures.1 (λ h. absurd (no_refusal front e h)) c.in_err-text.ensures)

pub returns-in_err-push_names-clause-answer : goal.returns-in_err-push_names-clause-answer
returns-in_err-push_names-clause-answer g c files told =
    let cmp = g.C.Comparator.cmp in
    let o = c.args.opened.now in
    let failed = g.F.Folder.failed in
    let e = c.in_err-push_names.field-0.0 in
    let p = picked_in c.in_ok-picked.picked in
    let last = λ (p : PickedInputs) (a : Result (List ℕ) Fault). a ≡ all_lines files o.manifest (input_numbers p.files) in
    let front : string_bytes c.in_ok-text.text ≡ codes "CURRENT\n" ++ current_text o.manifest = sym (ok_is _ _ c.in_ok-text.ensures) in
    let told_so : lines_after files (string_bytes c.in_ok-text.text) (input_numbers c.deref.result.now) ≡ all_lines files o.manifest (input_numbers p.files) =
    ap (λ (t : List ℕ). lines_after files t (input_numbers c.deref.result.now)) front ∙ ap (λ (fs : List InputFile). lines_after files (codes "CURRENT\n" ++ current_text o.manifest) (input_numbers fs)) c.deref.ensures.value
    ∙ after_opened o.manifest (names_there files (input_numbers p.files)) in
    hands_on (λ v. v.items) (failed c.args.folder.now) (failed c.args.folder.now) (failed c.push_names.new.folder) c.from_residual-in_err-push_names.result e
    (λ (a : Result (List ℕ) Fault). a ≡ lines_after files (string_bytes c.in_ok-text.text) (input_numbers c.deref.result.now)) (AreFilesToCompact cmp files o.version o.manifest c.args.level)
    c.from_residual-in_err-push_names.ensures.1 (omega arith) c.push_names.ensures.device.later (c.in_err-push_names.ensures.answer files told)
    (λ h. first_passed (IsChoiceAnswer cmp o.version (Picked c.args.level)) last p (Err e) c.in_ok-picked.ensures (h ∙ told_so))

pub returns-in_err-push_names-clause-device : goal.returns-in_err-push_names-clause-device
returns-in_err-push_names-clause-device g c = reports_handed c.from_residual-in_err-push_names.result c.in_err-push_names.was c.push_names.ensures.device c.from_residual-in_err-push_names.ensures.1

pub returns-clause-answer : goal.returns-clause-answer
returns-clause-answer g c files told =
    let cmp = g.C.Comparator.cmp in
    let o = c.args.opened.now in
    let p = picked_in c.in_ok-picked.picked in
    let a : Result (List ℕ) Fault = Ok c.into_bytes.result.items in
    let last = λ (p : PickedInputs) (a : Result (List ℕ) Fault). a ≡ all_lines files o.manifest (input_numbers p.files) in
    let front : string_bytes c.in_ok-text.text ≡ codes "CURRENT\n" ++ current_text o.manifest = sym (ok_is _ _ c.in_ok-text.ensures) in
    let told_so : lines_after files (string_bytes c.in_ok-text.text) (input_numbers c.deref.result.now) ≡ all_lines files o.manifest (input_numbers p.files) =
    ap (λ (t : List ℕ). lines_after files t (input_numbers c.deref.result.now)) front ∙ ap (λ (fs : List InputFile). lines_after files (codes "CURRENT\n" ++ current_text o.manifest) (input_numbers fs)) c.deref.ensures.value
    ∙ after_opened o.manifest (names_there files (input_numbers p.files)) in
    first_passed (IsChoiceAnswer cmp o.version (Picked c.args.level)) last p a c.in_ok-picked.ensures
    (ap (λ (x : Vec ℕ). Ok x.items) c.into_bytes.ensures.value ∙ (c.in_ok-push_names.ensures.answer files told ∙ told_so))

pub returns-clause-device : goal.returns-clause-device
returns-clause-device g c = reports_after _ c.in_ok-push_names.was c.push_names.ensures.device tt
