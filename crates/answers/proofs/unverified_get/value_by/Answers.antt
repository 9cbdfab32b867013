use Rattle.std.proofs.Common.{◌≡◌, List, ℕ, Ok, Option, ap, subst, ◌∙◌}
use Rattle.std.specs.Option.{option_map}
use Rattle.table.specs.Answers.{EqualOrMemory}
use Rattle.checks.proofs.LawfulLemmas.{sound_checked, sound_lawful}
use Rattle.folder.proofs.ReportLemmas.{reports_after, reports_handed}
use Rattle.folder.specs.Levels.{file_numbers}
use Rattle.checks.specs.Gets.{get_of}
use Rattle.answers.proofs.FolderLineLemmas.{answer_device, value_refused, value_told}
use Rattle.answers.proofs.HeldTables.{hold_tables}
use Rattle.answers.specs.FolderLines.{got_answer}
use Rattle.answers.specs.ValueForms.{value_answer}
use Rattle.answers.proofs.unverified_get.value_by.Goals as goal

pub returns-in_err-value-clause-lawful : goal.returns-in_err-value-clause-lawful
returns-in_err-value-clause-lawful g c files loaded tables all there sound =
    let cmp = g.C.Comparator.cmp in
    let v = c.args.version.now in
    let tells = g.F.Folder.tells c.args.folder.now in
    let failed = g.F.Folder.failed in
    let key = c.args.key.now in
    let held = hold_tables tells files all cmp (file_numbers cmp v) loaded tables there (sound_checked cmp v loaded tables sound) in
    value_refused (option_map (λ v. v.items)) (failed c.args.folder.now) (failed c.get_unverified.new.folder) c.from_residual.result c.in_err-value.field-0.0 (get_of v tables key c.sequence_of-sequence.result) (got_answer c.args.form key c.args.at v tables)
    c.from_residual.ensures.1 c.get_unverified.ensures.device.later (c.in_err-value.ensures.lawful tables held (sound_lawful cmp v loaded tables sound))

pub returns-clause-lawful : goal.returns-clause-lawful
returns-clause-lawful g c files loaded tables all there sound =
    let cmp = g.C.Comparator.cmp in
    let v = c.args.version.now in
    let tells = g.F.Folder.tells c.args.folder.now in
    let failed = g.F.Folder.failed in
    let key = c.args.key.now in
    let held = hold_tables tells files all cmp (file_numbers cmp v) loaded tables there (sound_checked cmp v loaded tables sound) in
    let got = c.in_ok-value.ensures.lawful tables held (sound_lawful cmp v loaded tables sound) in
    let value : option_map (λ b. b.items) c.in_ok-value.value ≡ get_of v tables key c.sequence_of-sequence.result = cc in
    let told = value ∙ ap (get_of v tables key) c.sequence_of-sequence.ensures in
    value_told (option_map (λ v. v.items)) (failed c.args.folder.now) (failed c.get_unverified.new.folder) c.value_answer.result (got_answer c.args.form key c.args.at v tables)
    (subst (λ (x : Option (List ℕ)). EqualOrMemory (option_map (λ v. v.items)) c.value_answer.result (Ok (value_answer c.args.form x))) told c.value_answer.ensures)

pub returns-in_err-value-clause-device : goal.returns-in_err-value-clause-device
returns-in_err-value-clause-device g c = reports_handed c.from_residual.result c.in_err-value.was c.get_unverified.ensures.device c.from_residual.ensures.1

pub returns-clause-device : goal.returns-clause-device
returns-clause-device g c =
    let failed = g.F.Folder.failed in
    reports_after c.value_answer.result c.in_ok-value.was c.get_unverified.ensures.device (answer_device (option_map (λ v. v.items)) (failed c.args.folder.now) (failed c.get_unverified.new.folder) c.value_answer.result _ c.value_answer.ensures)
