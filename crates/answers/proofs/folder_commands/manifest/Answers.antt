use Rattle.std.proofs.Common.{◌≡◌, Ok, Err, refl, arith}
use Rattle.folder.proofs.OpeningLemmas.{answers_alone, hands_on}
use Rattle.folder.proofs.ReportLemmas.{reports_after, reports_handed}
use Rattle.folder.specs.OpenAnswer.{IsOpened}
use Rattle.answers.proofs.FolderLineLemmas.{answer_device, answer_holds}
use Rattle.answers.specs.VersionAnswer.{IsShown, version_lines}
use Rattle.answers.proofs.folder_commands.manifest.Goals as goal

pub returns-in_err-opened-clause-answer : goal.returns-in_err-opened-clause-answer
returns-in_err-opened-clause-answer g c =
    let tells = g.F.Folder.tells c.args.folder.now in
    let failed = g.F.Folder.failed in
    let e = c.in_err-opened.field-0.0 in
    hands_on (λ v. v.items) (failed c.args.folder.now) (failed c.args.folder.now) (failed c.open.new.folder) c.from_residual.result e (IsOpened tells) (IsShown c.args.spelling tells)
    c.from_residual.ensures.1 (omega arith) c.open.ensures.device.later c.in_err-opened.ensures.answer (λ first. (Err e, (first, refl)))

pub returns-clause-answer : goal.returns-clause-answer
returns-clause-answer g c =
    let tells = g.F.Folder.tells c.args.folder.now in
    let failed = g.F.Folder.failed in
    let lines = version_lines c.args.spelling c.in_ok-opened.opened.order c.in_ok-opened.opened.version in
    answers_alone (λ v. v.items) (failed c.args.folder.now) (failed c.open.new.folder) c.manifest_lines.result (λ a. a ≡ Ok lines) (IsShown c.args.spelling tells)
    (λ a h. (Ok (c.in_ok-opened.opened.order, c.in_ok-opened.opened.version), (c.in_ok-opened.ensures.answer, h))) (answer_holds (λ v. v.items) c.manifest_lines.result lines c.manifest_lines.ensures)

pub returns-in_err-opened-clause-device : goal.returns-in_err-opened-clause-device
returns-in_err-opened-clause-device g c = reports_handed c.from_residual.result c.in_err-opened.was c.open.ensures.device c.from_residual.ensures.1

pub returns-clause-device : goal.returns-clause-device
returns-clause-device g c =
    let failed = g.F.Folder.failed in
    reports_after c.manifest_lines.result c.in_ok-opened.was c.open.ensures.device
    (answer_device (λ v. v.items) (failed c.args.folder.now) (failed c.open.new.folder) c.manifest_lines.result (version_lines c.args.spelling c.in_ok-opened.opened.order c.in_ok-opened.opened.version) c.manifest_lines.ensures)
