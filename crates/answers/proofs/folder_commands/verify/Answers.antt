use Rattle.std.proofs.Common.{◌≡◌, ℕ, List, Ok, Err, sym, subst, arith}
use Rattle.checks.specs.TestedTables.{IsTested}
use Rattle.checks.specs.declared.version_totals.VersionTotals.{VersionTotals}
use Rattle.folder.proofs.OpeningLemmas.{answers_alone, hands_on}
use Rattle.folder.proofs.ReportLemmas.{reads_then, reports_after, reports_handed, reports_then}
use Rattle.folder.proofs.ToldLemmas.{opened_in, told_still}
use Rattle.folder.specs.OpenAnswer.{IsOpened}
use Rattle.folder.specs.Orders.{order_cmp}
use Rattle.folder.specs.ReadsAs.{IsFileIn}
use Rattle.answers.proofs.FolderLineLemmas.{answer_device, answer_holds, answer_of_tested, not_opened, opened_as, refused_answer}
use Rattle.answers.specs.FolderLines.{IsAnswerOfFolder, IsAnswerOfVersion, lawful_line, verified_line}
use Rattle.answers.proofs.folder_commands.verify.Goals as goal

pub returns-in_err-opened-clause-answer : goal.returns-in_err-opened-clause-answer
returns-in_err-opened-clause-answer g c files told =
    let tells = g.F.Folder.tells c.args.folder.now in
    let failed = g.F.Folder.failed in
    let e = c.in_err-opened.field-0.0 in
    hands_on (λ v. v.items) (failed c.args.folder.now) (failed c.args.folder.now) (failed c.open.new.folder) c.from_residual.result e (IsOpened tells) (IsAnswerOfFolder (IsFileIn files) (λ _. verified_line))
    c.from_residual.ensures.1 (omega arith) c.open.ensures.device.later c.in_err-opened.ensures.answer (λ h. not_opened (IsFileIn files) (λ _. verified_line) e (opened_in tells files (Err e) told h))

pub returns-in_err-opened-clause-device : goal.returns-in_err-opened-clause-device
returns-in_err-opened-clause-device g c = reports_handed c.from_residual.result c.in_err-opened.was c.open.ensures.device c.from_residual.ensures.1

pub returns-in_err-tested-clause-answer : goal.returns-in_err-tested-clause-answer
returns-in_err-tested-clause-answer g c files told =
    let tells = g.F.Folder.tells in
    let failed = g.F.Folder.failed in
    let order = c.in_ok-opened.opened.order in
    let v = c.in_ok-opened.opened.version in
    let e = c.in_err-tested.field-0.0 in
    let opened = opened_in (tells c.args.folder.now) files (Ok (order, v)) told c.in_ok-opened.ensures.answer in
    hands_on (λ v. v.items) (failed c.args.folder.now) (failed c.open.new.folder) (failed c.test_by_order.new.folder) c.from_residual-in_err-tested.result e (IsTested (IsFileIn files) (order_cmp order) v)
    (IsAnswerOfFolder (IsFileIn files) (λ _. verified_line)) c.from_residual-in_err-tested.ensures.1 c.open.ensures.device.later c.test_by_order.ensures.device.later
    (c.in_err-tested.ensures.answer files (told_still (tells c.args.folder.now) (tells c.open.new.folder) files c.open.ensures.reads.same told))
    (λ h. opened_as (IsFileIn files) (λ _. verified_line) order v opened (Err e) (refused_answer (IsFileIn files) (order_cmp order) v verified_line e h))

pub returns-in_err-tested-clause-device : goal.returns-in_err-tested-clause-device
returns-in_err-tested-clause-device g c =
    reports_then c.in_ok-opened.was c.open.ensures.device (reports_handed c.from_residual-in_err-tested.result c.in_err-tested.was c.test_by_order.ensures.device c.from_residual-in_err-tested.ensures.1)

pub returns-in_err-tested-clause-reads : goal.returns-in_err-tested-clause-reads
returns-in_err-tested-clause-reads g c = reads_then c.open.ensures.reads c.test_by_order.ensures.reads

pub returns-clause-answer : goal.returns-clause-answer
returns-clause-answer g c files told =
    let tells = g.F.Folder.tells in
    let failed = g.F.Folder.failed in
    let order = c.in_ok-opened.opened.order in
    let v = c.in_ok-opened.opened.version in
    let t = c.in_ok-tested.tested in
    let line : List ℕ = lawful_line t.files t.entries in
    let opened = opened_in (tells c.args.folder.now) files (Ok (order, v)) told c.in_ok-opened.ensures.answer in
    let tested = c.in_ok-tested.ensures.answer files (told_still (tells c.args.folder.now) (tells c.open.new.folder) files c.open.ensures.reads.same told) in
    answers_alone (λ v. v.items) (failed c.args.folder.now) (failed c.test_by_order.new.folder) c.lawful_line.result (λ a. a ≡ Ok line) (IsAnswerOfFolder (IsFileIn files) (λ _. verified_line))
    (λ a h. opened_as (IsFileIn files) (λ _. verified_line) order v opened a
    (subst (IsAnswerOfVersion (IsFileIn files) (order_cmp order) v verified_line) (sym h) (answer_of_tested (IsFileIn files) (order_cmp order) v (λ (x : VersionTotals). lawful_line x.files x.entries) t tested)))
    (answer_holds (λ v. v.items) c.lawful_line.result line c.lawful_line.ensures)

pub returns-clause-device : goal.returns-clause-device
returns-clause-device g c =
    let failed = g.F.Folder.failed in
    let t = c.in_ok-tested.tested in
    reports_then c.in_ok-opened.was c.open.ensures.device (reports_after c.lawful_line.result c.in_ok-tested.was c.test_by_order.ensures.device
    (answer_device (λ v. v.items) (failed c.open.new.folder) (failed c.test_by_order.new.folder) c.lawful_line.result (lawful_line t.files t.entries) c.lawful_line.ensures))

pub returns-clause-reads : goal.returns-clause-reads
returns-clause-reads g c = reads_then c.open.ensures.reads c.test_by_order.ensures.reads
