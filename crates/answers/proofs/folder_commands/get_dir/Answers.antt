use Rattle.std.proofs.Common.{Ok, Err, option_map, arith}
use Rattle.checks.specs.TestedTables.{IsTested}
use Rattle.folder.proofs.LoadingLemmas.{loaded_before}
use Rattle.folder.proofs.OpeningLemmas.{hands_on}
use Rattle.folder.proofs.ReportLemmas.{reads_then, reports_handed, reports_then}
use Rattle.folder.proofs.ToldLemmas.{opened_in, told_still}
use Rattle.folder.specs.Levels.{file_numbers}
use Rattle.folder.specs.OpenAnswer.{IsOpened}
use Rattle.folder.specs.Orders.{order_cmp}
use Rattle.folder.specs.ReadsAs.{IsFileIn}
use Rattle.answers.proofs.FolderLineLemmas.{not_opened, opened_answer, opened_as, refused_answer, tested_answer}
use Rattle.answers.specs.FolderLines.{IsAnswerOfFolder, got_answer}
use Rattle.answers.proofs.folder_commands.get_dir.Goals as goal

pub returns-in_err-opened-clause-answer : goal.returns-in_err-opened-clause-answer
returns-in_err-opened-clause-answer g c files told =
    let tells = g.F.Folder.tells c.args.folder.now in
    let failed = g.F.Folder.failed in
    let e = c.in_err-opened.field-0.0 in
    let got = got_answer c.args.form c.args.key.now c.args.at in
    hands_on (option_map (λ v. v.items)) (failed c.args.folder.now) (failed c.args.folder.now) (failed c.open.new.folder) c.from_residual.result e (IsOpened tells) (IsAnswerOfFolder (IsFileIn files) got)
    c.from_residual.ensures.1 (omega arith) c.open.ensures.device.later c.in_err-opened.ensures.answer (λ h. not_opened (IsFileIn files) got e (opened_in tells files (Err e) told h))

pub returns-in_err-opened-clause-device : goal.returns-in_err-opened-clause-device
returns-in_err-opened-clause-device g c = reports_handed c.from_residual.result c.in_err-opened.was c.open.ensures.device c.from_residual.ensures.1

pub returns-in_err-test_by_order-clause-answer : goal.returns-in_err-test_by_order-clause-answer
returns-in_err-test_by_order-clause-answer g c files told =
    let tells = g.F.Folder.tells in
    let failed = g.F.Folder.failed in
    let order = c.in_ok-opened.opened.order in
    let v = c.in_ok-opened.opened.version in
    let e = c.in_err-test_by_order.field-0.0 in
    let got = got_answer c.args.form c.args.key.now c.args.at in
    let opened = opened_in (tells c.args.folder.now) files (Ok (order, v)) told c.in_ok-opened.ensures.answer in
    hands_on (option_map (λ v. v.items)) (failed c.args.folder.now) (failed c.open.new.folder) (failed c.test_by_order.new.folder) c.from_residual-in_err-test_by_order.result e (IsTested (IsFileIn files) (order_cmp order) v)
    (IsAnswerOfFolder (IsFileIn files) got) c.from_residual-in_err-test_by_order.ensures.1 c.open.ensures.device.later c.test_by_order.ensures.device.later
    (c.in_err-test_by_order.ensures.answer files (told_still (tells c.args.folder.now) (tells c.open.new.folder) files c.open.ensures.reads.same told))
    (λ h. opened_as (IsFileIn files) got order v opened (Err e) (refused_answer (IsFileIn files) (order_cmp order) v (got v) e h))

pub returns-in_err-test_by_order-clause-device : goal.returns-in_err-test_by_order-clause-device
returns-in_err-test_by_order-clause-device g c =
    reports_then c.in_ok-opened.was c.open.ensures.device (reports_handed c.from_residual-in_err-test_by_order.result c.in_err-test_by_order.was c.test_by_order.ensures.device c.from_residual-in_err-test_by_order.ensures.1)

pub returns-in_err-test_by_order-clause-reads : goal.returns-in_err-test_by_order-clause-reads
returns-in_err-test_by_order-clause-reads g c = reads_then c.open.ensures.reads c.test_by_order.ensures.reads

pub returns-clause-answer : goal.returns-clause-answer
returns-clause-answer g c files told =
    let tells = g.F.Folder.tells in
    let failed = g.F.Folder.failed in
    let order = c.in_ok-opened.opened.order in
    let v = c.in_ok-opened.opened.version in
    let tested = c.test_by_order.new.folder in
    let got = got_answer c.args.form c.args.key.now c.args.at in
    let first = told_still (tells c.args.folder.now) (tells c.open.new.folder) files c.open.ensures.reads.same told in
    let still = told_still (tells c.open.new.folder) (tells tested) files c.test_by_order.ensures.reads.same first in
    opened_answer (option_map (λ v. v.items)) (failed c.args.folder.now) (failed c.open.new.folder) (failed c.unverified_value.new.folder) c.unverified_value.result files c.open.ensures.device.later
    (omega (arith, c.test_by_order.ensures.device.later, c.unverified_value.ensures.device.later))
    order v got (opened_in (tells c.args.folder.now) files (Ok (order, v)) told c.in_ok-opened.ensures.answer)
    (tested_answer (option_map (λ v. v.items)) (failed c.open.new.folder) (failed tested) (failed c.unverified_value.new.folder) c.unverified_value.result files c.test_by_order.ensures.device.later c.unverified_value.ensures.device.later
    (order_cmp order) v (got v) _ (c.in_ok-test_by_order.ensures.answer files first)
    (λ loaded tables held sound. c.unverified_value.ensures.lawful files loaded tables still (loaded_before (tells tested) (IsFileIn files) (file_numbers (order_cmp order) v) (Ok loaded) still held) sound))

pub returns-clause-device : goal.returns-clause-device
returns-clause-device g c = reports_then c.in_ok-opened.was c.open.ensures.device (reports_then c.in_ok-test_by_order.was c.test_by_order.ensures.device c.unverified_value.ensures.device)

pub returns-clause-reads : goal.returns-clause-reads
returns-clause-reads g c = reads_then c.open.ensures.reads (reads_then c.test_by_order.ensures.reads c.unverified_value.ensures.reads)
