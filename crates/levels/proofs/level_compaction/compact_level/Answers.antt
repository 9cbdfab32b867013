use Rattle.std.proofs.Common.{arith, inl}
use Rattle.checks.specs.TestedTables.{IsTested}
use Rattle.folder.proofs.OpeningLemmas.{answers_since, hands_on}
use Rattle.folder.proofs.ReportLemmas.{reports_handed, reports_then}
use Rattle.folder.specs.Manifest.{order_name}
use Rattle.folder.specs.Orders.{order_cmp, order_short_keys}
use Rattle.folder.specs.ReadsAs.{IsFileIn, ReadsAs}
use Rattle.store.specs.Step.{step_in}
use Rattle.store.proofs.Flow.{no_value, told_still, told_themselves}
use Rattle.store.proofs.StepPart.{has_passed}
use Rattle.levels.specs.LevelMade.{IsLevelStep}
use Rattle.levels.specs.WholeAnswer.{AreLevelParts, IsWholeCompacted}
use Rattle.levels.specs.declared.selection.Selection.TheVariants.{Whole}
use Rattle.levels.proofs.Since.{whole_left, whole_refused, whole_run_is, whole_run_since, whole_step_is}
use Rattle.levels.proofs.level_compaction.compact_level.Goals as goal

-- ---- the test is refused

pub returns-in_err-test_by_order-clause-answer : goal.returns-in_err-test_by_order-clause-answer
returns-in_err-test_by_order-clause-answer g c files told current opened =
    let o = c.args.opened.now in
    let cmp = order_cmp o.order in
    let keys = order_short_keys o.order in
    let failed = g.F.Folder.failed in
    let e = c.in_err-test_by_order.field-0.0 in
    hands_on step_in (failed c.args.folder.now) (failed c.args.folder.now) (failed c.test_by_order.new.folder) c.from_residual.result e (IsTested (IsFileIn files) cmp o.version)
    (IsWholeCompacted cmp keys files o.version (AreLevelParts cmp o.version c.args.level) c.args.settings.now)
    c.from_residual.ensures.1 (omega arith) c.test_by_order.ensures.device.later (c.in_err-test_by_order.ensures.answer files told)
    (λ h. whole_refused cmp keys (IsFileIn files) files o.version (AreLevelParts cmp o.version c.args.level) c.args.settings.now e (told_themselves files) h)

pub returns-in_err-test_by_order-clause-left : goal.returns-in_err-test_by_order-clause-left
returns-in_err-test_by_order-clause-left g c files told current opened =
    inl (record { calls = c.test_by_order.ensures.reads.calls; same = c.test_by_order.ensures.reads.same; refused = no_value c.from_residual.result _ c.from_residual.ensures.1 })

pub returns-in_err-test_by_order-clause-runs : goal.returns-in_err-test_by_order-clause-runs
returns-in_err-test_by_order-clause-runs g c =
    inl (record { calls = c.test_by_order.ensures.reads.calls; same = c.test_by_order.ensures.reads.same; refused = no_value c.from_residual.result _ c.from_residual.ensures.1 })

pub returns-in_err-test_by_order-clause-other : goal.returns-in_err-test_by_order-clause-other
returns-in_err-test_by_order-clause-other g c files told other = no_value c.from_residual.result _ c.from_residual.ensures.1

pub returns-in_err-test_by_order-clause-device : goal.returns-in_err-test_by_order-clause-device
returns-in_err-test_by_order-clause-device g c = reports_handed c.from_residual.result c.in_err-test_by_order.was c.test_by_order.ensures.device c.from_residual.ensures.1

-- ---- it passed

pub returns-clause-answer : goal.returns-clause-answer
returns-clause-answer g c files told current opened =
    let o = c.args.opened.now in
    let cmp = order_cmp o.order in
    let tells = g.F.Folder.tells in
    let failed = g.F.Folder.failed in
    let mid = c.test_by_order.new.folder in
    let passed = has_passed cmp (IsFileIn files) files o.version _ (told_themselves files) (c.in_ok-test_by_order.ensures.answer files told) in
    let now = told_still (tells c.args.folder.now) (tells mid) files c.test_by_order.ensures.reads.same told in
    let reads : ReadsAs cmp o.order o.version passed.loaded files = record { opened = opened; loaded = passed.held } in
    let whole = IsWholeCompacted cmp (order_short_keys o.order) files o.version (AreLevelParts cmp o.version c.args.level) c.args.settings.now in
    let step = IsLevelStep Whole o.order files o.version c.args.level c.args.settings.now in
    answers_since step_in (failed c.args.folder.now) (failed mid) (failed c.compact_selected.new.folder) c.compact_selected.result step whole (λ a h. whole_step_is o.order files o.version c.args.level c.args.settings.now a h) c.test_by_order.ensures.device.later c.compact_selected.ensures.device.later
    (c.compact_selected.ensures.answer files passed.loaded passed.tables now current reads passed.sound)

pub returns-clause-left : goal.returns-clause-left
returns-clause-left g c files told current opened =
    let o = c.args.opened.now in
    let cmp = order_cmp o.order in
    let calls = g.F.Folder.calls in
    let tells = g.F.Folder.tells in
    let mid = c.test_by_order.new.folder in
    let new = c.compact_selected.new.folder in
    let passed = has_passed cmp (IsFileIn files) files o.version _ (told_themselves files) (c.in_ok-test_by_order.ensures.answer files told) in
    let now = told_still (tells c.args.folder.now) (tells mid) files c.test_by_order.ensures.reads.same told in
    let reads : ReadsAs cmp o.order o.version passed.loaded files = record { opened = opened; loaded = passed.held } in
    whole_left o.order cmp (order_short_keys o.order) o.version files passed.loaded c.args.level c.args.settings.now (calls c.args.folder.now) (calls mid) (calls new) (tells c.args.folder.now) (tells mid) (tells new) c.compact_selected.result reads c.test_by_order.ensures.reads.calls c.test_by_order.ensures.reads.same
    (c.compact_selected.ensures.left files passed.loaded passed.tables now current reads passed.sound)

pub returns-clause-runs : goal.returns-clause-runs
returns-clause-runs g c =
    let o = c.args.opened.now in
    whole_run_since g.F.Folder c.args.folder.now c.test_by_order.new.folder c.test_by_order.ensures.reads.calls c.test_by_order.ensures.reads.same (order_name o.order) (order_cmp o.order) (order_short_keys o.order) o.version (AreLevelParts (order_cmp o.order) o.version c.args.level) c.args.settings.now c.compact_selected.new.folder c.compact_selected.result
    (whole_run_is g.F.Folder o.order o.version c.args.level c.args.settings.now c.test_by_order.new.folder c.compact_selected.new.folder c.compact_selected.result c.compact_selected.ensures.runs)

pub returns-clause-other : goal.returns-clause-other
returns-clause-other g c files told other =
    c.compact_selected.ensures.other files (told_still (g.F.Folder.tells c.args.folder.now) (g.F.Folder.tells c.test_by_order.new.folder) files c.test_by_order.ensures.reads.same told) other

pub returns-clause-device : goal.returns-clause-device
returns-clause-device g c = reports_then c.in_ok-test_by_order.was c.test_by_order.ensures.device c.compact_selected.ensures.device
