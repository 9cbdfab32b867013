use Rattle.std.proofs.Common.{Ok, Err, arith, inl, refl}
use Rattle.checks.proofs.HeldAnswers.{held_in, held_same}
use Rattle.folder.proofs.OpeningLemmas.{answers_since, hands_on, refuses}
use Rattle.folder.proofs.ReportLemmas.{reports_handed, reports_steady, reports_then}
use Rattle.folder.specs.ReadsAs.{ReadsAs}
use Rattle.store.specs.Answers.{IsCompacted}
use Rattle.store.specs.InputsCompaction.{IsInputsCompacted}
use Rattle.store.specs.OrderView.{order_by}
use Rattle.store.specs.Outcome.{IsTestAnswer}
use Rattle.store.specs.Runs.{IsAnswerForLevel}
use Rattle.store.specs.Step.{step_in}
use Rattle.store.proofs.Descending.{by_memory, same_tells}
use Rattle.store.proofs.Flow.{first_passed, first_refused, no_value, told_still}
use Rattle.store.proofs.NoDevice.{handed_memory}
use Rattle.store.proofs.RunPart.{answer_before, run_as, run_since}
use Rattle.store.proofs.StepPart.{passed_by, same_test, version_left}
use Rattle.store.proofs.folder_compaction.compact_version.Goals as goal

pub returns-in_err-most-clause-answer : goal.returns-in_err-most-clause-answer
returns-in_err-most-clause-answer g c files told current =
    let failed = g.F.Folder.failed in
    let e = c.in_err-most.field-0.0 in
    let answers = IsCompacted c.args.test g.C.Comparator.cmp g.C.Comparator.short_keys files c.args.opened.now.version c.args.level c.args.settings.now in
    refuses step_in (failed c.args.folder.now) (failed c.args.folder.now) c.from_residual.result e answers answers
    c.from_residual.ensures.1 (by_memory e (λ f. answers (Err f)) c.in_err-most.ensures.memory) (λ h. h)

pub returns-in_err-most-clause-left : goal.returns-in_err-most-clause-left
returns-in_err-most-clause-left g c files order told current named opened passes =
    inl (record { calls = refl; same = same_tells (g.F.Folder.tells c.args.folder.now); refused = no_value c.from_residual.result _ c.from_residual.ensures.1 })

pub returns-in_err-most-clause-runs : goal.returns-in_err-most-clause-runs
returns-in_err-most-clause-runs g c =
    inl (record { calls = refl; same = same_tells (g.F.Folder.tells c.args.folder.now); refused = no_value c.from_residual.result _ c.from_residual.ensures.1 })

pub returns-in_err-most-clause-other : goal.returns-in_err-most-clause-other
returns-in_err-most-clause-other g c files told other = no_value c.from_residual.result _ c.from_residual.ensures.1

pub returns-in_err-most-clause-device : goal.returns-in_err-most-clause-device
returns-in_err-most-clause-device g c =
    reports_steady c.from_residual.result refl (handed_memory c.from_residual.result c.in_err-most.field-0.0 c.from_residual.ensures.1 c.in_err-most.ensures.memory)

pub returns-in_err-held-clause-answer : goal.returns-in_err-held-clause-answer
returns-in_err-held-clause-answer g c files told current =
    let cmp = g.C.Comparator.cmp in
    let v = c.args.opened.now.version in
    let failed = g.F.Folder.failed in
    let e = c.in_err-held.field-0.0 in
    let all = λ (passed : Unit {0}). IsInputsCompacted cmp g.C.Comparator.short_keys files v c.args.level c.args.settings.now in
    hands_on step_in (failed c.args.folder.now) (failed c.args.folder.now) (failed c.tested_tables.new.folder) c.from_residual-in_err-held.result e (IsTestAnswer c.in_ok-most.most files cmp v)
    (IsCompacted c.args.test cmp g.C.Comparator.short_keys files v c.args.level c.args.settings.now)
    c.from_residual-in_err-held.ensures.1 (omega arith) c.tested_tables.ensures.device.later (c.in_err-held.ensures.answer files told)
    (λ h. first_refused (IsTestAnswer c.args.test files cmp v) all e (same_test c.in_ok-most.most c.args.test files cmp v (Err e) c.in_ok-most.ensures.asked h))

pub returns-in_err-held-clause-left : goal.returns-in_err-held-clause-left
returns-in_err-held-clause-left g c files order told current named opened passes =
    inl (record { calls = c.tested_tables.ensures.reads.calls; same = c.tested_tables.ensures.reads.same; refused = no_value c.from_residual-in_err-held.result _ c.from_residual-in_err-held.ensures.1 })

pub returns-in_err-held-clause-runs : goal.returns-in_err-held-clause-runs
returns-in_err-held-clause-runs g c =
    inl (record { calls = c.tested_tables.ensures.reads.calls; same = c.tested_tables.ensures.reads.same; refused = no_value c.from_residual-in_err-held.result _ c.from_residual-in_err-held.ensures.1 })

pub returns-in_err-held-clause-other : goal.returns-in_err-held-clause-other
returns-in_err-held-clause-other g c files told other = no_value c.from_residual-in_err-held.result _ c.from_residual-in_err-held.ensures.1

pub returns-in_err-held-clause-device : goal.returns-in_err-held-clause-device
returns-in_err-held-clause-device g c = reports_handed c.from_residual-in_err-held.result c.in_err-held.was c.tested_tables.ensures.device c.from_residual-in_err-held.ensures.1

pub returns-clause-answer : goal.returns-clause-answer
returns-clause-answer g c files told current =
    let cmp = g.C.Comparator.cmp in
    let keys = g.C.Comparator.short_keys in
    let v = c.args.opened.now.version in
    let tells = g.F.Folder.tells in
    let failed = g.F.Folder.failed in
    let all = IsInputsCompacted cmp keys files v c.args.level c.args.settings.now in
    let still = told_still (tells c.args.folder.now) (tells c.tested_tables.new.folder) files c.tested_tables.ensures.reads.same told in
    let passed = same_test c.in_ok-most.most c.args.test files cmp v (Ok tt) c.in_ok-most.ensures.asked (c.in_ok-held.ensures.answer files told) in
    answers_since step_in (failed c.args.folder.now) (failed c.tested_tables.new.folder) (failed c.compact_step.new.folder) c.compact_step.result all (IsCompacted c.args.test cmp keys files v c.args.level c.args.settings.now)
    (λ answer h. first_passed (IsTestAnswer c.args.test files cmp v) (λ (passed : Unit {0}). all) tt answer passed h)
    c.tested_tables.ensures.device.later c.compact_step.ensures.device.later
    (c.compact_step.ensures.answer files still current (held_in cmp (tells c.args.folder.now) files told c.in_ok-held.held c.in_ok-held.ensures.held))

pub returns-clause-left : goal.returns-clause-left
returns-clause-left g c files order told current named opened passes =
    let cmp = g.C.Comparator.cmp in
    let v = c.args.opened.now.version in
    let calls = g.F.Folder.calls in
    let tells = g.F.Folder.tells in
    let tested = same_test c.in_ok-most.most c.args.test files cmp v (Ok tt) c.in_ok-most.ensures.asked (c.in_ok-held.ensures.answer files told) in
    let passed = passed_by c.args.test cmp files v tested passes in
    let still = told_still (tells c.args.folder.now) (tells c.tested_tables.new.folder) files c.tested_tables.ensures.reads.same told in
    let reads : ReadsAs cmp order v passed.loaded files = record { opened = opened; loaded = passed.held } in
    version_left (order_by order cmp g.C.Comparator.short_keys) files v passed.loaded c.args.level c.args.settings.now
    (calls c.args.folder.now) (calls c.tested_tables.new.folder) (calls c.compact_step.new.folder) (tells c.args.folder.now) (tells c.tested_tables.new.folder) (tells c.compact_step.new.folder) c.compact_step.result
    reads c.tested_tables.ensures.reads.calls c.tested_tables.ensures.reads.same
    (c.compact_step.ensures.left files order passed.loaded passed.tables still current (held_in cmp (tells c.args.folder.now) files told c.in_ok-held.held c.in_ok-held.ensures.held) named reads passed.sound)

pub returns-clause-runs : goal.returns-clause-runs
returns-clause-runs g c =
    let cmp = g.C.Comparator.cmp in
    let v = c.args.opened.now.version in
    let calls = g.F.Folder.calls in
    let tells = g.F.Folder.tells in
    let name = g.C.Comparator.name_bytes in
    let first = tells c.args.folder.now in
    let read = tells c.tested_tables.new.folder in
    let same = c.tested_tables.ensures.reads.same in
    let keys = g.C.Comparator.short_keys in
    let s = c.args.settings.now in
    run_since (IsAnswerForLevel cmp keys first v c.args.level s) name cmp v
    (calls c.args.folder.now) (calls c.tested_tables.new.folder) (calls c.compact_step.new.folder) first read (tells c.compact_step.new.folder) c.compact_step.result
    c.tested_tables.ensures.reads.calls same
    (run_as (IsAnswerForLevel cmp keys read v c.args.level s) (IsAnswerForLevel cmp keys first v c.args.level s) name cmp v
    (calls c.tested_tables.new.folder) (calls c.compact_step.new.folder) read (tells c.compact_step.new.folder) c.compact_step.result
    (answer_before cmp keys first read same v c.args.level s)
    (c.compact_step.ensures.runs (held_same cmp first read same c.in_ok-held.held c.in_ok-held.ensures.held)))

pub returns-clause-other : goal.returns-clause-other
returns-clause-other g c files told other =
    c.compact_step.ensures.other files (told_still (g.F.Folder.tells c.args.folder.now) (g.F.Folder.tells c.tested_tables.new.folder) files c.tested_tables.ensures.reads.same told) other

pub returns-clause-device : goal.returns-clause-device
returns-clause-device g c = reports_then c.in_ok-held.was c.tested_tables.ensures.device c.compact_step.ensures.device
