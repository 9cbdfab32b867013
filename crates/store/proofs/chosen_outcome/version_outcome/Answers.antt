use Rattle.std.proofs.Common.{arith}
use Rattle.folder.specs.Answers.{IsThen}
use Rattle.folder.proofs.OpeningLemmas.{answers_since, hands_on}
use Rattle.folder.proofs.ReportLemmas.{reads_then, reports_handed, reports_then}
use Rattle.checks.proofs.HeldAnswers.{held_in}
use Rattle.store.specs.Outcome.{IsOutcome, IsTestAnswer, outcome_in}
use Rattle.store.proofs.Flow.{first_passed, first_refused, told_still}
use Rattle.store.proofs.chosen_outcome.version_outcome.Goals as goal

pub returns-in_err-held-clause-answer : goal.returns-in_err-held-clause-answer
returns-in_err-held-clause-answer g c files told =
    let cmp = g.C.Comparator.cmp in
    let v = c.args.version.now in
    let failed = g.F.Folder.failed in
    let e = c.in_err-held.field-0.0 in
    let all = λ (passed : Unit {0}). IsOutcome c.args.asked.now.first cmp g.C.Comparator.short_keys files v c.args.choice c.args.asked.now.settings in
    hands_on outcome_in (failed c.args.folder.now) (failed c.args.folder.now) (failed c.tested_tables.new.folder) c.from_residual.result e (IsTestAnswer c.args.test files cmp v) (IsThen (IsTestAnswer c.args.test files cmp v) all)
    c.from_residual.ensures.1 (omega arith) c.tested_tables.ensures.device.later (c.in_err-held.ensures.answer files told) (λ h. first_refused (IsTestAnswer c.args.test files cmp v) all e h)

pub returns-in_err-held-clause-device : goal.returns-in_err-held-clause-device
returns-in_err-held-clause-device g c = reports_handed c.from_residual.result c.in_err-held.was c.tested_tables.ensures.device c.from_residual.ensures.1

pub returns-clause-answer : goal.returns-clause-answer
returns-clause-answer g c files told =
    let cmp = g.C.Comparator.cmp in
    let v = c.args.version.now in
    let tells = g.F.Folder.tells in
    let failed = g.F.Folder.failed in
    let all = IsOutcome c.args.asked.now.first cmp g.C.Comparator.short_keys files v c.args.choice c.args.asked.now.settings in
    let still = told_still (tells c.args.folder.now) (tells c.tested_tables.new.folder) files c.tested_tables.ensures.reads.same told in
    answers_since outcome_in (failed c.args.folder.now) (failed c.tested_tables.new.folder) (failed c.chosen_outcome.new.folder) c.chosen_outcome.result all (IsThen (IsTestAnswer c.args.test files cmp v) (λ passed. all))
    (λ a h. first_passed (IsTestAnswer c.args.test files cmp v) (λ (passed : Unit {0}). all) tt a (c.in_ok-held.ensures.answer files told) h)
    c.tested_tables.ensures.device.later c.chosen_outcome.ensures.device.later
    (c.chosen_outcome.ensures.answer files still (held_in cmp (tells c.args.folder.now) files told c.in_ok-held.held c.in_ok-held.ensures.held))

pub returns-clause-compacted : goal.returns-clause-compacted
returns-clause-compacted g c files order loaded tables told held sound =
    let tells = g.F.Folder.tells in
    let still = told_still (tells c.args.folder.now) (tells c.tested_tables.new.folder) files c.tested_tables.ensures.reads.same told in
    c.chosen_outcome.ensures.compacted files order loaded tables still (held_in g.C.Comparator.cmp (tells c.args.folder.now) files told c.in_ok-held.held c.in_ok-held.ensures.held) held sound

pub returns-clause-device : goal.returns-clause-device
returns-clause-device g c = reports_then c.in_ok-held.was c.tested_tables.ensures.device c.chosen_outcome.ensures.device

pub returns-clause-reads : goal.returns-clause-reads
returns-clause-reads g c = reads_then c.tested_tables.ensures.reads c.chosen_outcome.ensures.reads
