use Rattle.std.proofs.Common.{Ok, Result, arith, refl, subst, sym, ◌≡◌}
use Rattle.folder.proofs.OpeningLemmas.{hands_on}
use Rattle.folder.proofs.ReportLemmas.{reports_after, reports_handed, reports_steady}
use Rattle.folder.specs.OpenAnswer.{FolderAnswers}
use Rattle.folder.specs.Orders.{order_cmp}
use Rattle.folder.specs.ReadsAs.{IsFileIn}
use Rattle.edit.specs.fault.Fault.{Fault}
use Rattle.checks.specs.TestedTables.{IsTested}
use Rattle.store.proofs.Flow.{first_passed, first_refused}
use Rattle.adoption.specs.Adoption.{IsFirstTested}
use Rattle.adoption.specs.declared.comparison.Comparison.{Comparison}
use Rattle.adoption.specs.declared.comparison.Comparison.TheVariants.{With}
use Rattle.adoption.proofs.taking_begun.test_first.Goals as goal

pub returns-in_default-clause-answer : goal.returns-in_default-clause-answer
returns-in_default-clause-answer g c files told =
    let o = c.args.opened.now in
    subst (λ (comparison : Comparison). IsFirstTested (order_cmp o.order) files o.version comparison (Ok tt)) (sym c.in_default.is) refl

pub returns-in_default-clause-device : goal.returns-in_default-clause-device
returns-in_default-clause-device g c = let q : Result (Unit {0}) Fault = Ok tt in reports_steady q refl tt

pub returns-in_err-test_by_order-clause-answer : goal.returns-in_err-test_by_order-clause-answer
returns-in_err-test_by_order-clause-answer g c files told =
    let o = c.args.opened.now in
    let cmp = order_cmp o.order in
    let failed = g.F.Folder.failed in
    let e = c.in_err-test_by_order.field-0.0 in
    subst (λ (comparison : Comparison). FolderAnswers (λ u. u) (failed c.args.folder.now) (failed c.test_by_order.new.folder) c.from_residual.result (IsFirstTested cmp files o.version comparison)) (sym c.in-With.is)
    (hands_on (λ u. u) (failed c.args.folder.now) (failed c.args.folder.now) (failed c.test_by_order.new.folder) c.from_residual.result e (IsTested (IsFileIn files) cmp o.version) (IsFirstTested cmp files o.version (With c.in-With.field-0))
    c.from_residual.ensures.1 (omega arith) c.test_by_order.ensures.device.later (c.in_err-test_by_order.ensures.answer files told)
    (λ h. first_refused (IsTested (IsFileIn files) cmp o.version) (λ totals (answer : Result (Unit {0}) Fault). answer ≡ Ok tt) e h))

pub returns-in_err-test_by_order-clause-device : goal.returns-in_err-test_by_order-clause-device
returns-in_err-test_by_order-clause-device g c = reports_handed c.from_residual.result c.in_err-test_by_order.was c.test_by_order.ensures.device c.from_residual.ensures.1

pub returns-clause-answer : goal.returns-clause-answer
returns-clause-answer g c files told =
    let o = c.args.opened.now in
    let cmp = order_cmp o.order in
    subst (λ (comparison : Comparison). IsFirstTested cmp files o.version comparison (Ok tt)) (sym c.in-With.is)
    (first_passed (IsTested (IsFileIn files) cmp o.version) (λ totals (answer : Result (Unit {0}) Fault). answer ≡ Ok tt) c.in_ok-test_by_order.field-0 (Ok tt) (c.in_ok-test_by_order.ensures.answer files told) refl)

pub returns-clause-device : goal.returns-clause-device
returns-clause-device g c = let q : Result (Unit {0}) Fault = Ok tt in reports_after q c.in_ok-test_by_order.was c.test_by_order.ensures.device tt
