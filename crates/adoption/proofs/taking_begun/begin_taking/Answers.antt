use Rattle.std.proofs.Common.{Ok, Result, arith, refl}
use Rattle.edit.specs.fault.Fault.{Fault}
use Rattle.folder.proofs.OpeningLemmas.{hands_on}
use Rattle.folder.proofs.ReportLemmas.{reports_after, reports_handed}
use Rattle.folder.specs.Orders.{order_cmp}
use Rattle.adoption.specs.Adoption.{IsFirstTested}
use Rattle.adoption.proofs.TakenEnds.{taken_none}
use Rattle.adoption.proofs.taking_begun.begin_taking.Goals as goal

pub returns-in_err-test_first-clause-answer : goal.returns-in_err-test_first-clause-answer
returns-in_err-test_first-clause-answer g c files told =
    let o = c.args.opened.now in
    let failed = g.F.Folder.failed in
    let tested = IsFirstTested (order_cmp o.order) files o.version c.args.comparison in
    hands_on (λ t. tt) (failed c.args.folder.now) (failed c.args.folder.now) (failed c.test_first.new.folder) c.from_residual.result c.in_err-test_first.field-0.0 tested tested
    c.from_residual.ensures.1 (omega arith) c.test_first.ensures.device.later (c.in_err-test_first.ensures.answer files told) (λ h. h)

pub returns-in_err-test_first-clause-device : goal.returns-in_err-test_first-clause-device
returns-in_err-test_first-clause-device g c = reports_handed c.from_residual.result c.in_err-test_first.was c.test_first.ensures.device c.from_residual.ensures.1

pub returns-clause-answer : goal.returns-clause-answer
returns-clause-answer g c files told = c.in_ok-test_first.ensures.answer files told

pub returns-clause-begun : goal.returns-clause-begun
returns-clause-begun g c =
    let o = c.args.opened.now in
    let q : Result (Unit {0}) Fault = Ok tt in (
      refl,
      refl,
      taken_none g.F.Folder (order_cmp o.order) o.version c.args.comparison c.args.folder.now c.test_first.new.folder c.test_first.ensures.reads (reports_after q c.in_ok-test_first.was c.test_first.ensures.device tt) c.in_ok-test_first.ensures.answer _ c.new.ensures.items c.new-2.ensures.items,
    )

pub returns-clause-device : goal.returns-clause-device
returns-clause-device g c = reports_after _ c.in_ok-test_first.was c.test_first.ensures.device tt
