use Rattle.std.proofs.Common.{◌⊎◌, Err, Ok, Result, arith, refl, subst, sym, ◌≡◌}
use Rattle.folder.proofs.OpeningLemmas.{hands_on}
use Rattle.folder.proofs.ReportLemmas.{reports_after, reports_handed, reports_steady}
use Rattle.edit.specs.Answers.{UnlessMemory}
use Rattle.folder.specs.OpenAnswer.{FolderAnswers, IsStopped}
use Rattle.folder.specs.ReadsAs.{IsFileIn}
use Rattle.edit.specs.fault.Fault.{Fault}
use Rattle.checks.specs.TestedTables.{IsTested}
use Rattle.store.proofs.Flow.{first_passed, first_refused}
use Rattle.edit.specs.Version.{State}
use Rattle.adoption.specs.Adoption.{IsLastTested}
use Rattle.adoption.specs.TakenIn.{version_in}
use Rattle.adoption.specs.declared.comparison.Comparison.{Comparison}
use Rattle.adoption.specs.declared.comparison.Comparison.TheVariants.{LeftOut}
use Rattle.adoption.proofs.joined_installation.test_last.Goals as goal

pub returns-in_default-clause-answer : goal.returns-in_default-clause-answer
returns-in_default-clause-answer g c files told =
    subst (λ (comparison : Comparison). IsLastTested g.C.Comparator.cmp files (version_in c.args.taken.now) comparison (Ok tt)) (sym c.in_default.is) refl

pub returns-in_default-clause-device : goal.returns-in_default-clause-device
returns-in_default-clause-device g c = let q : Result (Unit {0}) Fault = Ok tt in reports_steady q refl tt

pub returns-in_err-test_version-clause-answer : goal.returns-in_err-test_version-clause-answer
returns-in_err-test_version-clause-answer g c files told =
    let cmp = g.C.Comparator.cmp in
    let v = version_in c.args.taken.now in
    let failed = g.F.Folder.failed in
    let e = c.in_err-test_version.field-0.0 in
    subst (λ (comparison : Comparison). FolderAnswers (λ u. u) (failed c.args.folder.now) (failed c.test_version.new.folder) c.from_residual.result (IsLastTested cmp files v comparison)) (sym c.in-LeftOut.is)
    (hands_on (λ u. u) (failed c.args.folder.now) (failed c.args.folder.now) (failed c.test_version.new.folder) c.from_residual.result e (IsTested (IsFileIn files) cmp v) (IsLastTested cmp files v LeftOut)
    c.from_residual.ensures.1 (omega arith) c.test_version.ensures.device.later
    (subst (λ (w : State). UnlessMemory e (IsStopped (failed c.args.folder.now) (failed c.test_version.new.folder) e ⊎ IsTested (IsFileIn files) cmp w (Err e))) c.version_left.ensures (c.in_err-test_version.ensures.answer files told))
    (λ h. first_refused (IsTested (IsFileIn files) cmp v) (λ totals (answer : Result (Unit {0}) Fault). answer ≡ Ok tt) e h))

pub returns-in_err-test_version-clause-device : goal.returns-in_err-test_version-clause-device
returns-in_err-test_version-clause-device g c = reports_handed c.from_residual.result c.in_err-test_version.was c.test_version.ensures.device c.from_residual.ensures.1

pub returns-clause-answer : goal.returns-clause-answer
returns-clause-answer g c files told =
    let cmp = g.C.Comparator.cmp in
    let v = version_in c.args.taken.now in
    subst (λ (comparison : Comparison). IsLastTested cmp files v comparison (Ok tt)) (sym c.in-LeftOut.is)
    (first_passed (IsTested (IsFileIn files) cmp v) (λ totals (answer : Result (Unit {0}) Fault). answer ≡ Ok tt) c.in_ok-test_version.field-0 (Ok tt)
    (subst (λ (w : State). IsTested (IsFileIn files) cmp w (Ok c.in_ok-test_version.field-0)) c.version_left.ensures (c.in_ok-test_version.ensures.answer files told)) refl)

pub returns-clause-device : goal.returns-clause-device
returns-clause-device g c = let q : Result (Unit {0}) Fault = Ok tt in reports_after q c.in_ok-test_version.was c.test_version.ensures.device tt
