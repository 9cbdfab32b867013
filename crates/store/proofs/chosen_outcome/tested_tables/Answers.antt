use Rattle.std.proofs.Common.{◌≡◌, ℕ, Option, Some, Result, Ok, refl, sym, subst, arith}
use Rattle.std.proofs.lemmas.List.Elements.{All-nil}
use Rattle.folder.specs.fault.Fault.{Fault}
use Rattle.folder.specs.OpenAnswer.{FolderAnswers}
use Rattle.folder.specs.ReadsAs.{IsFileIn}
use Rattle.folder.proofs.OpeningLemmas.{hands_on}
use Rattle.folder.proofs.ReportLemmas.{reports_after, reports_handed, reports_steady}
use Rattle.checks.specs.HeldTables.{AreHeldBy, IsTableBy}
use Rattle.checks.specs.TestedTables.{IsTested}
use Rattle.reads.specs.Tables.{NumberedContents}
use Rattle.store.specs.Outcome.{IsTestAnswer}
use Rattle.store.proofs.Flow.{first_passed, first_refused}
use Rattle.store.proofs.chosen_outcome.tested_tables.Goals as goal

pub returns-in_default-clause-answer : goal.returns-in_default-clause-answer
returns-in_default-clause-answer g c files told = subst (λ (test : Option ℕ). IsTestAnswer test files g.C.Comparator.cmp c.args.version.now (Ok tt)) (sym c.in_default.is) refl

pub returns-in_default-clause-held : goal.returns-in_default-clause-held
returns-in_default-clause-held g c =
    let cmp = g.C.Comparator.cmp in
    let tells = g.F.Folder.tells c.args.folder.now in
    subst (AreHeldBy cmp tells) (sym c.none-none.ensures) (All-nil (λ (t : NumberedContents). IsTableBy cmp tells t.number t.contents))

pub returns-in_default-clause-device : goal.returns-in_default-clause-device
returns-in_default-clause-device g c = reports_steady _ refl tt

pub returns-in_err-found-clause-answer : goal.returns-in_err-found-clause-answer
returns-in_err-found-clause-answer g c files told =
    let cmp = g.C.Comparator.cmp in
    let v = c.args.version.now in
    let failed = g.F.Folder.failed in
    let e = c.in_err-found.field-0.0 in
    subst (λ (test : Option ℕ). FolderAnswers (λ tables. tt) (failed c.args.folder.now) (failed c.test_and_hold.new.folder) c.from_residual.result (IsTestAnswer test files cmp v)) (sym c.in-Some.is)
    (hands_on (λ tables. tt) (failed c.args.folder.now) (failed c.args.folder.now) (failed c.test_and_hold.new.folder) c.from_residual.result e (IsTested (IsFileIn files) cmp v) (IsTestAnswer (Some c.in-Some.memory) files cmp v)
    c.from_residual.ensures.1 (omega arith) c.test_and_hold.ensures.device.later (c.in_err-found.ensures.answer files told)
    (λ h. first_refused (IsTested (IsFileIn files) cmp v) (λ totals (answer : Result (Unit {0}) Fault). answer ≡ Ok tt) e h))

pub returns-in_err-found-clause-device : goal.returns-in_err-found-clause-device
returns-in_err-found-clause-device g c = reports_handed c.from_residual.result c.in_err-found.was c.test_and_hold.ensures.device c.from_residual.ensures.1

pub returns-clause-answer : goal.returns-clause-answer
returns-clause-answer g c files told =
    let cmp = g.C.Comparator.cmp in
    let v = c.args.version.now in
    subst (λ (test : Option ℕ). IsTestAnswer test files cmp v (Ok tt)) (sym c.in-Some.is)
    (first_passed (IsTested (IsFileIn files) cmp v) (λ totals (answer : Result (Unit {0}) Fault). answer ≡ Ok tt) c.in_ok-found.found.tested (Ok tt) (c.in_ok-found.ensures.answer files told) refl)

pub returns-clause-device : goal.returns-clause-device
returns-clause-device g c = reports_after _ c.in_ok-found.was c.test_and_hold.ensures.device tt
