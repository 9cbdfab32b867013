use Rattle.std.proofs.Common.{◌≡◌, Ok, Err, refl, inl, arith}
use Rattle.folder.proofs.OpeningLemmas.{hands_on}
use Rattle.folder.proofs.ReportLemmas.{reports_handed, reports_then}
use Rattle.store.proofs.Flow.{answers_behind, no_value}
use Rattle.adoption.specs.Adoption.{IsGivenTaken, IsGivenTested, adopted_outcome}
use Rattle.adoption.specs.AdoptionIn.{given_in}
use Rattle.adoption.specs.TakenIn.{outcome_taken}
use Rattle.adoption.proofs.ComparedOutputs.{lengths_read}
use Rattle.adoption.proofs.TakenSteps.{taking_since}
use Rattle.adoption.proofs.outcome_taking.take_given.Goals as goal

pub test_outputs-requires-clause-lengths : goal.test_outputs-requires-clause-lengths
test_outputs-requires-clause-lengths g c κs within = lengths_read c.args.given.outcome.tables.items c.args.given.outputs.items c.requires.numbers

pub returns-in_err-test_outputs-clause-answer : goal.returns-in_err-test_outputs-clause-answer
returns-in_err-test_outputs-clause-answer g c files told =
    let cmp = g.C.Comparator.cmp in
    let failed = g.F.Folder.failed in
    let t = c.args.taken in
    let given = given_in c.args.given in
    let e = c.in_err-test_outputs.field-0.0 in
    hands_on outcome_taken (failed c.args.folder.now) (failed c.args.folder.now) (failed c.test_outputs.new.folder) c.from_residual.result e (IsGivenTested cmp files given t.comparison) (IsGivenTaken cmp files given t.comparison)
    c.from_residual.ensures.1 (omega arith) c.test_outputs.ensures.device.later (c.in_err-test_outputs.ensures.answer files told) (λ h. (Err e, (h, refl)))

pub returns-in_err-test_outputs-clause-taken : goal.returns-in_err-test_outputs-clause-taken
returns-in_err-test_outputs-clause-taken g c =
    inl (record { calls = c.test_outputs.ensures.reads.calls; same = c.test_outputs.ensures.reads.same; refused = no_value c.from_residual.result (λ f. f ≡ c.in_err-test_outputs.field-0.0) c.from_residual.ensures.1 })

pub returns-in_err-test_outputs-clause-device : goal.returns-in_err-test_outputs-clause-device
returns-in_err-test_outputs-clause-device g c = reports_handed c.from_residual.result c.in_err-test_outputs.was c.test_outputs.ensures.device c.from_residual.ensures.1

pub returns-clause-answer : goal.returns-clause-answer
returns-clause-answer g c files told =
    let cmp = g.C.Comparator.cmp in
    let failed = g.F.Folder.failed in
    let t = c.args.taken in
    let given = given_in c.args.given in
    answers_behind outcome_taken (failed c.args.folder.now) (failed c.test_outputs.new.folder) (failed c.write_taken.new.folder) c.write_taken.result (IsGivenTested cmp files given t.comparison)
    (λ passed answer. answer ≡ Ok (adopted_outcome given)) (λ passed answer. answer ≡ Ok (adopted_outcome given)) tt
    c.test_outputs.ensures.device.later c.write_taken.ensures.device.later (c.in_ok-test_outputs.ensures.answer files told) (λ a h. h) c.write_taken.ensures.answer

pub returns-clause-taken : goal.returns-clause-taken
returns-clause-taken g c =
    taking_since g.F.Folder g.C.Comparator.cmp (given_in c.args.given) c.args.folder.now c.test_outputs.new.folder c.write_taken.new.folder c.args.taken c.write_taken.result c.test_outputs.ensures.reads c.in_ok-test_outputs.ensures.answer c.write_taken.ensures.taken

pub returns-clause-device : goal.returns-clause-device
returns-clause-device g c = reports_then c.in_ok-test_outputs.was c.test_outputs.ensures.device c.write_taken.ensures.device
