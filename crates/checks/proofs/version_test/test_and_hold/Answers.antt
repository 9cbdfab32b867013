use Rattle.std.proofs.Common.{◌≡◌, ℕ, List, Option, Ok, Err, length, sym, ap, subst, ◌∙◌, inr, arith, ◌⊎◌}
use Rattle.std.proofs.lemmas.List.Elements.{All-nil}
use Rattle.ikey.proofs.Binds.{ok_is}
use Rattle.ikey.specs.Answers.{UnlessMemory}
use Rattle.ikey.specs.fault.Fault.{Fault}
use Rattle.folder.proofs.OpeningLemmas.{hands_on}
use Rattle.folder.specs.Levels.{file_numbers}
use Rattle.folder.specs.OpenAnswer.{IsStopped}
use Rattle.folder.specs.ReadsAs.{IsFileIn}
use Rattle.reads.specs.Tables.{NumberedContents}
use Rattle.checks.specs.GroupTest.{IsSweepAnswer}
use Rattle.checks.specs.HeldTables.{AreHeldBy, AreHeldIn, IsTableIn}
use Rattle.checks.specs.InOrder.{AreChecked}
use Rattle.checks.specs.TestedTables.{IsTested}
use Rattle.checks.proofs.FolderTests.{not_lawful_tested, not_tested, tested_ok, told_still}
use Rattle.checks.proofs.HeldAnswers.{none_held}
use Rattle.checks.proofs.SoundNumbers.{known_numbers}
use Rattle.checks.proofs.version_test.test_and_hold.Goals as goal

pub returns-in_err-found-clause-answer : goal.returns-in_err-found-clause-answer
returns-in_err-found-clause-answer g c files told =
    let cmp = g.C.Comparator.cmp in
    let v = c.args.version.now in
    let failed = g.F.Folder.failed in
    hands_on (λ found. found.tested) (failed c.args.folder.now) (failed c.args.folder.now) (failed c.tested_entries.new.folder) c.from_residual-in_err-found.result c.in_err-found.field-0.0 (IsSweepAnswer cmp files v) (IsTested (IsFileIn files) cmp v)
    c.from_residual-in_err-found.ensures.1 (omega arith) c.tested_entries.ensures.device.later (c.in_err-found.ensures.answer files told (subst (AreHeldIn cmp files) (sym c.none-held.ensures) (All-nil (λ (t : NumberedContents). IsTableIn cmp files t.number t.contents)))) (λ h. absurd h)

pub returns-in-Some-clause-answer : goal.returns-in-Some-clause-answer
returns-in-Some-clause-answer g c files told =
    let cmp = g.C.Comparator.cmp in
    let v = c.args.version.now in
    let numbers : length c.in_ok-numbers.numbers.items ≡ length (file_numbers cmp v) = ap (λ (ns : List ℕ). length ns) (sym (ok_is _ _ c.in_ok-numbers.ensures)) in
    tested_ok cmp files v c.len-files.result c.in-Some.entries (c.len-files.ensures ∙ c.in_ok-numbers.numbers.ok.0 ∙ numbers)
    (subst (λ (o : Option ℕ). IsSweepAnswer cmp files v (Ok o)) c.in-Some.is (c.in_ok-found.ensures.answer files told (subst (AreHeldIn cmp files) (sym c.none-held.ensures) (All-nil (λ (t : NumberedContents). IsTableIn cmp files t.number t.contents)))))

pub returns-in_err-check_others-clause-answer : goal.returns-in_err-check_others-clause-answer
returns-in_err-check_others-clause-answer g c files told =
    let cmp = g.C.Comparator.cmp in
    let v = c.args.version.now in
    let failed = g.F.Folder.failed in
    let tells = g.F.Folder.tells in
    let e = c.in_err-check_others.field-0.0 in
    let numbers : c.deref-2.result.now ≡ file_numbers cmp v = c.deref-2.ensures.value ∙ sym (ok_is _ _ c.in_ok-numbers.ensures) in
    let known = known_numbers cmp files c.none-held.result c.none-held.ensures c.new.result.items c.new.ensures.items c.tested_entries.new.checked.sound.items (c.in_ok-found.ensures.sound files told) c.deref.result.now c.deref.ensures.value in
    hands_on (λ found. found.tested) (failed c.args.folder.now) (failed c.tested_entries.new.folder) (failed c.check_others.new.folder) c.from_residual-in_err-check_others.result e (AreChecked cmp files c.deref-2.result.now) (IsTested (IsFileIn files) cmp v)
    c.from_residual-in_err-check_others.ensures.1 c.tested_entries.ensures.device.later c.check_others.ensures.device.later
    (c.in_err-check_others.ensures.answer files (told_still (tells c.args.folder.now) (tells c.tested_entries.new.folder) files c.tested_entries.ensures.reads.same told) known)
    (λ h. not_tested cmp files v e (subst (λ (ns : List ℕ). AreChecked cmp files ns (Err e)) numbers h))

pub returns-clause-answer : goal.returns-clause-answer
returns-clause-answer g c files told =
    let cmp = g.C.Comparator.cmp in
    let v = c.args.version.now in
    let failed = g.F.Folder.failed in
    let tells = g.F.Folder.tells in
    let numbers : c.deref-2.result.now ≡ file_numbers cmp v = c.deref-2.ensures.value ∙ sym (ok_is _ _ c.in_ok-numbers.ensures) in
    let swept = subst (λ (o : Option ℕ). IsSweepAnswer cmp files v (Ok o)) c.in_default.is (c.in_ok-found.ensures.answer files told (subst (AreHeldIn cmp files) (sym c.none-held.ensures) (All-nil (λ (t : NumberedContents). IsTableIn cmp files t.number t.contents)))) in
    let known = known_numbers cmp files c.none-held.result c.none-held.ensures c.new.result.items c.new.ensures.items c.tested_entries.new.checked.sound.items (c.in_ok-found.ensures.sound files told) c.deref.result.now c.deref.ensures.value in
    let checked = subst (λ (ns : List ℕ). AreChecked cmp files ns (Ok tt)) numbers
    (c.in_ok-check_others.ensures.answer files (told_still (tells c.args.folder.now) (tells c.tested_entries.new.folder) files c.tested_entries.ensures.reads.same told) known) in
    subst (λ (e : Fault). UnlessMemory e (IsStopped (failed c.args.folder.now) (failed c.check_others.new.folder) e ⊎ IsTested (IsFileIn files) cmp v (Err e))) (sym c.of.ensures)
    (inr (not_lawful_tested cmp files v swept.0 swept.1 checked))

pub returns-in-Some-clause-held : goal.returns-in-Some-clause-held
returns-in-Some-clause-held g c =
    let cmp = g.C.Comparator.cmp in
    let tells = g.F.Folder.tells c.args.folder.now in
    c.tested_entries.ensures.held (subst (AreHeldBy cmp tells) (sym c.none-held.ensures) (none_held cmp tells))
