use Rattle.std.proofs.Common.{sym, subst, ◌∙◌, arith}
use Rattle.ikey.proofs.Binds.{ok_is}
use Rattle.folder.proofs.OpeningLemmas.{hands_on}
use Rattle.checks.specs.HeldTables.{IsCheckedAnswer, IsFoundAnswer}
use Rattle.checks.specs.InOrder.{AreChecked, AreSoundIn}
use Rattle.checks.proofs.CheckedTables.{found_checked, never_passed, refused_in_order}
use Rattle.checks.proofs.FolderTests.{told_still}
use Rattle.checks.proofs.FoundTables.{held_found, held_unfound}
use Rattle.checks.proofs.HeldAnswers.{held_on}
use Rattle.checks.proofs.SoundNumbers.{sound_held}
use Rattle.checks.proofs.wanted_tables.checked_tables.Goals as goal

pub returns-in_err-found-clause-answer : goal.returns-in_err-found-clause-answer
returns-in_err-found-clause-answer g c files told are =
    let cmp = g.C.Comparator.cmp in
    let failed = g.F.Folder.failed in
    let numbers = c.args.numbers.now in
    hands_on (λ tables. tables) (failed c.args.folder.now) (failed c.args.folder.now) (failed c.hold_tables.new.folder) c.from_residual.result c.in_err-found.field-0.0 (IsFoundAnswer cmp files numbers) (IsCheckedAnswer cmp files numbers)
    c.from_residual.ensures.1 (omega arith) c.hold_tables.ensures.device.later (c.in_err-found.ensures.answer files told are) (λ h. absurd h)

pub returns-then-are_all-clause-answer : goal.returns-then-are_all-clause-answer
returns-then-are_all-clause-answer g c files told are =
    let cmp = g.C.Comparator.cmp in
    let numbers = c.args.numbers.now in
    let found = c.in_ok-found.found in
    found_checked cmp files numbers found.tables (held_found cmp files numbers found.are_all found.tables c.if-are_all.true (c.in_ok-found.ensures.answer files told are))

pub returns-then-are_all-clause-numbers : goal.returns-then-are_all-clause-numbers
returns-then-are_all-clause-numbers g c = c.in_ok-found.ensures.numbers c.if-are_all.true

pub returns-in_err-check_others-clause-answer : goal.returns-in_err-check_others-clause-answer
returns-in_err-check_others-clause-answer g c files told are =
    let cmp = g.C.Comparator.cmp in
    let failed = g.F.Folder.failed in
    let tells = g.F.Folder.tells in
    let numbers = c.args.numbers.now in
    let e = c.in_err-check_others.field-0.0 in
    let found = c.in_ok-found.found in
    let held = held_on cmp (tells c.args.folder.now) files told c.args.held found.tables c.in_ok-found.ensures.held are in
    let known = subst (AreSoundIn cmp files) (ok_is _ _ c.in_ok-sound.ensures ∙ sym c.deref.ensures.value) (sound_held cmp files found.tables held) in
    hands_on (λ tables. tables) (failed c.args.folder.now) (failed c.hold_tables.new.folder) (failed c.check_others.new.folder) c.from_residual-in_err-check_others.result e (AreChecked cmp files numbers) (IsCheckedAnswer cmp files numbers)
    c.from_residual-in_err-check_others.ensures.1 c.hold_tables.ensures.device.later c.check_others.ensures.device.later
    (c.in_err-check_others.ensures.answer files (told_still (tells c.args.folder.now) (tells c.hold_tables.new.folder) files c.hold_tables.ensures.reads.same told) known)
    (λ h. refused_in_order cmp files numbers e h)

pub returns-clause-answer : goal.returns-clause-answer
returns-clause-answer g c files told are =
    let cmp = g.C.Comparator.cmp in
    let tells = g.F.Folder.tells in
    let numbers = c.args.numbers.now in
    let found = c.in_ok-found.found in
    let held = held_on cmp (tells c.args.folder.now) files told c.args.held found.tables c.in_ok-found.ensures.held are in
    let known = subst (AreSoundIn cmp files) (ok_is _ _ c.in_ok-sound.ensures ∙ sym c.deref.ensures.value) (sound_held cmp files found.tables held) in
    let none = held_unfound cmp files numbers found.are_all found.tables c.if-are_all.false (c.in_ok-found.ensures.answer files told are) in
    absurd
    (never_passed cmp files numbers none
    (c.in_ok-check_others.ensures.answer files (told_still (tells c.args.folder.now) (tells c.hold_tables.new.folder) files c.hold_tables.ensures.reads.same told) known))
