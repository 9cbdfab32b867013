use Rattle.std.proofs.Common.{sym, subst, arith}
use Rattle.folder.proofs.OpeningLemmas.{hands_on}
use Rattle.checks.specs.HeldTables.{AreHeldBy, AreHeldIn, IsFoundAnswer}
use Rattle.checks.proofs.held_tables.hold_next.Goals as goal

pub returns-in_err-found-clause-answer : goal.returns-in_err-found-clause-answer
returns-in_err-found-clause-answer g c files told are =
    let cmp = g.C.Comparator.cmp in
    let failed = g.F.Folder.failed in
    let own : AreHeldIn cmp files c.replace-before.result = subst (AreHeldIn cmp files) (sym c.replace-before.ensures.value) are in
    hands_on _ (failed c.args.folder.now) (failed c.args.folder.now) (failed c.hold_tables.new.folder) c.from_residual.result c.in_err-found.field-0.0
    (IsFoundAnswer cmp files c.args.numbers.now) (IsFoundAnswer cmp files c.args.numbers.now)
    c.from_residual.ensures.1 (omega arith) c.hold_tables.ensures.device.later (c.in_err-found.ensures.answer files told own) (λ h. absurd h)

pub returns-clause-held : goal.returns-clause-held
returns-clause-held g c are =
    let cmp = g.C.Comparator.cmp in
    let tells = g.F.Folder.tells c.args.folder.now in
    let own : AreHeldBy cmp tells c.replace-before.result = subst (AreHeldBy cmp tells) (sym c.replace-before.ensures.value) are in
    c.in_ok-found.ensures.held own

pub returns-clause-answer : goal.returns-clause-answer
returns-clause-answer g c files told are =
    c.in_ok-found.ensures.answer files told (subst (AreHeldIn g.C.Comparator.cmp files) (sym c.replace-before.ensures.value) are)
