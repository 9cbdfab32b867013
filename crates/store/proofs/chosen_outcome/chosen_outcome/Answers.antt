use Rattle.std.proofs.Common.{◌≡◌, Result, Ok, Err, refl, sym, ap, subst, arith}
use Rattle.folder.specs.fault.Fault.{Fault}
use Rattle.compact.specs.AnswerIn.{answer_in}
use Rattle.folder.proofs.OpeningLemmas.{hands_on, refuses}
use Rattle.folder.proofs.ReportLemmas.{reports_after, reports_handed, reports_steady}
use Rattle.pick.specs.PickedInputs.{PickedInputs, picked_in}
use Rattle.compact.specs.OneThread.{Answer}
use Rattle.install.specs.Install.{version_with}
use Rattle.store.specs.Choice.{IsChosen}
use Rattle.store.specs.InputsCompaction.{IsChoiceAnswer, IsChosenAnswer, IsPickedAnswer}
use Rattle.store.specs.OrderView.{order_by}
use Rattle.store.specs.Outcome.{ChosenCompaction, IsOutcome, OutcomeView, outcome_in, outcome_of}
use Rattle.store.proofs.Answered.{equal_answers, equal_never, equal_ok}
use Rattle.store.proofs.ChosenInputs.{choice_chosen, picked_answered}
use Rattle.store.proofs.Flow.{first_passed, first_refused}
use Rattle.store.proofs.NoDevice.{handed_other}
use Rattle.store.proofs.PartRefusals.{choice_other}
use Rattle.store.proofs.chosen_outcome.chosen_outcome.Goals as goal

pub returns-in_err-picked-clause-answer : goal.returns-in_err-picked-clause-answer
returns-in_err-picked-clause-answer g c files told are =
    let cmp = g.C.Comparator.cmp in
    let keys = g.C.Comparator.short_keys in
    let v = c.args.version.now in
    let s = c.args.asked.now.settings in
    let failed = g.F.Folder.failed in
    let e = c.in_err-picked.field-0.0 in
    refuses outcome_in (failed c.args.folder.now) (failed c.args.folder.now) c.from_residual.result e (IsChoiceAnswer cmp v c.args.choice) (IsOutcome c.args.asked.now.first cmp keys files v c.args.choice s)
    c.from_residual.ensures.1 c.in_err-picked.ensures
    (λ h. first_refused (IsChosenAnswer c.args.asked.now.first cmp keys files v c.args.choice s) (λ made (o : Result OutcomeView Fault). o ≡ Ok (outcome_of made.0 made.1)) e
    (first_refused (IsChoiceAnswer cmp v c.args.choice) (IsPickedAnswer c.args.asked.now.first cmp keys files v s) e h))

pub returns-in_err-picked-clause-device : goal.returns-in_err-picked-clause-device
returns-in_err-picked-clause-device g c =
    let cmp = g.C.Comparator.cmp in
    let v = c.args.version.now in
    let e = c.in_err-picked.field-0.0 in
    reports_steady c.from_residual.result refl
    (handed_other c.from_residual.result e (IsChoiceAnswer cmp v c.args.choice (Err e)) c.from_residual.ensures.1 (choice_other cmp v c.args.choice e) c.in_err-picked.ensures)

pub outcome_of_picked-requires-clause-chosen : goal.outcome_of_picked-requires-clause-chosen
outcome_of_picked-requires-clause-chosen g c κs within =
    (c.args.choice, choice_chosen g.C.Comparator.cmp c.args.version.now c.args.choice (picked_in c.in_ok-picked.picked) c.in_ok-picked.ensures)

pub returns-in_err-made-clause-answer : goal.returns-in_err-made-clause-answer
returns-in_err-made-clause-answer g c files told are =
    let cmp = g.C.Comparator.cmp in
    let keys = g.C.Comparator.short_keys in
    let v = c.args.version.now in
    let s = c.args.asked.now.settings in
    let failed = g.F.Folder.failed in
    let e = c.in_err-made.field-0.0 in
    let p = picked_in c.in_ok-picked.picked in
    hands_on outcome_in (failed c.args.folder.now) (failed c.args.folder.now) (failed c.outcome_of_picked.new.folder) c.from_residual-in_err-made.result e (IsPickedAnswer c.args.asked.now.first cmp keys files v s p)
    (IsOutcome c.args.asked.now.first cmp keys files v c.args.choice s)
    c.from_residual-in_err-made.ensures.1 (omega arith) c.outcome_of_picked.ensures.device.later (c.in_err-made.ensures.answer files told are)
    (λ h. first_refused (IsChosenAnswer c.args.asked.now.first cmp keys files v c.args.choice s) (λ made (o : Result OutcomeView Fault). o ≡ Ok (outcome_of made.0 made.1)) e
    (first_passed (IsChoiceAnswer cmp v c.args.choice) (IsPickedAnswer c.args.asked.now.first cmp keys files v s) p (Err e) c.in_ok-picked.ensures h))

pub returns-in_err-made-clause-device : goal.returns-in_err-made-clause-device
returns-in_err-made-clause-device g c = reports_handed c.from_residual-in_err-made.result c.in_err-made.was c.outcome_of_picked.ensures.device c.from_residual-in_err-made.ensures.1

pub returns-clause-answer : goal.returns-clause-answer
returns-clause-answer g c files told are =
    let cmp = g.C.Comparator.cmp in
    let keys = g.C.Comparator.short_keys in
    let v = c.args.version.now in
    let s = c.args.asked.now.settings in
    let failed = g.F.Folder.failed in
    let p = picked_in c.in_ok-picked.picked in
    let answer = answer_in c.in_ok-made.made in
    let made : PickedInputs × Answer = (p, answer) in
    equal_answers outcome_in (outcome_of p answer) (failed c.args.folder.now) (failed c.outcome_of_picked.new.folder) c.outcome_answer.result (IsOutcome c.args.asked.now.first cmp keys files v c.args.choice s)
    (first_passed (IsChosenAnswer c.args.asked.now.first cmp keys files v c.args.choice s) (λ made (o : Result OutcomeView Fault). o ≡ Ok (outcome_of made.0 made.1)) made (Ok (outcome_of p answer))
    (first_passed (IsChoiceAnswer cmp v c.args.choice) (IsPickedAnswer c.args.asked.now.first cmp keys files v s) p (Ok made) c.in_ok-picked.ensures (c.in_ok-made.ensures.answer files told are)) refl)
    c.outcome_answer.ensures

pub returns-clause-compacted : goal.returns-clause-compacted
returns-clause-compacted g c files order loaded tables told are held sound =
    let cmp = g.C.Comparator.cmp in
    let keys = g.C.Comparator.short_keys in
    let v = c.args.version.now in
    let s = c.args.asked.now.settings in
    let first = c.args.asked.now.first in
    let p = picked_in c.in_ok-picked.picked in
    let answer = answer_in c.in_ok-made.made in
    let out = c.in_ok-made.ensures in
    let own = picked_answered first cmp keys files v s p answer (out.answer files told are) in
    let done = c.chosen_is_installed.ensures order first files v loaded own.own tables c.args.choice p s answer held sound out.state (choice_chosen cmp v c.args.choice p c.in_ok-picked.ensures) out.pointer own.read out.logs.0 out.logs.1 own.answered in
    equal_ok outcome_in (outcome_of p answer) c.outcome_answer.result (λ o. (q : PickedInputs) × ChosenCompaction (order_by order cmp keys) (version_with v loaded) (IsChosen cmp v c.args.choice) first s q (answer_in o.outcome))
    (λ o same. (p, subst (λ (a : Answer). ChosenCompaction (order_by order cmp keys) (version_with v loaded) (IsChosen cmp v c.args.choice) first s p a) (sym (ap (λ (x : OutcomeView). x.answer) same)) done)) c.outcome_answer.ensures

pub returns-clause-device : goal.returns-clause-device
returns-clause-device g c =
    let p = picked_in c.in_ok-picked.picked in
    let answer = answer_in c.in_ok-made.made in
    let failed = g.F.Folder.failed in
    reports_after c.outcome_answer.result c.in_ok-made.was c.outcome_of_picked.ensures.device
    (equal_never outcome_in (outcome_of p answer) (failed c.args.folder.now) (failed c.outcome_of_picked.new.folder) c.outcome_answer.result c.outcome_answer.ensures)
