use Rattle.std.proofs.Common.{◌≡◌, ℕ, List, [], ◌∷◌, ◌++◌, Ok, refl, ap, subst, ◌∙◌, arith, inl}
use Rattle.folder.proofs.ReportLemmas.{reports_steady}
use Rattle.folder.specs.CallSequence.{MakesCalls}
use Rattle.install.specs.Install.{table_calls, tables_in}
use Rattle.compact.specs.AnswerIn.{answer_in}
use Rattle.compact.specs.OneThread.{Answer}
use Rattle.store.specs.Outcome.{OutcomeView, outcome_in}
use Rattle.store.proofs.Answered.{equal_value}
use Rattle.store.proofs.Flow.{stopped_on}
use Rattle.store.proofs.NoDevice.{handed_memory}
use Rattle.adoption.specs.Adoption.{adopted_outcome}
use Rattle.adoption.specs.AdoptionIn.{given_in}
use Rattle.adoption.specs.TakenIn.{outcome_taken}
use Rattle.adoption.proofs.AdoptionSteps.{never_refused}
use Rattle.adoption.proofs.TakenSteps.{memory_answers, nothing_written, written_done, written_refused}
use Rattle.adoption.proofs.outcome_taking.write_taken.Goals as goal

pub returns-in_err-made-clause-answer : goal.returns-in_err-made-clause-answer
returns-in_err-made-clause-answer g c =
    let failed = g.F.Folder.failed in
    let e = c.in_err-made.field-0.0 in
    memory_answers outcome_taken (failed c.args.folder.now) (failed c.args.folder.now) c.from_residual.result e (λ answer. answer ≡ Ok (adopted_outcome (given_in c.args.given))) (never_refused _ e c.in_err-made.ensures) c.from_residual.ensures.1

pub returns-in_err-made-clause-taken : goal.returns-in_err-made-clause-taken
returns-in_err-made-clause-taken g c = inl (nothing_written g.F.Folder c.args.folder.now c.from_residual.result c.in_err-made.field-0.0 c.from_residual.ensures.1)

pub returns-in_err-made-clause-device : goal.returns-in_err-made-clause-device
returns-in_err-made-clause-device g c =
    let e = c.in_err-made.field-0.0 in
    reports_steady c.from_residual.result refl (handed_memory c.from_residual.result e c.from_residual.ensures.1 (never_refused _ e c.in_err-made.ensures))

pub returns-in_err-written-clause-answer : goal.returns-in_err-written-clause-answer
returns-in_err-written-clause-answer g c =
    let failed = g.F.Folder.failed in
    let e = c.in_err-written.field-0.0 in
    memory_answers outcome_taken (failed c.args.folder.now) (failed c.args.folder.now) c.from_residual-in_err-written.result e (λ answer. answer ≡ Ok (adopted_outcome (given_in c.args.given))) c.in_err-written.ensures.memory c.from_residual-in_err-written.ensures.1

pub returns-in_err-written-clause-taken : goal.returns-in_err-written-clause-taken
returns-in_err-written-clause-taken g c = inl (nothing_written g.F.Folder c.args.folder.now c.from_residual-in_err-written.result c.in_err-written.field-0.0 c.from_residual-in_err-written.ensures.1)

pub returns-in_err-written-clause-device : goal.returns-in_err-written-clause-device
returns-in_err-written-clause-device g c =
    let e = c.in_err-written.field-0.0 in
    reports_steady c.from_residual-in_err-written.result refl (handed_memory c.from_residual-in_err-written.result e c.from_residual-in_err-written.ensures.1 c.in_err-written.ensures.memory)

pub returns-in_err-write_group-clause-answer : goal.returns-in_err-write_group-clause-answer
returns-in_err-write_group-clause-answer g c =
    let failed = g.F.Folder.failed in
    stopped_on outcome_taken (failed c.args.folder.now) (failed c.args.folder.now) (failed c.write_group.new.folder) c.from_residual-in_err-write_group.result c.in_err-write_group.field-0.0
    (λ answer. answer ≡ Ok (adopted_outcome (given_in c.args.given))) c.from_residual-in_err-write_group.ensures.1 (omega arith) c.write_group.ensures.later c.in_err-write_group.ensures.refused

pub returns-in_err-write_group-clause-taken : goal.returns-in_err-write_group-clause-taken
returns-in_err-write_group-clause-taken g c =
    let f = g.F.Folder in
    let old = c.args.folder.now in
    let new = c.write_group.new.folder in
    let same : answer_in c.in_ok-made.made.outcome ≡ answer_in c.args.given.outcome = ap (λ (o : OutcomeView). o.answer) (equal_value outcome_in _ c.in_ok-made.made c.in_ok-made.ensures) in
    written_refused f (given_in c.args.given) old new c.args.taken c.write_group.result c.from_residual-in_err-write_group.result c.in_err-write_group.field-0.0 c.in_err-write_group.was c.from_residual-in_err-write_group.ensures.1
    (subst (λ (ts : List (ℕ × List ℕ)). MakesCalls (table_calls (ts ∷ [])) (f.calls old) (f.calls new) (f.tells old) (f.tells new) c.write_group.result)
    (ap tables_in c.deref.ensures.value ∙ ap (λ (a : Answer). a.tables) same) c.write_group.ensures.runs)

pub returns-clause-answer : goal.returns-clause-answer
returns-clause-answer g c = ap (λ (o : OutcomeView). Ok o) (equal_value outcome_in _ c.in_ok-made.made c.in_ok-made.ensures)

pub returns-clause-taken : goal.returns-clause-taken
returns-clause-taken g c =
    let f = g.F.Folder in
    let old = c.args.folder.now in
    let new = c.write_group.new.folder in
    let is = equal_value outcome_in _ c.in_ok-made.made c.in_ok-made.ensures in
    let same : answer_in c.in_ok-made.made.outcome ≡ answer_in c.args.given.outcome = ap (λ (o : OutcomeView). o.answer) is in
    written_done f (given_in c.args.given) old new c.args.taken c.write_group.result c.in_ok-write_group.field-0 _ c.in_ok-write_group.was
    (record {
      opened = refl;
      compared = refl;
      version = refl;
      outputs = c.in_ok-written.ensures.outputs ∙ ap (λ (o : List (ℕ × ℕ)). c.args.taken.written.outputs.items ++ o) (ap (λ (o : OutcomeView). o.outputs) is);
      edits = c.in_ok-written.ensures.edits ∙ ap (λ (b : List ℕ). c.args.taken.written.edits.items ++ b) (ap (λ (a : Answer). a.edit) same);
    })
    (subst (λ (ts : List (ℕ × List ℕ)). MakesCalls (table_calls (ts ∷ [])) (f.calls old) (f.calls new) (f.tells old) (f.tells new) c.write_group.result)
    (ap tables_in c.deref.ensures.value ∙ ap (λ (a : Answer). a.tables) same) c.write_group.ensures.runs)
