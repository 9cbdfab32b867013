use Rattle.std.proofs.Common.{◌≡◌, List, map, length, Result, Err, refl, sym, ap, subst, ◌∙◌, arith}
use Rattle.std.proofs.lemmas.List.{length-map}
use Rattle.std.proofs.lemmas.Result.{err_from_is_err_and}
use Rattle.ikey.specs.Answers.{FailsOrMemory}
use Rattle.ikey.specs.fault.Fault.{Fault}
use Rattle.table.specs.EncodedEntry.{Entry}
use Rattle.board.specs.RunAnswer.{fault_of_run}
use Rattle.compact.specs.RangeMerges.{by_workers}
use Rattle.compact.specs.JobAnswers.{input_answers}
use Rattle.compact.proofs.WorkerAnswers.{run_gives, run_fails}
use Rattle.compact.proofs.InputAnswers.{answers_length, inputs_collected}
use Rattle.compact.proofs.inputs.check_inputs.Goals as goal

pub run-requires-clause-within : goal.run-requires-clause-within
run-requires-clause-within g c =
    omega (arith, answers_length g.C.Comparator.cmp 0 c.args.files.now (map (λ t. t.now) c.args.tables.now), length-map c.args.tables.now (λ t. t.now))

pub returns-in_err-run : goal.returns-in_err-run
returns-in_err-run g c =
    let p = err_from_is_err_and c.from_residual.result c.from_residual.ensures.1 in
    let e = c.in_err-run.ensures in
    let why = c.in_err-run.field-0.0 in
    let answers = input_answers g.C.Comparator.cmp 0 c.args.files.now (map (λ t. t.now) c.args.tables.now) in
    rw (p.1, p.2) (subst (λ (a : Result (List (List Entry)) Fault). FailsOrMemory (fault_of_run why) (by_workers c.args.workers a))
    (inputs_collected g.C.Comparator.cmp 0 c.args.files.now (map (λ t. t.now) c.args.tables.now))
    (run_fails (λ t. t.entries) answers c.min-jobs.result c.args.workers (Err why) e.workers why refl e.refused))

pub returns : goal.returns
returns g c =
    let answers = input_answers g.C.Comparator.cmp 0 c.args.files.now (map (λ t. t.now) c.args.tables.now) in
    let all : c.min-jobs.result ≡ length answers = omega (arith, answers_length g.C.Comparator.cmp 0 c.args.files.now (map (λ t. t.now) c.args.tables.now), length-map c.args.tables.now (λ t. t.now)) in
    ap (λ (a : Result (List (List Entry)) Fault). by_workers c.args.workers a) (sym (inputs_collected g.C.Comparator.cmp 0 c.args.files.now (map (λ t. t.now) c.args.tables.now)))
    ∙ run_gives (λ t. t.entries) answers c.min-jobs.result c.args.workers _ c.in_ok-run.ensures.workers c.in_ok-run.field-0.items c.in_ok-run.field-0 refl all c.in_ok-run.ensures.ok
