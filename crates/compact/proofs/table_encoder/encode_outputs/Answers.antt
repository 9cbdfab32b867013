use Rattle.std.proofs.Common.{◌≡◌, ℕ, List, Result, Err, length, refl, sym, ap, subst, ◌∙◌}
use Rattle.std.specs.Global.{Vec}
use Rattle.std.proofs.lemmas.Result.{err_from_is_err_and}
use Rattle.ikey.specs.Answers.{FailsOrMemory}
use Rattle.ikey.specs.fault.Fault.{Fault}
use Rattle.table.specs.EncodedEntry.{Entry}
use Rattle.table.specs.Table.{table}
use Rattle.board.specs.RunAnswer.{fault_of_run}
use Rattle.compact.specs.RangeMerges.{by_workers}
use Rattle.compact.specs.JobAnswers.{output_answers}
use Rattle.compact.proofs.WorkerAnswers.{run_gives, run_fails}
use Rattle.compact.proofs.EncodedAnswers.{tables_collected, tables_length}
use Rattle.compact.proofs.table_encoder.encode_outputs.Goals as goal

pub returns-in_err-run : goal.returns-in_err-run
returns-in_err-run g c =
    let p = err_from_is_err_and c.from_residual.result c.from_residual.ensures.1 in
    let e = c.in_err-run.ensures in
    let why = c.in_err-run.field-0.0 in
    let seen : ℕ × Vec ℕ → ℕ × List ℕ = λ t. (t.0, t.1.items) in
    let T : List Entry → List ℕ = table g.C.Comparator.cmp g.C.Comparator.short_keys c.args.plan.now.options in
    rw (p.1, p.2) (subst (λ (a : Result (List (ℕ × List ℕ)) Fault). FailsOrMemory (fault_of_run why) (by_workers c.args.workers a))
    (tables_collected T c.args.plan.now.outputs)
    (run_fails seen (output_answers T c.args.plan.now.outputs) c.len.result c.args.workers (Err why) e.workers why refl e.refused))

pub returns : goal.returns
returns g c =
    let seen : ℕ × Vec ℕ → ℕ × List ℕ = λ t. (t.0, t.1.items) in
    let T : List Entry → List ℕ = table g.C.Comparator.cmp g.C.Comparator.short_keys c.args.plan.now.options in
    let all : c.len.result ≡ length (output_answers T c.args.plan.now.outputs) = c.len.ensures.number ∙ sym (tables_length T c.args.plan.now.outputs) in
    ap (λ (a : Result (List (ℕ × List ℕ)) Fault). by_workers c.args.workers a) (sym (tables_collected T c.args.plan.now.outputs))
    ∙ run_gives seen (output_answers T c.args.plan.now.outputs) c.len.result c.args.workers _ c.in_ok-run.ensures.workers c.in_ok-run.field-0.items c.in_ok-run.field-0 refl all c.in_ok-run.ensures.ok
