use Rattle.std.proofs.Common.{◌≡◌, ℕ, List, Result, Err, length, refl, sym, ap, subst, ◌∙◌}
use Rattle.std.proofs.lemmas.Result.{err_from_is_err_and}
use Rattle.ikey.specs.Answers.{FailsOrMemory}
use Rattle.ikey.specs.fault.Fault.{Fault}
use Rattle.board.specs.RunAnswer.{fault_of_run}
use Rattle.compact.specs.RangeMerges.{by_workers}
use Rattle.compact.specs.JobAnswers.{block_answers}
use Rattle.compact.proofs.WorkerAnswers.{run_gives, run_fails}
use Rattle.compact.proofs.EncodedAnswers.{blocks_collected, blocks_length}
use Rattle.compact.proofs.block_encoder.encode_blocks.Goals as goal

pub returns-in_err-run : goal.returns-in_err-run
returns-in_err-run g c =
    let p = err_from_is_err_and c.from_residual.result c.from_residual.ensures.1 in
    let e = c.in_err-run.ensures in
    let why = c.in_err-run.field-0.0 in
    rw (p.1, p.2) (subst (λ (a : Result (List (List ℕ)) Fault). FailsOrMemory (fault_of_run why) (by_workers c.args.workers a))
    (blocks_collected c.args.plan.now)
    (run_fails (λ v. v.items) (block_answers c.args.plan.now) c.jobs.result c.args.workers (Err why) e.workers why refl e.refused))

pub returns : goal.returns
returns g c =
    let all : c.jobs.result ≡ length (block_answers c.args.plan.now) = c.jobs.ensures.number ∙ sym (blocks_length c.args.plan.now) in
    ap (λ (a : Result (List (List ℕ)) Fault). by_workers c.args.workers a) (sym (blocks_collected c.args.plan.now))
    ∙ run_gives (λ v. v.items) (block_answers c.args.plan.now) c.jobs.result c.args.workers _ c.in_ok-run.ensures.workers c.in_ok-run.field-0.items c.in_ok-run.field-0 refl all c.in_ok-run.ensures.ok
