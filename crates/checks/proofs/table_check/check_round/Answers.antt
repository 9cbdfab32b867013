use Rattle.std.proofs.Common.{List, map, length, Result, Ok, Err, refl, sym, ap, subst, ◌∙◌}
use Rattle.std.proofs.lemmas.Result.{err_from_is_err_and}
use Rattle.ikey.specs.Answers.{FailsOrMemory}
use Rattle.ikey.specs.fault.Fault.{Fault}
use Rattle.board.specs.RunAnswer.{fault_of_run}
use Rattle.board.proofs.CollectedAnswers.{results_collected, fault_collected}
use Rattle.reads.specs.Tables.{NumberedContents}
use Rattle.checks.specs.TableAnswers.{table_answers}
use Rattle.checks.proofs.Lent.{lent_table}
use Rattle.checks.proofs.TableRounds.{answers_length, same_tables, tables_collected}
use Rattle.checks.proofs.table_check.check_round.Goals as goal

pub returns-in_err-run : goal.returns-in_err-run
returns-in_err-run g c =
    let cmp = g.C.Comparator.cmp in
    let tables = map lent_table c.args.loaded.now in
    let p = err_from_is_err_and c.from_residual.result c.from_residual.ensures.1 in
    let e = c.in_err-run.ensures in
    let why = c.in_err-run.field-0.0 in
    rw (p.1, p.2) (subst (λ (a : Result (List NumberedContents) Fault). FailsOrMemory (fault_of_run why) a) (tables_collected cmp tables)
    (fault_collected (λ t. t) (table_answers cmp tables) (length c.args.loaded.now) (Err why) why refl e.refused e.workers))

pub returns : goal.returns
returns g c =
    let cmp = g.C.Comparator.cmp in
    let tables = map lent_table c.args.loaded.now in
    sym (tables_collected cmp tables)
    ∙ results_collected (λ t. t) (table_answers cmp tables) (length c.args.loaded.now) c.in_ok-run.field-0.items (sym (answers_length cmp c.args.loaded.now)) c.in_ok-run.ensures.ok
    ∙ ap (λ (ts : List NumberedContents). Ok ts) (same_tables c.in_ok-run.field-0.items)
