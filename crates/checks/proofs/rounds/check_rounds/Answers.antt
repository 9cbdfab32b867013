use Rattle.std.proofs.Common.{map}
use Rattle.std.proofs.lemmas.Result.{err_from_is_err_and}
use Rattle.checks.specs.TableReadings.{tables_reading}
use Rattle.checks.proofs.Lent.{lent_table}
use Rattle.checks.proofs.TableRounds.{round_more, round_refused}
use Rattle.checks.proofs.rounds.check_rounds.Goals as goal

pub returns-in_err-checked : goal.returns-in_err-checked
returns-in_err-checked g c =
    let cmp = g.C.Comparator.cmp in
    let p = err_from_is_err_and c.from_residual.result c.from_residual.ensures.1 in
    rw (p.1, p.2) (round_refused cmp c.loop-rest.rest.now c.split_at.result.0.now c.split_at.result.1.now c.min.result c.split_at.ensures.front c.split_at.ensures.back
    c.loop-rest.tables.items c.in_err-checked.field-0.0 (tables_reading cmp (map lent_table c.args.loaded.now)) c.loop-rest.invariant c.in_err-checked.ensures)

pub loop-rest-preserved : goal.loop-rest-preserved
loop-rest-preserved g c =
    let cmp = g.C.Comparator.cmp in
    round_more cmp c.loop-rest.rest.now c.split_at.result.0.now c.split_at.result.1.now c.min.result c.split_at.ensures.front c.split_at.ensures.back
    c.loop-rest.tables.items c.in_ok-checked.checked.items c.append.new.self.items (tables_reading cmp (map lent_table c.args.loaded.now)) c.in_ok-checked.ensures c.in_ok-append.ensures.items c.loop-rest.invariant
