use Rattle.std.proofs.Common.{◌≡◌, ◌≢◌, ◌-◌, ◌++◌, ◌∷◌, [], length, sym, ◌∙◌, arith}
use Rattle.std.proofs.lemmas.Result.{err_from_is_err_and}
use Rattle.std.proofs.lemmas.Bool.{eqb-true, eqb-false}
use Rattle.std.proofs.lemmas.List.{map_push, nil_from_length}
use Rattle.logrec.specs.LogReader.{lists}
use Rattle.logrec.proofs.Logs.{record_shorter}
use Rattle.logrec.proofs.Loops.{records_begin, records_on, records_end, records_refused}
use Rattle.logrec.proofs.log_reader.all.Goals as goal

pub loop-rest-init : goal.loop-rest-init
loop-rest-init c = rw c.new-records.ensures.items (records_begin c.args.bytes.now)

pub returns-in_err-record : goal.returns-in_err-record
returns-in_err-record c =
    let p = err_from_is_err_and c.from_residual.result c.from_residual.ensures.1 in
    let ne : length c.loop-rest.rest.now ≢ 0 = eqb-false _ _ (sym c.is_empty.ensures ∙ c.loop-rest-test.true) in
    rw (p.1, p.2) (records_refused c.args.bytes.now (lists c.loop-rest.records.items) c.loop-rest.rest.now c.in_err-record.field-0.0 c.loop-rest.invariant (omega arith) c.in_err-record.ensures)

pub loop-rest-smaller : goal.loop-rest-smaller
loop-rest-smaller c =
    record_shorter (length c.args.bytes.now - length c.loop-rest.rest.now) c.loop-rest.rest.now (c.in_ok-record.record.items, c.in_ok-record.behind.now) c.in_ok-record.ensures

pub loop-rest-preserved : goal.loop-rest-preserved
loop-rest-preserved c =
    let e : lists c.push.new.self.items ≡ lists c.loop-rest.records.items ++ c.in_ok-record.record.items ∷ [] = rw c.in_ok-push.ensures.items (map_push _ c.loop-rest.records.items c.in_ok-record.record) in
    rw e (records_on c.args.bytes.now (lists c.loop-rest.records.items) c.loop-rest.rest.now (c.in_ok-record.record.items, c.in_ok-record.behind.now) c.loop-rest.invariant c.in_ok-record.ensures)

pub returns : goal.returns
returns c =
    records_end c.args.bytes.now (lists c.loop-rest.records.items) c.loop-rest.rest.now c.loop-rest.invariant (nil_from_length c.loop-rest.rest.now (eqb-true _ _ (sym c.is_empty.ensures ∙ c.loop-rest-test.false)))
