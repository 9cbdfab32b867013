use Rattle.std.proofs.Common.{◌≢◌, ◌-◌, ◌<◌, length, sym, ap, subst, ◌∙◌, arith}
use Rattle.std.proofs.lemmas.Result.{err_from_is_err_and}
use Rattle.std.proofs.lemmas.Bool.{eqb-true, eqb-false}
use Rattle.coding.specs.Answers.{FailsOrMemory}
use Rattle.logrec.specs.LogReader.{LogRest}
use Rattle.logrec.proofs.Logs.{record_shorter}
use Rattle.logrec.proofs.Readers.{all_read, next_refused, one_read}
use Rattle.logrec.proofs.record_reader.RecordReader.next.Goals as goal

pub returns-then-is_empty-clause-end : goal.returns-then-is_empty-clause-end
returns-then-is_empty-clause-end c =
    sym (ap (λ (v : LogRest). v.ahead) c.self.view_is)
    ∙ all_read c.self.inside.whole c.self.inside.rest.now (eqb-true _ _ (sym c.is_empty.ensures ∙ c.if-is_empty.true))

pub returns-in_err-record-clause-refused : goal.returns-in_err-record-clause-refused
returns-in_err-record-clause-refused c =
    let p = err_from_is_err_and c.from_residual.result c.from_residual.ensures.1 in
    let ne : length c.self.inside.rest.now ≢ 0 = eqb-false _ _ (sym c.is_empty.ensures ∙ c.if-is_empty.false) in
    rw (p.1, p.2) (subst (λ (v : LogRest). FailsOrMemory c.in_err-record.field-0.0 v.ahead) c.self.view_is
    (next_refused c.self.inside.whole c.self.inside.rest.now c.in_err-record.field-0.0 (omega arith) c.in_err-record.ensures))

pub invariant_of-self : goal.invariant_of-self
invariant_of-self c =
    let was = c.self.inside in
    let shorter = record_shorter (c.self.inside.whole - length c.self.inside.rest.now) c.self.inside.rest.now (c.in_ok-record.record.items, c.in_ok-record.behind.now) c.in_ok-record.ensures in
    let within = c.self.invariant in
    omega (arith, shorter, within)

pub returns-clause-read : goal.returns-clause-read
returns-clause-read c =
    sym (ap (λ (v : LogRest). v.ahead) c.self.view_is)
    ∙ one_read c.self.inside.whole c.self.inside.rest.now (c.in_ok-record.record.items, c.in_ok-record.behind.now) c.self.invariant c.in_ok-record.ensures

pub returns-clause-shorter : goal.returns-clause-shorter
returns-clause-shorter c =
    let shorter = record_shorter (c.self.inside.whole - length c.self.inside.rest.now) c.self.inside.rest.now (c.in_ok-record.record.items, c.in_ok-record.behind.now) c.in_ok-record.ensures in
    subst (λ (v : LogRest). length c.in_ok-record.behind.now < v.left) c.self.view_is shorter
