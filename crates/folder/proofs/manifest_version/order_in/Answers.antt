use Rattle.std.proofs.Common.{◌≡◌, ℕ, [], Option, Ok, Err, ap, subst, ◌∙◌}
use Rattle.std.specs.Global.{Vec}
use Rattle.std.specs.Prelude.{IfNone, IfSome, unwrap_or}
use Rattle.ikey.specs.fault.Fault.{Fault}
use Rattle.logrec.specs.LogReader.{with_first}
use Rattle.edit.specs.Edit.{edit_in}
use Rattle.folder.specs.ManifestReading.{IsOrderAnswer}
use Rattle.folder.proofs.ManifestLemmas.{handed_on}
use Rattle.folder.proofs.ManifestReadings.{order_begin, order_end, order_on, order_refused, order_unread}
use Rattle.folder.proofs.manifest_version.order_in.Goals as goal

pub loop-encoded-init : goal.loop-encoded-init
loop-encoded-init c rs is = order_begin rs c.new-records.result.ahead (c.new-records.ensures ∙ is)

pub returns-in_err-encoded : goal.returns-in_err-encoded
returns-in_err-encoded c rs is =
    let e = c.in_err-encoded.field-0.0 in
    handed_on (λ order. order) c.from_residual.result e (IsOrderAnswer rs) c.from_residual.ensures.1
    (order_unread rs c.loop-encoded.records.ahead c.loop-encoded.named e (c.loop-encoded.invariant rs is) c.in_err-encoded.ensures.refused)

pub returns : goal.returns
returns c rs is =
    let ahead = c.loop-encoded.records.ahead in
    let named = c.loop-encoded.named in
    let none : ahead ≡ Ok [] = subst (λ (o : Option (Vec ℕ)). IfNone o (ahead ≡ Ok [])) c.in_default.is c.in_ok-encoded.ensures.end in
    order_end rs ahead named c.unwrap_or.result none (c.unwrap_or.ensures ∙ ap (λ (e : Fault). unwrap_or named (Err e)) c.of.ensures) (c.loop-encoded.invariant rs is)

pub returns-in_err-edit : goal.returns-in_err-edit
returns-in_err-edit c rs is =
    let e = c.in_err-edit.field-0.0 in
    let old = c.loop-encoded.records.ahead in
    let new = c.next.new.self.ahead in
    let next : old ≡ with_first c.in-Some.encoded.items new = subst (λ (o : Option (Vec ℕ)). IfSome o (λ r. old ≡ with_first r.items new)) c.in-Some.is c.in_ok-encoded.ensures.read in
    handed_on (λ order. order) c.from_residual-in_err-edit.result e (IsOrderAnswer rs) c.from_residual-in_err-edit.ensures.1
    (order_refused rs old new c.loop-encoded.named c.in-Some.encoded.items e next (c.loop-encoded.invariant rs is) c.in_err-edit.ensures.refused)

pub loop-encoded-preserved : goal.loop-encoded-preserved
loop-encoded-preserved c rs is =
    let old = c.loop-encoded.records.ahead in
    let new = c.next.new.self.ahead in
    let e = edit_in c.in_ok-edit.edit in
    let next : old ≡ with_first c.in-Some.encoded.items new = subst (λ (o : Option (Vec ℕ)). IfSome o (λ r. old ≡ with_first r.items new)) c.in-Some.is c.in_ok-encoded.ensures.read in
    order_on rs old new c.loop-encoded.named c.order_with-named.result c.in-Some.encoded.items e next c.in_ok-edit.ensures.found c.order_with-named.ensures (c.loop-encoded.invariant rs is)
