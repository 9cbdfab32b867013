use Rattle.std.proofs.Common.{ℕ, List, Some, sym, ap, ◌∙◌}
use Rattle.edit.proofs.Texts.{text_found, text_none}
use Rattle.edit.proofs.field_reader.text_at.Goals as goal

pub returns-in-Ok : goal.returns-in-Ok
returns-in-Ok c =
    ap (λ (t : List ℕ). Some (t, c.in_ok-bytes.rest.now)) c.in-Ok.ensures.cases.0
    ∙ sym (text_found c.args.bytes.now (c.in_ok-bytes.bytes.now, c.in_ok-bytes.rest.now) (sym c.in_ok-bytes.ensures) c.in-Ok.ensures.cases.1)

pub returns-in-Err : goal.returns-in-Err
returns-in-Err c =
    sym (text_none c.args.bytes.now (c.in_ok-bytes.bytes.now, c.in_ok-bytes.rest.now) (sym c.in_ok-bytes.ensures) c.in-Err.ensures.cases.0)
