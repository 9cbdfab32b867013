use Rattle.std.proofs.Common.{◌∙◌, Some, ap, sym, drop}
use Rattle.coding.specs.Varint.{varint_reading}
use Rattle.coding.proofs.Varints.{IsGroups-varint, front_number-varint, varint_shortest, varint_reading-varint, reads_varint, one_varint}
use Rattle.coding.proofs.varint.one_reading.Goals as goal

pub returns-clause-groups : goal.returns-clause-groups
returns-clause-groups c = λ number lt. (IsGroups-varint number lt, front_number-varint number lt)

pub returns-clause-shortest : goal.returns-clause-shortest
returns-clause-shortest c = λ bytes h lt. varint_shortest bytes h lt

pub returns-clause-read : goal.returns-clause-read
returns-clause-read c = λ limit bytes number used within. (
  λ e. let r = reads_varint limit bytes number used e in (r.below, r.len, (drop used bytes, r.parts)),
  λ h.
      ap (varint_reading limit) h.2.1
      ∙ varint_reading-varint limit number h.2.0 h.0 within
      ∙ ap (λ n. Some (number, n)) (sym h.1),
)

pub returns-clause-apart : goal.returns-clause-apart
returns-clause-apart c = λ x y a b x_fits y_fits e. one_varint x y a b x_fits y_fits e
