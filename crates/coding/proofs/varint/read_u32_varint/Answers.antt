use Rattle.std.proofs.Common.{◌^◌, ◌∙◌, sym, arith}
use Rattle.coding.proofs.Varints.{varint_reading-low_none, varint_reading-low_past, varint_reading-low_some}
use Rattle.coding.proofs.varint.read_u32_varint.Goals as goal

pub returns-in_err-number : goal.returns-in_err-number
returns-in_err-number c = c.from_residual.ensures ∙ sym (varint_reading-low_none (2 ^ 32) (2 ^ 64) c.args.bytes.now (omega arith) c.in_err-number.ensures)

pub returns-then-number : goal.returns-then-number
returns-then-number c = sym (varint_reading-low_past (2 ^ 32) (2 ^ 64) c.in_ok-number.number c.in_ok-number.used c.args.bytes.now (omega arith) c.in_ok-number.ensures (omega arith))

pub returns : goal.returns
returns c = sym (varint_reading-low_some (2 ^ 32) (2 ^ 64) c.in_ok-number.number c.in_ok-number.used c.args.bytes.now (omega arith) c.in_ok-number.ensures (omega arith))
