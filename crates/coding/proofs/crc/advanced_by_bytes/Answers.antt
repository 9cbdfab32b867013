use Rattle.std.proofs.Common.{sym, ap, ap₂, ◌∙◌, bit_xor, arith}
use Rattle.coding.specs.CrcRegister.{register_after_steps}
use Rattle.coding.proofs.CrcKernel.{fed_none, fed_next, fed_all}
use Rattle.coding.proofs.crc.advanced_by_bytes.Goals as goal

pub loop-byte-init : goal.loop-byte-init
loop-byte-init c = sym (fed_none c.args.register)

pub loop-byte-preserved : goal.loop-byte-preserved
loop-byte-preserved c =
    c.past_one-register.ensures ∙ ap (register_after_steps 8) (ap₂ bit_xor c.loop-byte.invariant c.from.ensures)
    ∙ fed_next c.args.register c.args.bytes.now c.loop-byte.byte-index c.loop-byte-test.true (omega (arith, c.type_inv.bytes c.loop-byte.byte-index))

pub returns : goal.returns
returns c = c.loop-byte.invariant ∙ fed_all c.args.register c.args.bytes.now c.loop-byte.byte-index c.loop-byte-test.false
