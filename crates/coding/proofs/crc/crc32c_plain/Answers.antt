use Rattle.std.proofs.Common.{◌-◌, sym, ap, ap₂, ◌∙◌, bit_xor, arith}
use Rattle.coding.specs.CrcRegister.{register_after_steps}
use Rattle.coding.proofs.CrcRegisterLemmas.{crc32c_is}
use Rattle.coding.proofs.CrcKernel.{fed_none, fed_next, fed_all}
use Rattle.coding.proofs.crc.crc32c_plain.Goals as goal

pub loop-byte-init : goal.loop-byte-init
loop-byte-init c = sym (fed_none 0xffffffff)

pub loop-byte-preserved : goal.loop-byte-preserved
loop-byte-preserved c =
    c.eight_steps-register.ensures ∙ ap (register_after_steps 8) (ap₂ bit_xor c.loop-byte.invariant c.from.ensures)
    ∙ fed_next 0xffffffff c.args.bytes.now c.loop-byte.byte-index c.loop-byte-test.true (omega (arith, c.type_inv.bytes c.loop-byte.byte-index))

pub returns : goal.returns
returns c =
    ap (λ x. 0xffffffff - x) (c.loop-byte.invariant ∙ fed_all 0xffffffff c.args.bytes.now c.loop-byte.byte-index c.loop-byte-test.false)
    ∙ sym (crc32c_is c.args.bytes.now)
