use Rattle.std.proofs.Common.{◌-◌, ◌++◌, ap, sym, ◌∙◌}
use Rattle.coding.specs.Crc.{bits_of}
use Rattle.coding.specs.CrcRegister.{register_after_bits}
use Rattle.coding.proofs.CrcRegisterLemmas.{crc32c_is}
use Rattle.coding.proofs.CrcKernel.{fed_bytes-append}
use Rattle.coding.proofs.crc.crc32c_pair.Goals as goal

pub returns : goal.returns
returns c =
    ap (λ x. 0xffffffff - x)
    (c.advanced.ensures ∙ ap (λ r. register_after_bits r (bits_of c.args.second.now)) c.advanced-register.ensures
    ∙ sym (fed_bytes-append 0xffffffff c.args.first.now c.args.second.now))
    ∙ sym (crc32c_is (c.args.first.now ++ c.args.second.now))
