use Rattle.std.proofs.Common.{◌-◌, ap, sym, ◌∙◌}
use Rattle.coding.proofs.CrcRegisterLemmas.{crc32c_is}
use Rattle.coding.proofs.crc.crc32c.Goals as goal

pub returns : goal.returns
returns c = ap (λ x. 0xffffffff - x) c.advanced.ensures ∙ sym (crc32c_is c.args.bytes.now)
