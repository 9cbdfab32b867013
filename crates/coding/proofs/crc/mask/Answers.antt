use Rattle.std.proofs.Common.{◌+◌, ◌%◌, ◌^◌, ap, ◌∙◌, arith}
use Rattle.coding.proofs.CrcMask.{rotated_right}
use Rattle.coding.proofs.crc.mask.Goals as goal

pub returns : goal.returns
returns c = ap (λ x. (x + 0xa282ead8) % 2 ^ 32) (c.rotate_right.ensures ∙ rotated_right c.args.crc (omega arith))
