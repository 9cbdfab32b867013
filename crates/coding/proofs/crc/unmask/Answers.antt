use Rattle.std.proofs.Common.{ℕ, ◌+◌, ◌-◌, ◌%◌, ◌^◌, refl, ap, ◌∙◌, arith}
use Rattle.coding.specs.Crc.{masked}
use Rattle.coding.proofs.CrcMask.{rotated_left, masked-rotated_left, rotated_left-masked}
use Rattle.coding.proofs.crc.unmask.Goals as goal

pub returns-clause-mask_undone : goal.returns-clause-mask_undone
returns-clause-mask_undone c =
    let n : ℕ = (c.args.masked_crc + (2 ^ 32 - 0xa282ead8)) % 2 ^ 32 in
    ap masked (c.rotate_left.ensures ∙ rotated_left n (omega arith))
    ∙ masked-rotated_left n c.args.masked_crc (omega arith) refl

pub returns-clause-only : goal.returns-clause-only
returns-clause-only c crc fits is =
    let n : ℕ = (c.args.masked_crc + (2 ^ 32 - 0xa282ead8)) % 2 ^ 32 in
    c.rotate_left.ensures ∙ rotated_left n (omega arith)
    ∙ rotated_left-masked n c.args.masked_crc crc fits is refl
