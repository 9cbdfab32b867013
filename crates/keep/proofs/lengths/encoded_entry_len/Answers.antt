use Rattle.std.proofs.Common.{◌≡◌, length, ap, arith}
use Rattle.coding.specs.Varint.{varint}
use Rattle.coding.proofs.Varints.{varint_small}
use Rattle.keep.proofs.lengths.encoded_entry_len.Goals as goal

pub returns-then-value-lt128 : goal.returns-then-value-lt128
returns-then-value-lt128 c =
    let shared : length (varint c.args.shared) ≡ 1 = ap length (varint_small c.args.shared c.if-shared-lt128.true) in
    let unshared : length (varint c.args.unshared) ≡ 1 = ap length (varint_small c.args.unshared c.if-unshared-lt128.true) in
    let value : length (varint c.args.value) ≡ 1 = ap length (varint_small c.args.value c.if-value-lt128.true) in
    omega (arith, shared, unshared, value, c.if-unshared-lt128.true, c.if-value-lt128.true)
