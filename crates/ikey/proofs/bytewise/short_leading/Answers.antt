use Rattle.std.proofs.Common.{◌-◌, length, arith}
use Rattle.ikey.proofs.Heads.{padded_head_is}
use Rattle.ikey.proofs.bytewise.short_leading.Goals as goal

pub returns : goal.returns
returns c =
    padded_head_is c.args.key.now c.with_zeros-bytes.result (16 - length c.args.key.now) c.read_u128.result (λ i. omega (arith, c.type_inv.key i)) c.with_zeros-bytes.ensures c.read_u128.ensures
