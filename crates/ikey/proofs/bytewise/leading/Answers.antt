use Rattle.std.proofs.Common.{arith}
use Rattle.ikey.proofs.Heads.{head_is}
use Rattle.ikey.proofs.bytewise.leading.Goals as goal

pub returns : goal.returns
returns c = head_is c.args.key.now c.read_u128.result (λ i. omega (arith, c.type_inv.key i)) c.read_u128.ensures
