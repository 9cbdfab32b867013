use Rattle.std.proofs.Common.{arith}
use Rattle.store.proofs.picked_outcome.edit_is_bytes.Goals as goal

pub returns : goal.returns
returns c i = omega (arith, c.type_inv.edit i)
