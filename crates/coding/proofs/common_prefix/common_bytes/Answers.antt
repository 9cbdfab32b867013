use Rattle.std.proofs.Common.{nat_eq, arith}
use Rattle.std.proofs.lemmas.List.Sums.{common_prefix_len-le}
use Rattle.coding.proofs.common_prefix.common_bytes.Goals as goal

pub returns : goal.returns
returns c = omega (arith, common_prefix_len-le nat_eq c.args.a.now c.args.b.now)
