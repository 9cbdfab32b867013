use Rattle.std.proofs.Common.{eqb, arith}
use Rattle.std.proofs.lemmas.List.Sums.{common_prefix_len-le}
use Rattle.block.proofs.layout.shared_len.Goals as goal

pub returns-else-since-eq0-clause-within : goal.returns-else-since-eq0-clause-within
returns-else-since-eq0-clause-within c =
    let le = common_prefix_len-le eqb c.args.before.now c.args.key.now in
    omega (arith, le.1)
