use Rattle.std.proofs.Common.{sym, ap, subst}
use Rattle.cut.specs.BlockInProgress.{IsMetered}
use Rattle.cut.proofs.Metered.{metered_first}
use Rattle.cut.proofs.open_block.OpenBlock.new.Goals as goal

pub invariant_of-result : goal.invariant_of-result
invariant_of-result c =
    subst (λ q. IsMetered c.args.interval q 8 0) (sym (ap (λ s. s.entries) c.at.ensures)) (metered_first c.args.interval c.requires.positive c.requires.limited)
