use Rattle.block.proofs.Built.{IsBuilt-nil}
use Rattle.block.proofs.builder.BlockBuilder.clear.Goals as goal

pub invariant_of-self : goal.invariant_of-self
invariant_of-self c =
    rw (c.clear.ensures.items, c.clear-2.ensures.items, c.clear-3.ensures.items) (IsBuilt-nil c.self.inside.interval c.self.invariant.interval_pos c.self.invariant.interval_le)
