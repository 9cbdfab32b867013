use Rattle.block.proofs.Built.{IsBuilt-nil}
use Rattle.block.proofs.builder.BlockBuilder.new.Goals as goal

pub invariant_of-result : goal.invariant_of-result
invariant_of-result c = rw (c.new.ensures.items, c.new-2.ensures.items, c.new-3.ensures.items) (IsBuilt-nil c.args.interval c.requires.positive c.requires.limited)
