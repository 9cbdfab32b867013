use Rattle.std.proofs.Common.{sym}
use Rattle.cut.proofs.BlockEnds.{part_at, part_none}
use Rattle.cut.proofs.block_summary.entries_of.Goals as goal

pub returns-then-block-blocks : goal.returns-then-block-blocks
returns-then-block-blocks c = sym (part_none c.args.blocks.now c.args.block c.if-block-blocks.true)

pub returns : goal.returns
returns c = sym (part_at c.args.blocks.now c.args.block c.index-blocks-block.result c.if-block-blocks.false)
