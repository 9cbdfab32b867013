use Rattle.std.proofs.Common.{◌≡◌, ℕ, suc, ◌+◌, List, length, take, sym, ap, ◌∙◌, arith}
use Rattle.std.specs.Prelude.{Some}
use Rattle.cut.specs.declared.planned_block.PlannedBlock.{PlannedBlock}
use Rattle.cut.specs.OutputInProgress.{entries_in_blocks}
use Rattle.cut.proofs.BlockEnds.{end_at, end_none, front_le}
use Rattle.cut.proofs.block_summary.end_of.Goals as goal

pub returns-then-block-blocks : goal.returns-then-block-blocks
returns-then-block-blocks c = sym (end_none 0 c.args.blocks.now c.args.block c.if-block-blocks.true)

pub count_entries-requires : goal.count_entries-requires
count_entries-requires c = omega (arith, front_le c.args.blocks.now (c.args.block + 1))

pub returns : goal.returns
returns c =
    let blocks : List PlannedBlock = c.args.blocks.now in
    let next : c.args.block + 1 ≡ suc c.args.block = omega arith in
    let count : c.count_entries.result ≡ 0 + length (entries_in_blocks (take (suc c.args.block) blocks)) =
    omega (arith, c.count_entries.ensures, ap (λ (n : ℕ). length (entries_in_blocks (take n blocks))) next) in
    ap (λ (n : ℕ). Some n) count ∙ sym (end_at 0 blocks c.args.block c.if-block-blocks.false)
