use Rattle.std.proofs.Common.{◌≡◌, length, take}
use Rattle.table.specs.Table.{index_keys, index_from, stored_blocks}
use Rattle.cut.specs.PlannedBlocks.{block_lists}
use Rattle.cut.proofs.table_index.index_block.Given as goal

abbrev pub invariant-loop-place : goal.invariant-loop-place
invariant-loop-place g l =
    let keys = index_keys g.C.Comparator.cmp g.C.Comparator.short_keys in
    (l.index ≡ record { interval = 1; entries = take l.place (index_from keys l.fn.interval 0 (block_lists l.fn.blocks)) })
    × (l.offset ≡ length (stored_blocks l.fn.interval (take l.place (block_lists l.fn.blocks))))
