use Rattle.std.proofs.Common.{ℕ, List, sym, subst}
use Rattle.std.specs.Prelude.{slice_index_or, Ok}
use Rattle.coding.specs.Answers.{EqualOrMemory}
use Rattle.table.specs.Table.{index_keys, IndexKeys}
use Rattle.cut.proofs.LastKeys.{last_unknown}
use Rattle.cut.proofs.Keys.{planned_at, between_known, above_known}
use Rattle.cut.proofs.table_index.index_key.Goals as goal

pub unreachable-requires : goal.unreachable-requires
unreachable-requires g c =
    (planned_at c.args.interval c.args.blocks.now c.args.place c.index-blocks-place.result c.requires.within c.requires.planned).some
    (last_unknown (slice_index_or c.args.blocks.now c.args.place c.index-blocks-place.result).entries.entries (sym c.in_default.ensures))

pub returns-then-place-blocks : goal.returns-then-place-blocks
unfolding index_keys
returns-then-place-blocks g c =
    let keys : IndexKeys = index_keys g.C.Comparator.cmp g.C.Comparator.short_keys in
    subst (λ (k : List ℕ). EqualOrMemory (λ own. own) c.internal_separator.result (Ok k))
    (between_known keys c.args.interval c.args.blocks.now c.args.place c.index-blocks-place.result c.index-blocks-place-then-place-blocks.result c.in-Some.last.bytes.now c.key.result.bytes.now c.first-next.result c.if-place-blocks.true c.requires.planned c.in-Some.ensures c.first-next.ensures c.key.ensures)
    c.internal_separator.ensures.separator

pub returns-else-place-blocks : goal.returns-else-place-blocks
unfolding index_keys
returns-else-place-blocks g c =
    let keys : IndexKeys = index_keys g.C.Comparator.cmp g.C.Comparator.short_keys in
    subst (λ (k : List ℕ). EqualOrMemory (λ own. own) c.internal_successor.result (Ok k))
    (above_known keys c.args.blocks.now c.args.place c.index-blocks-place.result c.in-Some.last.bytes.now c.requires.within c.if-place-blocks.false c.in-Some.ensures)
    c.internal_successor.ensures.successor
