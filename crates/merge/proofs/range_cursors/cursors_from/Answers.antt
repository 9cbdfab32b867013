use Rattle.std.proofs.Common.{◌++◌, List, map, take, sym, ap, ◌∙◌, arith}
use Rattle.table.specs.EncodedEntry.{Entry}
use Rattle.merge.specs.MergedLists.{entries_of_lists}
use Rattle.split.specs.Ranges.{KeyRange, key_range}
use Rattle.merge.specs.InRange.{entries_in}
use Rattle.merge.proofs.Reaching.{in_pushed, map_next}
use Rattle.merge.proofs.range_cursors.cursors_from.Goals as goal

pub loop-table-preserved : goal.loop-table-preserved
loop-table-preserved g c =
    let cmp = g.C.Comparator.cmp in
    let range : KeyRange = key_range c.args.range in
    let olds : List (List Entry) = map (λ t. t.now.entries) (take c.loop-table.table-index c.args.tables.now) in
    let old : List Entry = c.table-item.result.now.entries in
    let front = map_next (λ t. t.now.entries) c.args.tables.now c.loop-table.table-index c.table-item.result (omega arith) c.table-item.is in
    c.in_ok-add_cursor.ensures.held ∙ ap (λ (es : List Entry). es ++ entries_in cmp range old) c.loop-table.invariant
    ∙ sym (in_pushed cmp g.met.C.Comparator.total range olds old) ∙ ap (λ (ls : List (List Entry)). entries_in cmp range (entries_of_lists ls)) (sym front)
