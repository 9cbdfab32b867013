use Rattle.std.proofs.Common.{List, ◌++◌, ap, ◌∙◌}
use Rattle.table.specs.EncodedEntry.{Entry}
use Rattle.merge.specs.MergedLists.{entries_of_lists}
use Rattle.split.specs.Ranges.{KeyRange, key_range}
use Rattle.merge.specs.InRange.{entries_in}
use Rattle.merge.proofs.Reaching.{in_pushed, in_left_out}
use Rattle.merge.proofs.range_cursors.add_cursor.Goals as goal

pub returns-then-misses-clause-held : goal.returns-then-misses-clause-held
returns-then-misses-clause-held g c =
    in_left_out g.C.Comparator.cmp g.met.C.Comparator.total (key_range c.args.range) c.args.cursors.now.items c.args.table.now.entries (c.misses.ensures c.if-misses.true)

pub returns-clause-held : goal.returns-clause-held
returns-clause-held g c =
    let cmp = g.C.Comparator.cmp in
    let range : KeyRange = key_range c.args.range in
    let olds : List (List Entry) = c.args.cursors.now.items in
    let cursor : List Entry = c.in_ok-cursor.cursor in
    ap (λ (ls : List (List Entry)). entries_in cmp range (entries_of_lists ls)) c.in_ok-push.ensures.items
    ∙ in_pushed cmp g.met.C.Comparator.total range olds cursor ∙ ap (λ (es : List Entry). entries_in cmp range (entries_of_lists olds) ++ es) c.in_ok-cursor.ensures.held
