use Rattle.std.proofs.Common.{List, length, map, ◌<◌, subst}
use Rattle.std.specs.Prelude.{IsTrue, ◌↔◌}
use Rattle.table.specs.EncodedEntry.{Entry}
use Rattle.merge.specs.MergedLists.{entries_of_lists, merged}
use Rattle.merge.specs.LeastList.{IsMerging}
use Rattle.merge.proofs.SortedEntries.{sorted_never_falls}
use Rattle.merge.proofs.Leasts.{has_entries}
use Rattle.merge.proofs.merging_cursor.MergingCursor.valid.Goals as goal

pub returns-clause-some : goal.returns-clause-some
returns-clause-some g c =
    let cmp = g.C.Comparator.cmp in
    let remaining = g.S.Entries.remaining in
    let lists : List (List Entry) = map remaining c.self.inside.cursors.items in
    let next : IsMerging cmp lists c.next_place.result = subst (λ cursors. IsMerging cmp (map remaining cursors) c.next_place.result) c.as_slice-cursors.ensures.value c.next_place.ensures in
    subst (λ (ls : List (List Entry)). IsTrue c.is_some.result ↔ (0 < length (merged cmp ls))) c.self.view_is
    (has_entries cmp g.met.C.Comparator.total lists c.next_place.result next c.is_some.result c.is_some.ensures)

pub returns-clause-ordered : goal.returns-clause-ordered
returns-clause-ordered g c = sorted_never_falls g.C.Comparator.cmp g.met.C.Comparator.total (entries_of_lists c.args.self.now)
