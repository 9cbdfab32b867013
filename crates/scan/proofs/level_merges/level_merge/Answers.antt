use Rattle.std.proofs.Common.{◌≡◌, List, map, sym, ap, ◌∙◌}
use Rattle.std.proofs.lemmas.List.{map-id}
use Rattle.table.proofs.Binds.{ok_is}
use Rattle.table.specs.Key.{user_of}
use Rattle.block.specs.EncodedEntry.{Entry}
use Rattle.merge.specs.MergedLists.{entries_of_lists, merged, sorted_entries}
use Rattle.merge.proofs.SortedEntries.{filter-sorted}
use Rattle.reads.specs.Ranges.{key_range}
use Rattle.merge.specs.InRange.{entries_in, is_in_range}
use Rattle.scan.proofs.level_merges.level_merge.Goals as goal

pub returns-clause-merge : goal.returns-clause-merge
returns-clause-merge g c =
    let cmp = g.C.Comparator.cmp in
    let range = key_range c.args.range in
    let cursors : List (List Entry) = c.in_ok-cursors.cursors.items in
    let lists : List (List Entry) = c.in_ok-new.field-0 in
    let each : lists ≡ map (λ (x : List Entry). x) cursors = sym (ok_is _ _ c.in_ok-new.ensures) in
    let same : lists ≡ cursors = each ∙ map-id cursors in
    ap (λ (ls : List (List Entry)). entries_in cmp range (merged cmp ls)) same
    ∙ filter-sorted cmp g.met.C.Comparator.total (λ (e : Entry). is_in_range cmp range (user_of e.key)) (entries_of_lists cursors)
    ∙ ap (sorted_entries cmp) c.in_ok-cursors.ensures.held
