use Rattle.std.proofs.Common.{List, length, map, ◌≡◌, sym, ap, subst, ◌∙◌, arith}
use Rattle.std.specs.Vec.{with_items}
use Rattle.std.proofs.lemmas.List.{with_items_is}
use Rattle.std.proofs.lemmas.Result.{on_ok_weaker, on_err_weaker}
use Rattle.table.specs.EncodedEntry.{Entry}
use Rattle.table.specs.EntriesFrom.{entries_from}
use Rattle.merge.specs.MergedLists.{merged}
use Rattle.merge.specs.Seeks.{each_from, EachLeavesFrom}
use Rattle.merge.proofs.Merges.{merged_from, leaves_merged}
use Rattle.merge.proofs.merging_cursor.MergingCursor.seek.Goals as goal

pub returns-clause-sought : goal.returns-clause-sought
returns-clause-sought g c =
    let cmp = g.C.Comparator.cmp in
    let remaining = g.S.Entries.remaining in
    let target = c.args.target.bytes.now in
    let same : length c.seek_all-sought.new.cursors ≡ c.self.inside.cursors.len = omega (arith, c.seek_all-sought.auto.cursors, c.as_mut_slice-cursors.ensures.len) in
    on_ok_weaker c.seek_all-sought.result
    (λ sought.
    ap (map remaining) (with_items_is c.self.inside.cursors c.seek_all-sought.new.cursors same)
    ∙ sought ∙ ap (λ cursors. each_from cmp target (map remaining cursors)) c.as_mut_slice-cursors.ensures.value
    ∙ ap (each_from cmp target) c.self.view_is
    ) c.seek_all-sought.ensures.ok

pub returns-clause-ok : goal.returns-clause-ok
returns-clause-ok g c =
    let cmp = g.C.Comparator.cmp in
    let remaining = g.S.Entries.remaining in
    let target = c.args.target.bytes.now in
    let lists : List (List Entry) = map remaining c.self.inside.cursors.items in
    let same : length c.seek_all-sought.new.cursors ≡ c.self.inside.cursors.len = omega (arith, c.seek_all-sought.auto.cursors, c.as_mut_slice-cursors.ensures.len) in
    on_ok_weaker c.seek_all-sought.result
    (λ sought.
    ap (λ cursors. merged cmp (map remaining cursors)) (with_items_is c.self.inside.cursors c.seek_all-sought.new.cursors same)
    ∙ ap (merged cmp) (sought ∙ ap (λ cursors. each_from cmp target (map remaining cursors)) c.as_mut_slice-cursors.ensures.value)
    ∙ merged_from cmp g.met.C.Comparator.total target lists c.self.invariant.tournament.ordered
    ∙ ap (λ ls. entries_from cmp target (merged cmp ls)) c.self.view_is
    ) c.seek_all-sought.ensures.ok

pub returns-clause-left : goal.returns-clause-left
returns-clause-left g c =
    let cmp = g.C.Comparator.cmp in
    let remaining = g.S.Entries.remaining in
    let target = c.args.target.bytes.now in
    let same : length c.seek_all-sought.new.cursors ≡ c.self.inside.cursors.len = omega (arith, c.seek_all-sought.auto.cursors, c.as_mut_slice-cursors.ensures.len) in
    on_err_weaker c.seek_all-sought.result
    (λ left.
    subst (λ (old : List (List Entry)). EachLeavesFrom cmp target old (map remaining (with_items c.self.inside.cursors c.seek_all-sought.new.cursors).items)) c.self.view_is
    (subst (λ cursors. EachLeavesFrom cmp target (map remaining c.self.inside.cursors.items) (map remaining cursors)) (sym (with_items_is c.self.inside.cursors c.seek_all-sought.new.cursors same))
    (subst (λ cursors. EachLeavesFrom cmp target (map remaining cursors) (map remaining c.seek_all-sought.new.cursors)) c.as_mut_slice-cursors.ensures.value left))
    ) c.seek_all-sought.ensures.err

pub returns-clause-err : goal.returns-clause-err
returns-clause-err g c =
    let cmp = g.C.Comparator.cmp in
    let remaining = g.S.Entries.remaining in
    on_err_weaker c.seek_all-sought.result
    (leaves_merged cmp g.met.C.Comparator.total c.args.target.bytes.now c.args.self.now
    (map remaining (with_items c.self.inside.cursors c.seek_all-sought.new.cursors).items))
    (returns-clause-left g c)
