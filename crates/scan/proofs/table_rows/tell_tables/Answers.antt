use Rattle.std.proofs.Common.{◌≡◌, ℕ, List, map, None, refl, sym, ap, subst, ◌∙◌}
use Rattle.std.proofs.lemmas.List.{map-id}
use Rattle.table.proofs.Binds.{ok_is}
use Rattle.block.specs.EncodedEntry.{Entry}
use Rattle.merge.specs.MergedLists.{entries_of_lists, sorted_entries}
use Rattle.reads.specs.Ranges.{key_range}
use Rattle.merge.specs.InRange.{entries_in}
use Rattle.scan.specs.Row.{Row}
use Rattle.scan.specs.EntryRows.{rows_after, sorted_rows}
use Rattle.scan.specs.RowParts.{AreTelling}
use Rattle.scan.proofs.ScanAnswers.{entries_each}
use Rattle.scan.proofs.Told.{handed_begun, refused_first}
use Rattle.scan.proofs.table_rows.tell_tables.Goals as goal

pub returns-in_err-lent-clause-told : goal.returns-in_err-lent-clause-told
returns-in_err-lent-clause-told g c =
    let tells = g.T.RowTaker.tells in
    let rows = sorted_rows g.C.Comparator.cmp (key_range c.args.range) c.args.at (entries_each c.args.tables.now) in
    handed_begun tells rows c.args.taker.now c.args.taker.now c.args.limit c.from_residual.result c.in_err-lent.field-0.0 c.from_residual.ensures.1 (refused_first tells rows c.args.taker.now c.args.taker.now c.args.limit refl)

pub returns-in_err-cursors-clause-told : goal.returns-in_err-cursors-clause-told
returns-in_err-cursors-clause-told g c =
    let tells = g.T.RowTaker.tells in
    let rows = sorted_rows g.C.Comparator.cmp (key_range c.args.range) c.args.at (entries_each c.args.tables.now) in
    handed_begun tells rows c.args.taker.now c.args.taker.now c.args.limit c.from_residual-in_err-cursors.result c.in_err-cursors.field-0.0 c.from_residual-in_err-cursors.ensures.1 (refused_first tells rows c.args.taker.now c.args.taker.now c.args.limit refl)

pub returns-in_err-merging-clause-told : goal.returns-in_err-merging-clause-told
returns-in_err-merging-clause-told g c =
    let tells = g.T.RowTaker.tells in
    let rows = sorted_rows g.C.Comparator.cmp (key_range c.args.range) c.args.at (entries_each c.args.tables.now) in
    handed_begun tells rows c.args.taker.now c.args.taker.now c.args.limit c.from_residual-in_err-merging.result c.in_err-merging.field-0.0 c.from_residual-in_err-merging.ensures.1 (refused_first tells rows c.args.taker.now c.args.taker.now c.args.limit refl)

pub returns-clause-told : goal.returns-clause-told
returns-clause-told g c =
    let cmp = g.C.Comparator.cmp in
    let range = key_range c.args.range in
    let at : ℕ = c.args.at in
    let tells = g.T.RowTaker.tells in
    let cursors : List (List Entry) = c.in_ok-cursors.cursors.items in
    let each : c.in_ok-merging.merging ≡ map (λ (x : List Entry). x) cursors = sym (ok_is _ _ c.in_ok-merging.ensures) in
    let merging : c.in_ok-merging.merging ≡ cursors = each ∙ map-id cursors in
    let tables : map (λ t. t.now.entries) c.deref.result.now ≡ entries_each c.args.tables.now = ap (map (λ t. t.now.entries)) c.deref.ensures.value ∙ c.in_ok-lent.ensures.lent in
    let held : entries_in cmp range (entries_of_lists c.in_ok-merging.merging) ≡ entries_in cmp range (entries_of_lists (entries_each c.args.tables.now)) =
    ap (λ (ls : List (List Entry)). entries_in cmp range (entries_of_lists ls)) merging ∙ c.in_ok-cursors.ensures.held ∙ ap (λ (ls : List (List Entry)). entries_in cmp range (entries_of_lists ls)) tables in
    subst (λ (rs : List Row). AreTelling tells rs c.args.taker.now c.args.limit c.tell_merged.new.taker c.tell_merged.result) (ap (λ (es : List Entry). rows_after at None (sorted_entries cmp es)) held) c.tell_merged.ensures.told
