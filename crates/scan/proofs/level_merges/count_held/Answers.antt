use Rattle.std.proofs.Common.{◌≡◌, List, length, map, sym, ap, subst, ◌∙◌}
use Rattle.std.specs.Prelude.{OnOk}
use Rattle.std.proofs.lemmas.List.{length-map}
use Rattle.table.proofs.Binds.{ok_is}
use Rattle.block.specs.EncodedEntry.{Entry}
use Rattle.merge.specs.MergedLists.{entries_of_lists}
use Rattle.reads.specs.Ranges.{key_range}
use Rattle.merge.specs.InRange.{entries_in}
use Rattle.reads.specs.Tables.{NumberedContents}
use Rattle.scan.specs.Counts.{AreAmountsCounted}
use Rattle.scan.specs.ListParts.{in_parts}
use Rattle.scan.proofs.ScanAnswers.{entries_each}
use Rattle.scan.proofs.level_merges.count_held.Goals as goal

pub count_tables-requires-clause-same : goal.count_tables-requires-clause-same
count_tables-requires-clause-same g c =
    let tables = c.deref.ensures.value ∙ sym (ok_is _ _ c.in_ok-tables.ensures.tables) in
    let lent : map (λ t. t.now.entries) c.deref-2.result.now ≡ entries_each c.args.held.now = ap (map (λ t. t.now.entries)) c.deref-2.ensures.value ∙ c.in_ok-lent.ensures.lent ∙ ap entries_each tables in
    c.requires.same ∙ sym (length-map c.args.held.now (λ (t : NumberedContents). t.contents.entries)) ∙ sym (ap length lent) ∙ length-map c.deref-2.result.now (λ t. t.now.entries)

pub returns-clause-counted : goal.returns-clause-counted
returns-clause-counted g c =
    let cmp = g.C.Comparator.cmp in
    let range = key_range c.args.range in
    let tables = c.deref.ensures.value ∙ sym (ok_is _ _ c.in_ok-tables.ensures.tables) in
    let lent : map (λ t. t.now.entries) c.deref-2.result.now ≡ entries_each c.args.held.now = ap (map (λ t. t.now.entries)) c.deref-2.ensures.value ∙ c.in_ok-lent.ensures.lent ∙ ap entries_each tables in
    subst (λ (ls : List (List Entry)). OnOk c.count_tables.result (AreAmountsCounted c.args.last (map (λ (lists : List (List Entry)). entries_in cmp range (entries_of_lists lists)) (in_parts (map (λ files. length files.items) c.args.levels.now) ls)) c.args.amounts.now c.count_tables.new.amounts)) lent c.count_tables.ensures.counted
