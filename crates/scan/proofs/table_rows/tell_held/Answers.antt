use Rattle.std.proofs.Common.{List, refl, sym, subst, ◌∙◌}
use Rattle.table.proofs.Binds.{ok_is}
use Rattle.reads.specs.Ranges.{key_range}
use Rattle.reads.specs.Tables.{NumberedContents}
use Rattle.scan.specs.EntryRows.{sorted_rows}
use Rattle.scan.specs.RowParts.{AreTelling}
use Rattle.scan.proofs.ScanAnswers.{entries_each}
use Rattle.scan.proofs.Told.{handed_begun, refused_first}
use Rattle.scan.proofs.table_rows.tell_held.Goals as goal

pub returns-in_err-tables-clause-told : goal.returns-in_err-tables-clause-told
returns-in_err-tables-clause-told g c =
    let tells = g.T.RowTaker.tells in
    let rows = sorted_rows g.C.Comparator.cmp (key_range c.args.range) c.args.at (entries_each c.args.held.now) in
    handed_begun tells rows c.args.taker.now c.args.taker.now c.args.limit c.from_residual.result c.in_err-tables.field-0.0 c.from_residual.ensures.1 (refused_first tells rows c.args.taker.now c.args.taker.now c.args.limit refl)

pub returns-clause-told : goal.returns-clause-told
returns-clause-told g c =
    let tells = g.T.RowTaker.tells in
    let same = c.deref.ensures.value ∙ sym (ok_is _ _ c.in_ok-tables.ensures.tables) in
    subst (λ (ts : List NumberedContents). AreTelling tells (sorted_rows g.C.Comparator.cmp (key_range c.args.range) c.args.at (entries_each ts)) c.args.taker.now c.args.limit c.tell_tables.new.taker c.tell_tables.result) same c.tell_tables.ensures.told
