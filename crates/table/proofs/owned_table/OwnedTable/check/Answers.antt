use Rattle.std.proofs.Common.{subst, List, ℕ}
use Rattle.std.proofs.lemmas.Result.{err_from_is_err_and}
use Rattle.coding.specs.Answers.{FailsOrMemory}
use Rattle.table.specs.SoundTables.{IsCheckedTable}
use Rattle.table.specs.TableContents.{contents_reading}
use Rattle.table.proofs.CheckedTables.{blocks_are, contents_read}
use Rattle.table.proofs.Steps.{handed_on}
use Rattle.table.proofs.owned_table.OwnedTable.check.Goals as goal

pub returns-in_err-bounds : goal.returns-in_err-bounds
returns-in_err-bounds g c =
    let cmp = g.C.Comparator.cmp in
    let p = err_from_is_err_and c.from_residual.result c.from_residual.ensures.1 in
    let d = c.in_err-bounds.field-0.0 in
    handed_on (λ t. t) c.from_residual.result p.0 d (contents_reading cmp c.args.bytes.items) p.1 p.2
    (subst (λ (bytes : List ℕ). FailsOrMemory d (contents_reading cmp bytes)) c.deref.ensures.value c.in_err-bounds.ensures.err)

pub invariant_of-result : goal.invariant_of-result
invariant_of-result g c =
    subst (λ (bytes : List ℕ). IsCheckedTable g.C.Comparator.cmp bytes c.in_ok-bounds.bounds) c.deref.ensures.value c.in_ok-bounds.ensures.ok

pub returns : goal.returns
returns g c =
    let cmp = g.C.Comparator.cmp in
    let k = subst (λ (bytes : List ℕ). IsCheckedTable cmp bytes c.in_ok-bounds.bounds) c.deref.ensures.value c.in_ok-bounds.ensures.ok in
    contents_read cmp c.args.bytes.items k.has.checked.blocks (blocks_are cmp c.args.bytes.items k.named c.in_ok-bounds.bounds.smallest c.in_ok-bounds.bounds.largest k.has.checked)
