use Rattle.std.proofs.Common.{◌≡◌, List, [], length, Err, sym, ap, inr, ◌∙◌, arith}
use Rattle.block.specs.EncodedEntry.{Entry}
use Rattle.table.specs.fault.FaultName.TheVariants.{Empty}
use Rattle.table.specs.IndexReading.{block_in}
use Rattle.table.proofs.Binds.{ok_is}
use Rattle.table.proofs.Refusals.{only_memory}
use Rattle.table.proofs.Walks.{none_valid, some_valid}
use Rattle.scan.proofs.Giving.{refused}
use Rattle.scan.proofs.Others.{block_refused, other_handed}
use Rattle.scan.proofs.Parts.{not_refused}
use Rattle.scan.proofs.block_search.entries_ahead.Goals as goal

pub returns-in_err-block-clause-other : goal.returns-in_err-block-clause-other
returns-in_err-block-clause-other g c = other_handed c.from_residual.result c.in_err-block.field-0.0 c.from_residual.ensures.1 (block_refused c.args.stored.now c.in_err-block.field-0.0 c.in_err-block.ensures)

pub returns-in_err-block-clause-empty : goal.returns-in_err-block-clause-empty
returns-in_err-block-clause-empty g c is =
    let e = c.in_err-block.field-0.0 in
    let stored = c.args.stored.now in
    refused c.from_residual.result e Empty c.from_residual.ensures.1 (inr (inr (only_memory e (block_in stored ≡ Err e) (λ err. not_refused (block_in stored) e [] (sym err) is) c.in_err-block.ensures)))

pub returns-then-not-valid-clause-given : goal.returns-then-not-valid-clause-given
returns-then-not-valid-clause-given g c entries block keys some =
    let cursor : List Entry = c.in_ok-cursor.cursor in
    let none : length cursor ≡ 0 = none_valid c.valid.result cursor c.valid.ensures.1 c.if-not-valid.true in
    let is : cursor ≡ entries = c.in_ok-cursor.ensures.all ∙ ok_is _ _ (sym c.in_ok-block.ensures ∙ block) in
    absurd (omega (arith, some, none, ap length is))

pub returns-in_err-walk_to-clause-empty : goal.returns-in_err-walk_to-clause-empty
returns-in_err-walk_to-clause-empty g c block =
    let cursor : List Entry = c.in_ok-cursor.cursor in
    let is : cursor ≡ [] = c.in_ok-cursor.ensures.all ∙ ok_is _ _ (sym c.in_ok-block.ensures ∙ block) in
    absurd (some_valid c.valid.result cursor c.valid.ensures.0 c.if-not-valid.false is)

pub returns-clause-empty : goal.returns-clause-empty
returns-clause-empty g c block =
    let cursor : List Entry = c.in_ok-cursor.cursor in
    let is : cursor ≡ [] = c.in_ok-cursor.ensures.all ∙ ok_is _ _ (sym c.in_ok-block.ensures ∙ block) in
    absurd (some_valid c.valid.result cursor c.valid.ensures.0 c.if-not-valid.false is)
