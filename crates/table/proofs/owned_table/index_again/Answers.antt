use Rattle.std.proofs.Common.{◌-◌, List, ℕ, sym, ap, subst, ◌∙◌, arith}
use Rattle.std.specs.Result.{is_ok}
use Rattle.coding.proofs.Binds.{done, ok_is}
use Rattle.block.specs.EncodedEntry.{Entry, IsBlock}
use Rattle.table.specs.Footer.{footer_reading}
use Rattle.table.proofs.OwnedTables.{found_index, footer_read, index_stored, some_index}
use Rattle.table.proofs.owned_table.index_again.Goals as goal

pub overflow_sub-bytes : goal.overflow_sub-bytes
overflow_sub-bytes c = omega (arith, (some_index c.args.bytes.now c.requires).there.long)

pub split_at-requires : goal.split_at-requires
split_at-requires c = omega (arith, (some_index c.args.bytes.now c.requires).there.long)

pub unreachable-requires : goal.unreachable-requires
unreachable-requires c = footer_read c.args.bytes.now c.in_default.field-0 c.requires (ap footer_reading (sym c.split_at.ensures.back) ∙ sym c.in_default.ensures)

pub unreachable-requires-in_default-stored_at : goal.unreachable-requires-in_default-stored_at
unreachable-requires-in_default-stored_at c =
    index_stored c.args.bytes.now c.in-Ok.footer c.in_default-stored_at.field-0 c.requires (ap footer_reading (sym c.split_at.ensures.back) ∙ sym c.in-Ok.ensures) (sym c.in_default-stored_at.ensures.reading)

pub reopen_contents-requires-clause-passed : goal.reopen_contents-requires-clause-passed
reopen_contents-requires-clause-passed c =
    ap is_ok (found_index c.args.bytes.now c.in-Ok.footer c.in-Ok-stored_at.stored.now c.requires (ap footer_reading (sym c.split_at.ensures.back) ∙ sym c.in-Ok.ensures) (sym c.in-Ok-stored_at.ensures.reading)).tests

pub reopen-requires : goal.reopen-requires
reopen-requires c =
    let s = found_index c.args.bytes.now c.in-Ok.footer c.in-Ok-stored_at.stored.now c.requires (ap footer_reading (sym c.split_at.ensures.back) ∙ sym c.in-Ok.ensures) (sym c.in-Ok-stored_at.ensures.reading) in
    (s.entries, subst (λ (x : List ℕ). IsBlock x s.entries) (ok_is s.contents c.reopen_contents.result.now (sym s.tests ∙ c.reopen_contents.ensures)) s.block)

pub returns : goal.returns
returns c =
    let s = found_index c.args.bytes.now c.in-Ok.footer c.in-Ok-stored_at.stored.now c.requires (ap footer_reading (sym c.split_at.ensures.back) ∙ sym c.in-Ok.ensures) (sym c.in-Ok-stored_at.ensures.reading) in
    let block : IsBlock c.reopen_contents.result.now s.entries = subst (λ (x : List ℕ). IsBlock x s.entries) (ok_is s.contents c.reopen_contents.result.now (sym s.tests ∙ c.reopen_contents.ensures)) s.block in
    s.whole ∙ ap (λ (q : List Entry). done q) (sym (c.reopen.ensures.only s.entries block))
