use Rattle.std.proofs.Common.{List, ℕ, sym, ap, subst, ◌∙◌}
use Rattle.std.specs.Result.{is_ok}
use Rattle.coding.proofs.Binds.{done, ok_is}
use Rattle.block.specs.EncodedEntry.{Entry, IsBlock}
use Rattle.table.specs.Handle.{HandleBehind}
use Rattle.table.proofs.Walks.{some_handle, some_stored, stands}
use Rattle.table.proofs.named_block.block_named.Goals as goal

pub unreachable-requires : goal.unreachable-requires
unreachable-requires c = some_handle c.args.bytes.now c.args.value.now c.requires (sym c.in_default.ensures)

pub unreachable-requires-in_default-stored_at : goal.unreachable-requires-in_default-stored_at
unreachable-requires-in_default-stored_at c =
    let o : HandleBehind = record { handle = c.in-Some.found.handle; rest = c.in-Some.found.rest.now } in
    some_stored c.args.bytes.now c.args.value.now o c.in_default-stored_at.field-0 c.requires (sym c.in-Some.ensures) (sym c.in_default-stored_at.ensures.reading)

pub reopen_contents-requires-clause-passed : goal.reopen_contents-requires-clause-passed
reopen_contents-requires-clause-passed c =
    let o : HandleBehind = record { handle = c.in-Some.found.handle; rest = c.in-Some.found.rest.now } in
    ap is_ok (stands c.args.bytes.now c.args.value.now c.in-Ok.stored.now o c.requires (sym c.in-Some.ensures) (sym c.in-Ok.ensures.reading)).tests

pub reopen-requires : goal.reopen-requires
reopen-requires c =
    let o : HandleBehind = record { handle = c.in-Some.found.handle; rest = c.in-Some.found.rest.now } in
    let s = stands c.args.bytes.now c.args.value.now c.in-Ok.stored.now o c.requires (sym c.in-Some.ensures) (sym c.in-Ok.ensures.reading) in
    (s.entries, subst (λ (x : List ℕ). IsBlock x s.entries) (ok_is s.contents c.reopen_contents.result.now (sym s.tests ∙ c.reopen_contents.ensures)) s.block)

pub returns : goal.returns
returns c =
    let o : HandleBehind = record { handle = c.in-Some.found.handle; rest = c.in-Some.found.rest.now } in
    let s = stands c.args.bytes.now c.args.value.now c.in-Ok.stored.now o c.requires (sym c.in-Some.ensures) (sym c.in-Ok.ensures.reading) in
    let block : IsBlock c.reopen_contents.result.now s.entries = subst (λ (x : List ℕ). IsBlock x s.entries) (ok_is s.contents c.reopen_contents.result.now (sym s.tests ∙ c.reopen_contents.ensures)) s.block in
    s.whole ∙ ap (λ (q : List Entry). done q) (sym (c.reopen.ensures.only s.entries block))
