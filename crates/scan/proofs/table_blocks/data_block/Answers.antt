use Rattle.std.proofs.Common.{◌≡◌, Ok, ap, ◌∙◌}
use Rattle.table.specs.Handle.{handle_reading}
use Rattle.table.specs.IndexReading.{block_in, one_handle, stored_at}
use Rattle.scan.proofs.Giving.{gives_from}
use Rattle.scan.proofs.Parts.{named_there, not_refused, value_is}
use Rattle.scan.proofs.table_blocks.data_block.Goals as goal

pub returns-in_err-handle-clause-given : goal.returns-in_err-handle-clause-given
returns-in_err-handle-clause-given g c bytes entries file named =
    let there = named_there bytes c.args.value.now entries named in
    absurd (not_refused (one_handle (handle_reading c.args.value.now)) c.in_err-handle.field-0.0 there.handle c.in_err-handle.ensures there.spelled)

pub returns-clause-given : goal.returns-clause-given
returns-clause-given g c bytes entries file named =
    let there = named_there bytes c.args.value.now entries named in
    let same = value_is (one_handle (handle_reading c.args.value.now)) c.in_ok-handle.handle there.handle c.in_ok-handle.ensures there.spelled in
    gives_from c.stored_block.result (λ part. part.items ≡ there.stored) (λ part. block_in part.items ≡ Ok entries) (λ part is. ap block_in is ∙ there.block)
    (c.stored_block.ensures.given bytes there.stored file (ap (stored_at bytes) same ∙ there.place))
