use Rattle.std.proofs.Common.{◌^◌, sym, ◌∙◌, rules}
use Rattle.coding.proofs.Varints.{reads_varint}
use Rattle.table.specs.Handle.{handle_reading}
use Rattle.table.proofs.handle.BlockHandle.read.Goals as goal

pub split_at-requires : goal.split_at-requires
split_at-requires c =
    (reads_varint (2 ^ 64) c.args.bytes.now c.in_ok-offset.offset c.in_ok-offset.used (sym c.read_u64_varint.ensures ∙ c.in_ok-offset.was)).within

pub split_at-requires-2 : goal.split_at-requires-2
split_at-requires-2 c =
    (reads_varint (2 ^ 64) c.split_at.result.1.now c.in_ok-size.size c.in_ok-size.used (sym c.read_u64_varint-2.ensures ∙ c.in_ok-size.was)).within

pub returns : goal.returns
unfolding handle_reading
returns c = search rules
