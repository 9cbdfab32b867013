use Rattle.std.proofs.Common.{◌^◌, sym, ◌∙◌}
use Rattle.coding.proofs.Varints.{reads_varint}
use Rattle.block.proofs.front_entry.length_at.Goals as goal

pub split_at-requires : goal.split_at-requires
split_at-requires c = (reads_varint (2 ^ 32) c.args.bytes.now c.in_ok-number.number c.in_ok-number.used (sym c.read_u32_varint.ensures ∙ c.in_ok-number.was)).within
