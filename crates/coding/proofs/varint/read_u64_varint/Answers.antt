use Rattle.std.proofs.Common.{◌^◌, sym, arith}
use Rattle.coding.proofs.Varints.{varint_reading-empty, varint_reading-small}
use Rattle.coding.proofs.varint.read_u64_varint.Goals as goal

pub returns-in-empty : goal.returns-in-empty
returns-in-empty c = sym (varint_reading-empty (2 ^ 64) c.args.bytes.now (omega arith))

pub returns-in-len1-up : goal.returns-in-len1-up
returns-in-len1-up c = sym (varint_reading-small (2 ^ 64) c.args.bytes.now (omega arith) c.if-only-lt128.true (omega arith))
