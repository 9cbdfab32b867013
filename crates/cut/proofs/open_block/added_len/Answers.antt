use Rattle.std.proofs.Common.{length, ap, arith}
use Rattle.cut.proofs.Walks.{left_within}
use Rattle.cut.proofs.open_block.added_len.Goals as goal

pub overflow_sub-bytes : goal.overflow_sub-bytes
overflow_sub-bytes c =
    let fits = left_within c.args.since c.left_out-shared.result c.args.walk.now.before c.args.walk.now.rest c.key-key.result.bytes.now c.left_out-shared.ensures c.key-key.ensures in
    omega (arith, fits, ap length c.bytes.ensures)
