use Rattle.std.proofs.Common.{◌/◌, ◌%◌, ◌++◌, take, drop, replicate, ap, ◌∙◌, arith}
use Rattle.coding.specs.CrcWindow.{register_of_taken, the_lags}
use Rattle.coding.proofs.CrcWindows.{stands_first}
use Rattle.coding.proofs.crc.window.begun.Goals as goal

pub returns : goal.returns
returns c =
    ap (λ t. register_of_taken the_lags (take 266 (t ++ drop 4 (replicate 1290 0)))) (c.copy_from_slice.ensures.after ∙ c.to_le_bytes.ensures)
    ∙ stands_first c.args.register (c.args.register % 256) (c.args.register / 256 % 256) (c.args.register / 65536 % 256) (c.args.register / 16777216 % 256)
    (omega arith) (omega arith) (omega arith) (omega arith) (omega arith)
