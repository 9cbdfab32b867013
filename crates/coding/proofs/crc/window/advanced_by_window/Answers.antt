use Rattle.std.proofs.Common.{arith}
use Rattle.std.specs.List.{concat}
use Rattle.coding.specs.Crc.{bits_of}
use Rattle.coding.specs.CrcRegister.{register_after_bits}
use Rattle.coding.proofs.CrcWindows.{goes_more}
use Rattle.coding.proofs.crc.window.advanced_by_window.Goals as goal

pub loop-rest-preserved : goal.loop-rest-preserved
loop-rest-preserved c = record {
  goes_on =
      goes_more c.loop-rest.taken c.take_out.new.taken c.loop-rest.rest.now c.split_at.result.0.now c.split_at.result.1.now c.min.result
      (register_after_bits c.args.register (bits_of (concat c.args.chunks.now)))
      c.split_at.ensures.front c.split_at.ensures.back c.take_out.ensures c.loop-rest.invariant.goes_on;
  long = omega (arith, c.split_at.ensures.back_len, c.min.ensures, c.loop-rest-test.true);
}
