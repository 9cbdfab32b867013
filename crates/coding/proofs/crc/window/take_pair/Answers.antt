use Rattle.coding.proofs.CrcWindows.{out_pair}
use Rattle.coding.proofs.crc.window.take_pair.Goals as goal

pub returns : goal.returns
returns c =
    out_pair c.args.taken.now c.take_one.new.taken c.take_one-2.new.taken c.args.place c.args.pair.now c.told-pair c.take_one.ensures c.take_one-2.ensures
