use Rattle.coding.specs.CrcWindow.{the_lags}
use Rattle.coding.proofs.CrcWindows.{the_lags_within, sums_are}
use Rattle.coding.proofs.crc.window.with_taken.Goals as goal

pub returns-clause-sum : goal.returns-clause-sum
returns-clause-sum c = sums_are 1290 the_lags c.args.place c.args.taken.now c.args.chunk.now the_lags_within c.requires.from c.requires.to c.told-taken
