use Rattle.std.proofs.Common.{◌≡◌, take}
use Rattle.std.specs.Prelude.{fold}
use Rattle.scan.specs.Counts.{capped_plus}
use Rattle.scan.specs.Stats.{no_amounts}
use Rattle.scan.proofs.amounts.Amounts.sum.Given as goal

abbrev pub invariant-loop-amounts : goal.invariant-loop-amounts
invariant-loop-amounts l = l.sum ≡ fold capped_plus no_amounts (take l.amounts-index l.all)
