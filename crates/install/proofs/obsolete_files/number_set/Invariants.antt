use Rattle.std.proofs.Common.{take}
use Rattle.install.specs.NumberIn.{IsNumberSet}
use Rattle.install.proofs.obsolete_files.number_set.Given as goal

-- the set has the numbers so far
abbrev pub invariant-loop-number : goal.invariant-loop-number
invariant-loop-number l = IsNumberSet l.set (take l.number-index l.numbers)
