use Rattle.std.proofs.Common.{take}
use Rattle.usage.specs.CompactLine.{AreNumbers}
use Rattle.usage.proofs.NumberLists.{texts_of}
use Rattle.usage.proofs.compact_line.numbers_in.Given as goal

abbrev pub invariant-loop-numeral : goal.invariant-loop-numeral
invariant-loop-numeral l = AreNumbers (texts_of (take l.numeral-index l.numerals)) l.numbers.items
