use Rattle.usage.proofs.NumberLists.{read_more}
use Rattle.usage.proofs.compact_line.numbers_in.Goals as goal

pub loop-numeral-preserved : goal.loop-numeral-preserved
loop-numeral-preserved c =
    read_more c.args.numerals.now c.loop-numeral.numeral-index _ c.loop-numeral-test.true c.loop-numeral.numbers.items c.push.new.self.items c.in-Some.number
    c.loop-numeral.invariant c.in-Some.ensures.0 c.in-Some.ensures.1 c.in_ok-push-in-Some.ensures.items
