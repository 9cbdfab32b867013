use Rattle.std.proofs.Common.{arith}
use Rattle.texts.proofs.DigitLemmas.{digits_appended}
use Rattle.texts.proofs.digits.push_digits.Goals as goal

pub returns-clause-ok : goal.returns-clause-ok
returns-clause-ok c =
    digits_appended c.args.out.now.items c.resize.new.self.items c.write_digits.new.room c.args.bytes.now c.len-from.result c.in-Some.end _ c.resize.new.self.len
    (omega arith) (omega arith) (omega arith) c.in_ok-resize.ensures.len c.in_ok-resize.ensures.items c.write_digits.ensures
