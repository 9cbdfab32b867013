use Rattle.std.proofs.Common.{get_or, subst, sym, take, arith}
use Rattle.std.proofs.lemmas.List.{take_more}
use Rattle.install.specs.NumberIn.{IsNumberSet}
use Rattle.install.proofs.NumberSets.{all_fit, set_more}
use Rattle.install.proofs.obsolete_files.number_set.Goals as goal

pub returns-in_err-insert-clause-small : goal.returns-in_err-insert-clause-small
returns-in_err-insert-clause-small c = all_fit c.args.numbers.now (λ i. omega (arith, c.type_inv.numbers i))

pub loop-number-preserved : goal.loop-number-preserved
loop-number-preserved c =
    let numbers = c.args.numbers.now in
    let i = c.loop-number.number-index in
    subst (IsNumberSet c.insert.new.self) (sym (take_more numbers i 0 c.loop-number-test.true))
    (set_more c.loop-number.set c.insert.new.self (take i numbers) (get_or numbers i 0) c.loop-number.invariant c.in_ok-insert.ensures.updates)

pub returns-clause-small : goal.returns-clause-small
returns-clause-small c = all_fit c.args.numbers.now (λ i. omega (arith, c.type_inv.numbers i))
