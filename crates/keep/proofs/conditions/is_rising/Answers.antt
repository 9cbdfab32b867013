use Rattle.std.proofs.Common.{rules, tests}
use Rattle.std.specs.Prelude.{nat_lt}
use Rattle.std.proofs.lemmas.List.Sorted.{answers_always}
use Rattle.keep.proofs.Neighbours.{increasing_if}
use Rattle.keep.proofs.RisingTests.{rise_is}
use Rattle.keep.proofs.conditions.is_rising.Goals as goal

pub returns-clause-test : goal.returns-clause-test
returns-clause-test c =
    let tested = c.is_sorted_by.ensures.cases (λ x y. nat_lt x y) (answers_always _ _ _ (λ f a r f' called. search (rules, tests))) in
    rise_is c.args.listed.now c.is_sorted_by.result tested

pub returns-clause-rising : goal.returns-clause-rising
returns-clause-rising c =
    let tested = c.is_sorted_by.ensures.cases (λ x y. nat_lt x y) (answers_always _ _ _ (λ f a r f' called. search (rules, tests))) in
    increasing_if c.args.listed.now c.is_sorted_by.result tested
