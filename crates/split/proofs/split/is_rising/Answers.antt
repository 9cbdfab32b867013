use Rattle.std.proofs.Common.{rules}
use Rattle.std.specs.Ordering.{is_lt}
use Rattle.std.proofs.lemmas.List.Sorted.{answers_always}
use Rattle.split.proofs.RisingKeys.{rising_if}
use Rattle.split.proofs.split.is_rising.Goals as goal

pub returns : goal.returns
returns g c =
    let cmp = g.C.Comparator.cmp in
    let tested = c.is_sorted_by.ensures.cases (λ x y. is_lt (cmp x.items y.items)) (answers_always _ _ _ (λ f a r f' called. search rules)) in
    rising_if cmp (λ key. key.items) g.met.C.Comparator.total c.args.keys.now c.is_sorted_by.result tested
