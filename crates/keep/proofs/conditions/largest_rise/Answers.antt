use Rattle.std.proofs.Common.{rules}
use Rattle.std.specs.Ordering.{is_lt}
use Rattle.std.proofs.lemmas.List.Sorted.{answers_always}
use Rattle.ikey.specs.Order.{internal_cmp}
use Rattle.reads.specs.meta.FileMeta.{FileMeta}
use Rattle.keep.proofs.RisingTests.{largest_is}
use Rattle.keep.proofs.conditions.largest_rise.Goals as goal

pub returns : goal.returns
returns g c =
    let cmp = g.C.Comparator.cmp in
    let tested = c.is_sorted_by.ensures.cases (λ (x y : FileMeta). is_lt (internal_cmp cmp x.largest y.largest)) (answers_always _ _ _ (λ f a r f' called. search rules)) in
    largest_is cmp g.met.C.Comparator.total c.args.grandparents.now c.is_sorted_by.result tested
