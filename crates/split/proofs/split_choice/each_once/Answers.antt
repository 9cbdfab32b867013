use Rattle.std.proofs.Common.{rules}
use Rattle.std.specs.Ordering.{is_lt}
use Rattle.std.proofs.lemmas.List.Filters.{dedup_is}
use Rattle.std.proofs.lemmas.List.Sorted.{ranks_by, answers_always}
use Rattle.split.proofs.Sorted.{each_once_is, same_keys}
use Rattle.split.proofs.split_choice.each_once.Goals as goal

pub returns-clause-once : goal.returns-clause-once
returns-clause-once g c =
    let cmp = g.C.Comparator.cmp in
    let total = g.met.C.Comparator.total in
    let exact = g.met.C.Comparator.exact in
    let order = c.in_ok-sort_by.ensures.sorted (λ x y. is_lt (cmp x.now y.now)) (ranks_by total (λ key. key.now)) (answers_always _ _ _ (λ f a r f' called. search rules)) in
    let is = dedup_is (same_keys cmp total exact (λ key. key.now)) c.sort_by.new.self.items c.dedup.new.self.items c.dedup.ensures.filtered in
    each_once_is cmp total exact (λ key. key.now) c.args.keys.items c.sort_by.new.self.items c.dedup.new.self.items c.sort_by.ensures.permutation order is
