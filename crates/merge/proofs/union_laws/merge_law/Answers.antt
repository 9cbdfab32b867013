use Rattle.merge.proofs.OneMerge.{merged_is_merge, one_merge}
use Rattle.merge.proofs.union_laws.merge_law.Goals as goal

pub returns : goal.returns
returns g c =
    let cmp = g.C.Comparator.cmp in
    let total = g.met.C.Comparator.total in
    record { is_merge = merged_is_merge cmp total; one = one_merge cmp total }
