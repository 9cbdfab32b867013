use Rattle.std.proofs.lemmas.Option.{slice_get_read, slice_get_past}
use Rattle.std.proofs.Common.{◌≡◌, length, refl, true, false, Some, None, sym, rules, tests}
use Rattle.std.specs.Prelude.{slice_get, nat_lt}
use Rattle.std.specs.List.Sorted.{IsPartitionPoint}
use Rattle.std.proofs.lemmas.List.Sorted.{IsPartitionPoint-from_clause}
use Rattle.keep.proofs.RisingSearch.{needed_at, needed_none, partitioned}
use Rattle.keep.proofs.rule.is_needed.Goals as goal

pub returns-in-Some : goal.returns-in-Some
returns-in-Some c =
    let xs = c.args.listed.now in
    let parts : IsPartitionPoint (λ s. nat_lt s c.args.older ≡ true) (λ s. nat_lt s c.args.older ≡ false) xs c.partition_point.result =
    IsPartitionPoint-from_clause (λ s. nat_lt s c.args.older) xs c.partition_point.result c.partition_point.ensures.partitioned (partitioned c.args.older xs c.requires) (λ a r f q. search (rules, tests)) in
    let at : slice_get xs c.partition_point.result ≡ Some c.in-Some.least.now = slice_get_read xs (length xs) c.partition_point.result c.in-Some.least.now refl c.in-Some.ensures.lookup.3.0 c.in-Some.ensures.lookup.1 in
    needed_at c.args.older c.args.newer c.in-Some.least.now xs c.partition_point.result c.requires parts at

pub returns-in-None : goal.returns-in-None
returns-in-None c =
    let xs = c.args.listed.now in
    let parts : IsPartitionPoint (λ s. nat_lt s c.args.older ≡ true) (λ s. nat_lt s c.args.older ≡ false) xs c.partition_point.result =
    IsPartitionPoint-from_clause (λ s. nat_lt s c.args.older) xs c.partition_point.result c.partition_point.ensures.partitioned (partitioned c.args.older xs c.requires) (λ a r f q. search (rules, tests)) in
    let at : slice_get xs c.partition_point.result ≡ None = slice_get_past xs c.partition_point.result c.in-None.ensures.lookup.3 in
    sym (needed_none c.args.older c.args.newer xs c.partition_point.result parts at)
