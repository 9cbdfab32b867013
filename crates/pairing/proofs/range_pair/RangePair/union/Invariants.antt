use Rattle.std.proofs.Common.{◌≡◌, length, None}
use Rattle.std.specs.List.{AllByRecursion}
use Rattle.ikey.specs.Bytewise.{bytewise_cmp}
use Rattle.merge.specs.MergedLists.{merged}
use Rattle.pairing.specs.TestedUnion.{IsLimited, distinct_after, last_key_or, tested_entries, union_of}
use Rattle.pairing.proofs.TestedLists.{with_front}
use Rattle.pairing.proofs.range_pair.RangePair.union.Given as goal

abbrev pub invariant-loop-alloc : goal.invariant-loop-alloc
invariant-loop-alloc l = record {
  so_far : with_front (tested_entries l.union.items) (distinct_after (last_key_or None (tested_entries l.union.items)) (merged bytewise_cmp l.merging)) ≡ union_of l.self;
  limited : AllByRecursion IsLimited (merged bytewise_cmp l.merging);
}

abbrev pub decreases-loop-alloc : goal.decreases-loop-alloc
decreases-loop-alloc l = length (merged bytewise_cmp l.merging)
