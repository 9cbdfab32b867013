use Rattle.std.proofs.Common.{◌≡◌, map}
use Rattle.merge.specs.MergedLists.{entries_of_lists}
use Rattle.pairing.specs.TestedUnion.{tested_entries}
use Rattle.pairing.proofs.two_blocks.in_a_row.Given as goal

abbrev pub invariant-loop-run : goal.invariant-loop-run
invariant-loop-run l = tested_entries l.entries.items ≡ entries_of_lists (map (λ run. tested_entries run.items) l.yielded)
