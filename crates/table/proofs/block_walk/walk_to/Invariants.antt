use Rattle.std.proofs.Common.{◌≡◌, length}
use Rattle.table.specs.EntriesFrom.{entries_from}
use Rattle.table.specs.EntryTests.{HaveKeys}
use Rattle.table.proofs.block_walk.walk_to.Given as goal

abbrev pub invariant-loop-entries : goal.invariant-loop-entries
invariant-loop-entries g l = record {
  from : entries_from g.C.Comparator.cmp l.target.bytes.now l.entries ≡ entries_from g.C.Comparator.cmp l.target.bytes.now l.initial.entries;
  keys : HaveKeys l.entries;
}

abbrev pub decreases-loop-entries : goal.decreases-loop-entries
decreases-loop-entries g l = length l.entries
