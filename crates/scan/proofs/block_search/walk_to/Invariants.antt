use Rattle.std.proofs.Common.{◌≡◌, length}
use Rattle.table.specs.EntriesFrom.{entries_from}
use Rattle.table.specs.EntryTests.{HaveKeys}
use Rattle.scan.proofs.block_search.walk_to.Given as goal

abbrev pub invariant-loop-entries : goal.invariant-loop-entries
invariant-loop-entries g l = HaveKeys l.initial.entries → HaveKeys l.entries × (entries_from g.C.Comparator.cmp l.target.bytes.now l.entries ≡ entries_from g.C.Comparator.cmp l.target.bytes.now l.initial.entries)

abbrev pub decreases-loop-entries : goal.decreases-loop-entries
decreases-loop-entries g l = length l.entries
