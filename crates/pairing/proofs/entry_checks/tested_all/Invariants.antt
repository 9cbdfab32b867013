use Rattle.std.proofs.Common.{◌≡◌, length, None}
use Rattle.pairing.specs.TestedUnion.{last_key_or, tested_entries}
use Rattle.pairing.specs.EntryTests.{tested_after}
use Rattle.pairing.proofs.TestedLists.{with_front}
use Rattle.pairing.proofs.entry_checks.tested_all.Given as goal

abbrev pub invariant-loop-alloc : goal.invariant-loop-alloc
invariant-loop-alloc l = with_front (tested_entries l.entries.items) (tested_after (last_key_or None (tested_entries l.entries.items)) l.cursor) ≡ tested_after None l.initial.cursor

abbrev pub decreases-loop-alloc : goal.decreases-loop-alloc
decreases-loop-alloc l = length l.cursor
