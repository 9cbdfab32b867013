use Rattle.std.proofs.Common.{◌≡◌, length}
use Rattle.ikey.specs.Bytewise.{bytewise_cmp}
use Rattle.table.specs.EntriesFrom.{entries_from}
use Rattle.pairing.proofs.tested_cursor.TestedCursorCursorBytewise.seek.Given as goal

abbrev pub invariant-loop-self : goal.invariant-loop-self
invariant-loop-self l = entries_from bytewise_cmp l.target.bytes.now l.self ≡ entries_from bytewise_cmp l.target.bytes.now l.initial.self

abbrev pub decreases-loop-self : goal.decreases-loop-self
decreases-loop-self l = length l.self
