use Rattle.std.proofs.Common.{ℕ, ◌<◌, get_or}
use Rattle.pairing.specs.TestedUnion.{tested_entry}
use Rattle.pairing.specs.Ranges.{IsBefore}
use Rattle.pairing.specs.declared.tested_entry.TestedEntry.{TestedEntry}
use Rattle.pairing.proofs.parted_entries.first_from.Given as goal

abbrev pub invariant-loop-place : goal.invariant-loop-place
invariant-loop-place l = (k : ℕ) (d : TestedEntry) → k < l.place → IsBefore l.at (tested_entry (get_or l.entries k d))
