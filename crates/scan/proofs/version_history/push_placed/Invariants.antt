use Rattle.std.proofs.Common.{◌≡◌, ◌++◌, map}
use Rattle.std.specs.Vec.Iter.{into_iter_items}
use Rattle.scan.specs.PlacedEntries.{placed}
use Rattle.scan.proofs.version_history.push_placed.Given as goal

-- what was appended and what is left make the whole
abbrev pub invariant-loop-entry : goal.invariant-loop-entry
invariant-loop-entry l =
    l.found.items ++ map (placed l.level l.file) (into_iter_items l.entry-iterator) ≡ l.fn.found.items ++ map (placed l.level l.file) l.fn.entries.items
