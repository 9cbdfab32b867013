use Rattle.std.proofs.Common.{◌≡◌, ◌++◌, map}
use Rattle.edit.specs.VersionOrder.{pointer_entry}
use Rattle.edit.proofs.snapshot.all_pointers.Given as goal

-- what is copied and what is left to copy make the whole
abbrev pub invariant-loop-level : goal.invariant-loop-level
invariant-loop-level l = l.all.items ++ map pointer_entry l.level-iterator ≡ map pointer_entry l.pointers.entries
