use Rattle.std.proofs.Common.{◌≡◌, ◌++◌}
use Rattle.edit.proofs.copies.copied_by_level.Given as goal

-- what is copied and what is left to copy make the whole
abbrev pub invariant-loop-level : goal.invariant-loop-level
invariant-loop-level l = l.copy.entries ++ l.level-iterator ≡ l.pointers.entries
