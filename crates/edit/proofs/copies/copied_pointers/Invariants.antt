use Rattle.std.proofs.Common.{◌≡◌, ◌++◌, drop}
use Rattle.edit.proofs.copies.copied_pointers.Given as goal

-- what is copied and what is left to copy make the whole
abbrev pub invariant-loop-pointer : goal.invariant-loop-pointer
invariant-loop-pointer l = l.copies.items ++ drop l.pointer-index l.pointers ≡ l.pointers
